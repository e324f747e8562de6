-- What the code's numbers ask beyond `Bridge`: tests as they stand in branches, the range of a signed width, bits in two's complement,
-- and rules that open a sum or a difference where it stands.
use mathlib.Core.Path.{◌≡◌, refl, sym, subst}
use mathlib.Core.Bool.{Bool, true, false}
use Prim.Native.Nat.{ℕ, suc, ◌+◌, ◌-◌, ◌≤◌, ◌<◌, ◌^◌}
use native.Mathlib.Omega.{arith}
use lib.Dec.{T, leb, ltb, nltb→le, nleb→lt, not_T}
use lib.IntN.{ℤ, pos, negsuc, neg_ℤ, ◌+ℤ◌, ◌-ℤ◌}
use lib.Signed.{◌≤ℤ◌, le_z, lt_z, mag}
use mir.Syntax.{Width}
use mir.Val.{SFits, bits, hbits, sel, to_z, of_z}
use borrow.Author.Tests.{lt-ltb, le-ltb}
use mir.Facts.{to_z-of_z}
use Rattle.page_numbers.specs.Numbers.{up, dn}
use Rattle.page_numbers.proofs.Bridge.{+law, neg_up, neg_dn, from_le_z, to_le_z, from_lt_z, to_lt_z, ≤_out, ≤_in, <_out, <_in, eq_out, eq_in}

-- a - b
pub diff : (a b : ℤ) → up (a -ℤ b) + (dn a + up b) ≡ dn (a -ℤ b) + (up a + dn b)
diff a b = omega (arith, +law a (neg_ℤ b), neg_up b, neg_dn b)

-- one part is nothing
pub parts : (a : ℤ) → (P : Type 0) → (up a ≡ 0 → P) → (dn a ≡ 0 → P) → P
parts (pos n) P f g = g refl
parts (negsuc n) P f g = f refl

-- ---- tests as a branch leaves them

is : (t : Bool) → t ≡ true → T t
is t e = subst T (sym e) tt

isnt : (t : Bool) → t ≡ false → T t → ⊥
isnt t e h = subst T e h

lt_over : (a b : ℤ) → (T (lt_z a b) → ⊥) → up b + dn a ≤ up a + dn b
lt_over (pos a) (pos b) h = omega (arith, nltb→le a b (not_T (ltb a b) h))
lt_over (pos a) (negsuc b) h = omega arith
lt_over (negsuc a) (pos b) h = absurd (h tt)
lt_over (negsuc a) (negsuc b) h = omega (arith, nltb→le b a (not_T (ltb b a) h))

le_over : (a b : ℤ) → (T (le_z a b) → ⊥) → up b + dn a < up a + dn b
le_over (pos a) (pos b) h = omega (arith, nleb→lt a b (not_T (leb a b) h))
le_over (pos a) (negsuc b) h = omega arith
le_over (negsuc a) (pos b) h = absurd (h tt)
le_over (negsuc a) (negsuc b) h = omega (arith, nleb→lt b a (not_T (leb b a) h))

pub lt_true : (a b : ℤ) → lt_z a b ≡ true → up a + dn b < up b + dn a
lt_true a b e = from_lt_z a b (is (lt_z a b) e)

pub lt_false : (a b : ℤ) → lt_z a b ≡ false → up b + dn a ≤ up a + dn b
lt_false a b e = lt_over a b (isnt (lt_z a b) e)

pub le_true : (a b : ℤ) → le_z a b ≡ true → up a + dn b ≤ up b + dn a
le_true a b e = from_le_z a b (is (le_z a b) e)

pub le_false : (a b : ℤ) → le_z a b ≡ false → up b + dn a < up a + dn b
le_false a b e = le_over a b (isnt (le_z a b) e)

-- the tests' values, from the order
holds : (t : Bool) → T t → t ≡ true
holds true h = refl
holds false h = absurd h

fails : (t : Bool) → (T t → ⊥) → t ≡ false
fails true h = absurd (h tt)
fails false h = refl

pub true_lt : (a b : ℤ) → up a + dn b < up b + dn a → lt_z a b ≡ true
true_lt a b h = holds (lt_z a b) (to_lt_z a b h)

pub false_lt : (a b : ℤ) → up b + dn a ≤ up a + dn b → lt_z a b ≡ false
false_lt a b h = fails (lt_z a b) (λ t. no_both (from_lt_z a b t))
  where
    no_both : up a + dn b < up b + dn a → ⊥
    no_both k = omega arith

pub true_le : (a b : ℤ) → up a + dn b ≤ up b + dn a → le_z a b ≡ true
true_le a b h = holds (le_z a b) (to_le_z a b h)

pub false_le : (a b : ℤ) → up b + dn a < up a + dn b → le_z a b ≡ false
false_le a b h = fails (le_z a b) (λ t. no_both (from_le_z a b t))
  where
    no_both : up a + dn b ≤ up b + dn a → ⊥
    no_both k = omega arith

-- and the other way round, as at a `return true`
pub is_lt : (a b : ℤ) → up a + dn b < up b + dn a → true ≡ lt_z a b
is_lt a b h = sym (true_lt a b h)

pub isnt_lt : (a b : ℤ) → up b + dn a ≤ up a + dn b → false ≡ lt_z a b
isnt_lt a b h = sym (false_lt a b h)

pub is_le : (a b : ℤ) → up a + dn b ≤ up b + dn a → true ≡ le_z a b
is_le a b h = sym (true_le a b h)

pub isnt_le : (a b : ℤ) → up b + dn a < up a + dn b → false ≡ le_z a b
isnt_le a b h = sym (false_le a b h)

-- ---- the range of a signed width
fit_up : (z : ℤ) (H : ℕ) → mag z < H → up z < H + dn z
fit_up (pos n) H h = omega arith
fit_up (negsuc n) H h = omega arith

fit_dn : (z : ℤ) (H : ℕ) → mag z < H → dn z ≤ H + up z
fit_dn (pos n) H h = omega arith
fit_dn (negsuc n) H h = omega arith

fit_by : (z : ℤ) (H : ℕ) → (up z - dn z) + (dn z - suc (up z)) < H → mag z < H
fit_by (pos n) H h = omega arith
fit_by (negsuc n) H h = omega arith

pub fits_up : {w : Width} {z : ℤ} → SFits w z → up z < 2 ^ hbits w + dn z
fits_up {w} {z} f = fit_up z (2 ^ hbits w) f.sfits

pub fits_dn : {w : Width} {z : ℤ} → SFits w z → dn z ≤ 2 ^ hbits w + up z
fits_dn {w} {z} f = fit_dn z (2 ^ hbits w) f.sfits

-- both at once, as one statement (`omega` applies one rule to a hypothesis). It leaves out that z is not the power itself: where that matters, list `fits_up f`
fit_both : (z : ℤ) (H : ℕ) → mag z < H → up z + dn z ≤ H
fit_both (pos n) H h = omega arith
fit_both (negsuc n) H h = omega arith

pub of_fits : {w : Width} {z : ℤ} → SFits w z → up z + dn z ≤ 2 ^ hbits w
of_fits {w} {z} f = fit_both z (2 ^ hbits w) f.sfits

-- what a local holds, read back: list `back c.fits.x`
pub back : {w : Width} {z : ℤ} → SFits w z → up (to_z w (of_z w z)) + dn z ≡ up z + dn (to_z w (of_z w z))
back f = eq_out (to_z-of_z f)

-- the two bounds as one statement: only one of the two differences is above 0
pub to_fits : {w : Width} {z : ℤ} → (up z - dn z) + (dn z - suc (up z)) < 2 ^ hbits w → SFits w z
to_fits {w} {z} h = record { sfits = fit_by z (2 ^ hbits w) h }

-- ---- bits: what w bits stand for, by the half that they lie in
sel_true : (t : Bool) (x y : ℤ) → t ≡ true → sel t x y ≡ x
sel_true true x y e = refl
sel_true false x y e = absurd (subst T (sym e) tt)

sel_false : (t : Bool) (x y : ℤ) → t ≡ false → sel t x y ≡ y
sel_false true x y e = absurd (subst T e tt)
sel_false false x y e = refl

pub low_bits : (w : Width) (n : ℕ) → n < 2 ^ hbits w → to_z w n ≡ pos n
low_bits w n h = sel_true (ltb n (2 ^ hbits w)) (pos n) (negsuc (2 ^ bits w - suc n)) (lt-ltb n (2 ^ hbits w) h)

pub high_bits : (w : Width) (n : ℕ) → 2 ^ hbits w ≤ n → to_z w n ≡ negsuc (2 ^ bits w - suc n)
high_bits w n h = sel_false (ltb n (2 ^ hbits w)) (pos n) (negsuc (2 ^ bits w - suc n)) (le-ltb n (2 ^ hbits w) h)

-- ---- a sum or a difference that stands in the statement itself need not be listed: these go before the plain rules, since
-- `omega` takes the first rule of its list that fits

pub of_≡_minus : (r a b : ℤ) → r ≡ a -ℤ b → up r + (dn a + up b) ≡ dn r + (up a + dn b)
of_≡_minus r a b e = omega (arith, eq_out e, diff a b)

pub of_≡_plus : (r a b : ℤ) → r ≡ a +ℤ b → up r + (dn a + dn b) ≡ dn r + (up a + up b)
of_≡_plus r a b e = omega (arith, eq_out e, +law a b)

pub of_minus_≤ : (a b c : ℤ) → (a -ℤ b) ≤ℤ c → up a + dn b + dn c ≤ up c + dn a + up b
of_minus_≤ a b c h = omega (arith, ≤_out h, diff a b)

pub of_plus_≤ : (a b c : ℤ) → (a +ℤ b) ≤ℤ c → up a + up b + dn c ≤ up c + dn a + dn b
of_plus_≤ a b c h = omega (arith, ≤_out h, +law a b)

pub of_≤_plus : (a b c : ℤ) → c ≤ℤ (a +ℤ b) → up c + dn a + dn b ≤ up a + up b + dn c
of_≤_plus a b c h = omega (arith, ≤_out h, +law a b)

pub to_≡_minus : (r a b : ℤ) → up r + (dn a + up b) ≡ dn r + (up a + dn b) → r ≡ a -ℤ b
to_≡_minus r a b h = eq_in r (a -ℤ b) (omega (arith, diff a b))

pub to_≡_plus : (r a b : ℤ) → up r + (dn a + dn b) ≡ dn r + (up a + up b) → r ≡ a +ℤ b
to_≡_plus r a b h = eq_in r (a +ℤ b) (omega (arith, +law a b))

pub to_minus_≤ : (a b c : ℤ) → up a + dn b + dn c ≤ up c + dn a + up b → (a -ℤ b) ≤ℤ c
to_minus_≤ a b c h = ≤_in (omega (arith, diff a b))

pub to_plus_≤ : (a b c : ℤ) → up a + up b + dn c ≤ up c + dn a + dn b → (a +ℤ b) ≤ℤ c
to_plus_≤ a b c h = ≤_in (omega (arith, +law a b))

pub to_≤_plus : (a b c : ℤ) → up c + dn a + dn b ≤ up a + up b + dn c → c ≤ℤ (a +ℤ b)
to_≤_plus a b c h = ≤_in (omega (arith, +law a b))

pub to_fits_minus : (w : Width) (a b : ℤ) → ((up a + dn b) - (dn a + up b)) + ((dn a + up b) - suc (up a + dn b)) < 2 ^ hbits w → SFits w (a -ℤ b)
to_fits_minus w a b h = to_fits (omega (arith, diff a b))

pub to_fits_plus : (w : Width) (a b : ℤ) → ((up a + up b) - (dn a + dn b)) + ((dn a + dn b) - suc (up a + up b)) < 2 ^ hbits w → SFits w (a +ℤ b)
to_fits_plus w a b h = to_fits (omega (arith, +law a b))

-- What `omega` is handed.
--     omega (arith, machine)                     orders, equations, tests (`lt_z a b ≡ true`) and ranges, in reach and as the goal
--     omega (arith, machine, +law a b, diff a b) with a sum or a difference that no rule below opens, each listed once
--     omega (arith, held)                     at a need: `SFits w z` in reach then says that z is what its bits are read back as, and no bounds
pub ruleset sums = (of_≡_minus, of_≡_plus, of_minus_≤, of_plus_≤, of_≤_plus, to_≡_minus, to_≡_plus, to_minus_≤, to_plus_≤, to_≤_plus, to_fits_minus, to_fits_plus)

pub ruleset plain = (≤_out, <_out, eq_out, lt_true, lt_false, le_true, le_false, of_fits, ≤_in, <_in, eq_in, true_lt, false_lt, true_le, false_le, is_lt, isnt_lt, is_le, isnt_le, to_fits)

pub ruleset machine = (sums, plain)

pub ruleset held = (back, sums, plain)
