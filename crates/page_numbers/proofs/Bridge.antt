-- From the integers to the native naturals, so that `omega` closes linear goals on ℤ.
-- A number is up - dn. Sums: list `+law a b` for each sum that stands in the goal or in a hypothesis.
use mathlib.Core.Path.{◌≡◌, refl, ap}
use mathlib.Core.Bool.{Bool, true, false, not, cond}
use Prim.Native.Nat.{ℕ, zero, suc, ◌+◌, ◌-◌, ◌≤◌, ◌<◌}
use native.Mathlib.Omega.{arith}
use lib.IntN.{ℤ, pos, negsuc, ◌+ℤ◌, neg_ℤ, sub_ℕ}
use lib.Dec.{T, ltb, ltb→lt, nltb→le, leb→le, le→leb, lt→ltb}
use lib.Signed.{◌≤ℤ◌, ◌<ℤ◌, le_z, lt_z, lt_z_yes, lt_z_no}
use mathlib.Core.Logic.{◌⊎◌, inl, inr}
use Rattle.page_numbers.specs.Numbers.{up, dn, min_z}

sub_law : (a b : ℕ) → up (sub_ℕ a b) + b ≡ dn (sub_ℕ a b) + a
sub_law a b = go (ltb a b) (λ t. ltb→lt a b t) (λ t. nltb→le a b t)
  where
    go : (c : Bool) → (T c → a < b) → (T (not c) → b ≤ a) → up (cond c (negsuc (b - suc a)) (pos (a - b))) + b ≡ dn (cond c (negsuc (b - suc a)) (pos (a - b))) + a
    go true f g = omega (arith, f tt)
    go false f g = omega (arith, g tt)

pub +law : (a b : ℤ) → up (a +ℤ b) + (dn a + dn b) ≡ dn (a +ℤ b) + (up a + up b)
+law (pos a) (pos b) = omega arith
+law (pos a) (negsuc b) = omega (arith, sub_law a (suc b))
+law (negsuc a) (pos b) = omega (arith, sub_law b (suc a))
+law (negsuc a) (negsuc b) = omega arith

-- what a sum's parts are at most: with `+law` this is all of it
pub +up : (a b : ℤ) → up (a +ℤ b) ≤ up a + up b
+up (pos a) (pos b) = omega arith
+up (pos a) (negsuc b) = go (ltb a (suc b))
  where
    go : (c : Bool) → up (cond c (negsuc (suc b - suc a)) (pos (a - suc b))) ≤ a + 0
    go true = omega arith
    go false = omega arith
+up (negsuc a) (pos b) = go (ltb b (suc a))
  where
    go : (c : Bool) → up (cond c (negsuc (suc a - suc b)) (pos (b - suc a))) ≤ 0 + b
    go true = omega arith
    go false = omega arith
+up (negsuc a) (negsuc b) = omega arith

pub +dn : (a b : ℤ) → dn (a +ℤ b) ≤ dn a + dn b
+dn a b = omega (arith, +up a b, +law a b)

pub neg_up : (a : ℤ) → up (neg_ℤ a) ≡ dn a
neg_up (pos zero) = refl
neg_up (pos (suc n)) = refl
neg_up (negsuc n) = refl

pub neg_dn : (a : ℤ) → dn (neg_ℤ a) ≡ up a
neg_dn (pos zero) = refl
neg_dn (pos (suc n)) = refl
neg_dn (negsuc n) = refl

-- the order, both ways
pub from_le_z : (a b : ℤ) → T (le_z a b) → up a + dn b ≤ up b + dn a
from_le_z (pos a) (pos b) h = omega (arith, leb→le a b h)
from_le_z (pos a) (negsuc b) h = absurd h
from_le_z (negsuc a) (pos b) h = omega arith
from_le_z (negsuc a) (negsuc b) h = omega (arith, leb→le b a h)

pub to_le_z : (a b : ℤ) → up a + dn b ≤ up b + dn a → T (le_z a b)
to_le_z (pos a) (pos b) h = le→leb a b (omega arith)
to_le_z (pos a) (negsuc b) h = omega arith
to_le_z (negsuc a) (pos b) h = tt
to_le_z (negsuc a) (negsuc b) h = le→leb b a (omega arith)

pub from_lt_z : (a b : ℤ) → T (lt_z a b) → up a + dn b < up b + dn a
from_lt_z (pos a) (pos b) h = omega (arith, ltb→lt a b h)
from_lt_z (pos a) (negsuc b) h = absurd h
from_lt_z (negsuc a) (pos b) h = omega arith
from_lt_z (negsuc a) (negsuc b) h = omega (arith, ltb→lt b a h)

pub to_lt_z : (a b : ℤ) → up a + dn b < up b + dn a → T (lt_z a b)
to_lt_z (pos a) (pos b) h = lt→ltb a b (omega arith)
to_lt_z (pos a) (negsuc b) h = omega arith
to_lt_z (negsuc a) (pos b) h = tt
to_lt_z (negsuc a) (negsuc b) h = lt→ltb b a (omega arith)

pub ≤_out : {a b : ℤ} → a ≤ℤ b → up a + dn b ≤ up b + dn a
≤_out {a} {b} h = from_le_z a b h.le

pub ≤_in : {a b : ℤ} → up a + dn b ≤ up b + dn a → a ≤ℤ b
≤_in {a} {b} h = record { le = to_le_z a b h }

pub <_out : {a b : ℤ} → a <ℤ b → up a + dn b < up b + dn a
<_out {a} {b} h = from_lt_z a b h.lt

pub <_in : {a b : ℤ} → up a + dn b < up b + dn a → a <ℤ b
<_in {a} {b} h = record { lt = to_lt_z a b h }

pub nlt_out : {a b : ℤ} → ¬ (a <ℤ b) → up b + dn a ≤ up a + dn b
nlt_out {a} {b} f = let g : ¬ (up a + dn b < up b + dn a) = λ h. f (<_in h) in omega arith

pub nle_out : {a b : ℤ} → ¬ (a ≤ℤ b) → up b + dn a < up a + dn b
nle_out {a} {b} f = let g : ¬ (up a + dn b ≤ up b + dn a) = λ h. f (≤_in h) in omega arith

-- equations, both ways
pub eq_out : {a b : ℤ} → a ≡ b → up a + dn b ≡ up b + dn a
eq_out {a} {b} e = omega (arith, ap up e, ap dn e)

pub eq_in : (a b : ℤ) → up a + dn b ≡ up b + dn a → a ≡ b
eq_in (pos a) (pos b) h = ap pos (omega arith)
eq_in (pos a) (negsuc b) h = absurd (omega arith)
eq_in (negsuc a) (pos b) h = absurd (omega arith)
eq_in (negsuc a) (negsuc b) h = ap negsuc (omega arith)

pub ruleset ints = (arith, ≤_out, ≤_in, <_out, <_in, eq_out, eq_in)

pub not_less : {a b : ℤ} → ¬ (a <ℤ b) → b ≤ℤ a
not_less f = omega (ints, nlt_out f)

pub min_spec : (a b : ℤ) → (min_z a b ≤ℤ a) × (min_z a b ≤ℤ b) × ((min_z a b ≡ a) ⊎ (min_z a b ≡ b))
unfolding min_z
min_spec a b = go (lt_z b a) (λ t. lt_z_yes t) (λ t. lt_z_no t)
  where
    go : (c : Bool) → (T c → b <ℤ a) → (T (not c) → a ≤ℤ b) → (cond c b a ≤ℤ a) × (cond c b a ≤ℤ b) × ((cond c b a ≡ a) ⊎ (cond c b a ≡ b))
    go true f g = (omega (ints, f tt), omega ints, inr refl)
    go false f g = (omega ints, g tt, inl refl)

-- the first, where it isn't the greater
pub min_first : (a b : ℤ) → a ≤ℤ b → min_z a b ≡ a
min_first a b h = go (min_spec a b).2
  where
    go : (min_z a b ≡ a) ⊎ (min_z a b ≡ b) → min_z a b ≡ a
    go (inl e) = e
    go (inr e) = omega (ints, e, (min_spec a b).0)
