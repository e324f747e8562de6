-- The values of a no sheet at the vertices, one field at a time; and the truth of every place at them.
use Prim.Native.Nat.{ℕ, zero, suc, ◌+◌, ◌≤◌, ◌<◌}
use mathlib.Core.Path.{◌≡◌, refl, sym, ap, ◌∙◌}
use mathlib.Core.Bool.{Bool, true, false, cond}
use mathlib.Core.List.{List, [], ◌∷◌, ◌++◌, append-nil}
use native.Mathlib.Numerals.{add-one}
use native.Mathlib.Omega.{arith}
use borrow.Author.Tests.{lt-ltb, le-ltb, ltb-true, ltb-false, eqb-true, eqb-false}
use lib.Dec.{eqb, ltb}
use lib.IntN.{ℤ, pos, ◌+ℤ◌}
use lib.ListN.{length, get_or, set, replicate}
use lib.Seq.{get_or-set_same, get_or-set_other}
use mir.Syntax.{w32, w64}
use mir.Val.{SFits}
use Rattle.page_numbers.proofs.Machine.{machine, of_fits}
use Rattle.page_walks.specs.Sizes.{Bounded, least_weight}
use Rattle.program.specs.declared.types.Place.{Place}
use Rattle.page_meaning.specs.Contents.{Question}
use Rattle.page_formulas.specs.Formulas.{Formula, tabulate}
use Rattle.page_sheets.specs.Rows.{width, fields, value_at, read_values}
use Rattle.checker_rows.specs.NoSheet.{seen, test_at}
use Rattle.page_sheets.proofs.Values.{tabulate_same}

-- ---- the array of values

get_or_zeros : (n v : ℕ) → get_or (replicate n (pos 0)) v (pos 0) ≡ pos 0
get_or_zeros zero v = refl
get_or_zeros (suc n) zero = refl
get_or_zeros (suc n) (suc v) = get_or_zeros n v

pub seen_none : (n : ℕ) (s : List ℕ) (v : ℕ) → get_or (replicate n (pos 0)) v (pos 0) ≡ seen s 0 v
seen_none n s zero = get_or_zeros n 0
seen_none n s (suc j) = get_or_zeros n (suc j) ∙ sym (ap (λ b. cond b (value_at s j) (pos 0)) (le-ltb j 0 (omega arith)))

-- one more field
pub seen_more : (s : List ℕ) (x : List ℤ) (j : ℕ) → j + 1 < length x → ((v : ℕ) → get_or x v (pos 0) ≡ seen s j v) → (v : ℕ) → get_or (set x (j + 1) (value_at s j)) v (pos 0) ≡ seen s (j + 1) v
seen_more s x j l h zero = get_or-set_other x (j + 1) 0 (value_at s j) (pos 0) (λ e. omega (arith, e)) ∙ h 0
seen_more s x j l h (suc k) = go (eqb k j) refl
  where
    go : (b : Bool) → eqb k j ≡ b → get_or (set x (j + 1) (value_at s j)) (suc k) (pos 0) ≡ cond (ltb k (j + 1)) (value_at s k) (pos 0)
    go true e = let d : k ≡ j = eqb-true k j e in rw (lt-ltb k (j + 1) (omega arith), d, ← add-one j) (get_or-set_same x (j + 1) (value_at s j) (pos 0) l)
    go false e =
        get_or-set_other x (j + 1) (suc k) (value_at s j) (pos 0) (λ d. eqb-false k j e (omega (arith, d)))
        ∙ h (suc k)
        ∙ ap (λ b. cond b (value_at s k) (pos 0)) (same (ltb k j) refl)
      where
        same : (b : Bool) → ltb k j ≡ b → ltb k j ≡ ltb k (j + 1)
        same true t = t ∙ sym (lt-ltb k (j + 1) (omega (arith, ltb-true k j t)))
        same false t = t ∙ sym (le-ltb k (j + 1) (beyond (ltb-false k j t)))
          where
            beyond : j ≤ k → j + 1 ≤ k
            beyond b = omega (arith, eqb-false k j e)

-- ---- what the fields of a formula's rows stand for

-- the two rows are one list
tabulate_more : (n m k : ℕ) (f g : ℕ → ℤ) → k ≡ n + m → ((c : ℕ) → g c ≡ f (n + c)) → tabulate n f ++ tabulate m g ≡ tabulate k f
unfolding tabulate
tabulate_more zero m k f g l e = let d : k ≡ m = omega arith in rw d (tabulate_same m g f (λ c h. e c ∙ ap f (omega arith)))
tabulate_more (suc n) m zero f g l e = absurd (omega arith)
tabulate_more (suc n) m (suc k) f g l e = ap (λ r. f 0 ∷ r) (tabulate_more n m k (λ i. f (suc i)) g (omega arith) (λ c. e c ∙ ap f (omega arith)))

tabulate_at : (n : ℕ) (f : ℕ → ℤ) (j : ℕ) → cond (ltb j n) (f j) (pos 0) ≡ get_or (tabulate n f) j (pos 0)
unfolding tabulate
tabulate_at zero f j = rw (le-ltb j 0 (omega arith))
tabulate_at (suc n) f zero = rw (lt-ltb 0 (suc n) (omega arith))
tabulate_at (suc n) f (suc j) = ap (λ b. cond b (f (suc j)) (pos 0)) (same (ltb j n) refl) ∙ tabulate_at n (λ i. f (suc i)) j
  where
    same : (b : Bool) → ltb j n ≡ b → ltb (suc j) (suc n) ≡ ltb j n
    same true t = lt-ltb (suc j) (suc n) (omega (arith, ltb-true j n t)) ∙ sym t
    same false t = le-ltb (suc j) (suc n) (omega (arith, ltb-false j n t)) ∙ sym t

pub seen_read : (q : Question) (F : Formula) (s : List ℕ) (v : ℕ) → seen s (fields q F) v ≡ read_values q F s v
seen_read q F s zero = refl
seen_read q F s (suc j) = go F.pairs
  where
    w : ℕ
    w = width q

    go : (b : Bool) → cond (ltb j (cond b (w + w) w)) (value_at s j) (pos 0) ≡ get_or (tabulate w (value_at s) ++ cond b (tabulate w (λ c. value_at s (w + c))) []) j (pos 0)
    go true = rw (tabulate_more w w (w + w) (value_at s) (λ c. value_at s (w + c)) refl (λ c. refl)) (tabulate_at (w + w) (value_at s) j)
    go false = rw (append-nil (tabulate w (value_at s))) (tabulate_at w (value_at s) j)

-- ---- the places

pub wide_fits : (x : ℤ) → SFits w32 x → SFits w64 x
wide_fits x f = omega (arith, machine, of_fits f)

pub sum_fits : (y k : ℤ) → SFits w32 y → Bounded least_weight k → SFits w64 (y +ℤ k)
sum_fits y k a b = omega (arith, machine, of_fits a, b.high, b.low)

-- one more place
pub tested_more : (x : List ℤ) (ps : List Place) (t : List Bool) (i : ℕ) (v : Bool) → i < length t → ((k : ℕ) → k < i → get_or t k false ≡ test_at x ps k) → v ≡ test_at x ps i → (k : ℕ) → k < i + 1 → get_or (set t i v) k false ≡ test_at x ps k
tested_more x ps t i v l h e k b = go (eqb k i) refl
  where
    go : (c : Bool) → eqb k i ≡ c → get_or (set t i v) k false ≡ test_at x ps k
    go true c = let d : k ≡ i = eqb-true k i c in rw d (get_or-set_same t i v false l ∙ e)
    go false c = get_or-set_other t i k v false (eqb-false k i c) ∙ h k (omega (arith, eqb-false k i c))
