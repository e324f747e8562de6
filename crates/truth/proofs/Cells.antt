-- A value pushed on the stack: the old top goes into a cell above those that hold the others.
use Rattle.std.proofs.Common.{ℕ, zero, suc, ◌<◌, ◌≡◌, refl, ap, ap₂, List, ◌∷◌, length, set, arith}
use Rattle.std.proofs.lemmas.List.{get_or-set_same, get_or-set_other}
use Rattle.truth.specs.Values.{three_of, below, values}
use Rattle.truth.specs.declared.truths.Truth.{Truth}
use Rattle.truth.specs.declared.truths.Truth.TheVariants.{Fails}

below_same : (cells : List Truth) (v : Truth) (i h : ℕ) → h < i → below (set cells i v) h ≡ below cells h
below_same cells v i zero l = refl
below_same cells v i (suc h) l = ap₂ (λ a st. three_of a ∷ st) (get_or-set_other cells i (suc h) v Fails (omega arith)) (below_same cells v i h (omega arith))

pub put : (cells : List Truth) (top : Truth) (h : ℕ) → h < length cells → below (set cells h top) h ≡ values cells top h
put cells top zero l = refl
put cells top (suc h) l = ap₂ (λ a st. three_of a ∷ st) (get_or-set_same cells (suc h) top Fails l) (below_same cells top (suc h) h (omega arith))

pub values_long : (cells : List Truth) (top : Truth) (h : ℕ) → length (values cells top h) ≡ h
values_long cells top zero = refl
values_long cells top (suc h) = ap suc (below_long h)
  where
    below_long : (k : ℕ) → length (below cells k) ≡ k
    below_long zero = refl
    below_long (suc k) = ap suc (below_long k)
