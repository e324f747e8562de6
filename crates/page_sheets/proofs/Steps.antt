-- The checker and the writer by the number of places decided, as code keeps it: i decided, the places from i on left.
use Prim.Native.Nat.{ℕ, suc, ◌≤◌, ◌<◌}
use mathlib.Core.Path.{◌≡◌, refl}
use mathlib.Core.Bool.{Bool, true, false}
use mathlib.Core.List.{List, [], ◌∷◌, ◌++◌}
use lib.ListN.{length, get_or, drop, drop_of_length-le}
use lib.Seq.{drop-cons}
use Rattle.page_numbers.specs.Outcome.{refused}
use Rattle.page_walks.specs.Grid.{Grid}
use Rattle.page_walks.specs.Nearness.{Weights}
use Rattle.page_formulas.specs.Formulas.{Formula}
use Rattle.page_formulas.specs.Knowledge.{known}
use Rattle.page_formulas.specs.Program.{Place}
use Rattle.page_sheets.specs.Facts.{decide}
use Rattle.page_sheets.specs.FastRule.{side_of, calm_node, fast}
use Rattle.page_sheets.specs.Growth.{join, open_at}
use Rattle.page_sheets.specs.Tree.{and_then, false_node, cycle_node, check}

module _ (n : ℕ) (F : Formula) (ds : List Bool) (g : Grid) where
  -- nodes 1 and 2 ask nothing of the places left
  pub check_false : (todo : List Place) (at : ℕ) (bs : List ℕ) → check (suc n) F todo ds g at (1 ∷ bs) ≡ false_node (known F.program ds) at bs
  unfolding check
  check_false [] at bs = refl
  check_false (p ∷ todo) at bs = refl

  pub check_cycle : (todo : List Place) (at : ℕ) (bs : List ℕ) → check (suc n) F todo ds g at (2 ∷ bs) ≡ cycle_node (suc n) F g at bs
  unfolding check
  check_cycle [] at bs = refl
  check_cycle (p ∷ todo) at bs = refl

  pub check_empty : (todo : List Place) (at : ℕ) → check (suc n) F todo ds g at [] ≡ refused 11 at
  unfolding check
  check_empty [] at = refl
  check_empty (p ∷ todo) at = refl

  module _ (ps : List Place) (i : ℕ) (some-place : Place) where
    pub check_split : i < length ps → (at : ℕ) (bs : List ℕ) → check (suc n) F (drop i ps) ds g at (3 ∷ bs) ≡ and_then (check (suc n) F (drop (suc i) ps) (ds ++ true ∷ []) (decide g (get_or ps i some-place) true) (suc at) bs) (λ o r. check (suc n) F (drop (suc i) ps) (ds ++ false ∷ []) (decide g (get_or ps i some-place) false) o r)
    unfolding check
    check_split h at bs = rw (drop-cons ps i some-place h)

    pub check_split_none : length ps ≤ i → (at : ℕ) (bs : List ℕ) → check (suc n) F (drop i ps) ds g at (3 ∷ bs) ≡ refused 15 at
    unfolding check
    check_split_none h at bs = rw (drop_of_length-le ps h)

    -- the fast rule, by the same number
    module _ (near : Weights) where
      pub fast_split : i < length ps → fast n F (drop i ps) ds g near ≡ calm_node (known F.program ds) (near 0) (join (side_of n F (get_or ps i some-place) (drop (suc i) ps) ds g near true) (side_of n F (get_or ps i some-place) (drop (suc i) ps) ds g near false))
      unfolding fast
      fast_split h = rw (drop-cons ps i some-place h)

      pub fast_end : length ps ≤ i → fast n F (drop i ps) ds g near ≡ calm_node (known F.program ds) (near 0) (open_at (near 0))
      unfolding fast
      fast_end h = rw (drop_of_length-le ps h)
