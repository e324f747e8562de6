-- How a row of least sums is started, and what one edge more makes of it.
use Prim.Native.Nat.{ℕ, ◌+◌, ◌-◌, ◌≤◌, ◌<◌}
use mathlib.Core.Path.{◌≡◌, ◌∙◌}
use mathlib.Core.List.{List}
use native.Mathlib.Omega.{arith}
use native.Mathlib.Numerals.{add-one}
use lib.ListN.{length, get_or}
use lib.IntN.{ℤ, pos, ◌+ℤ◌}
use Rattle.page_meaning.specs.Limits.{most_vertices}
use Rattle.page_walks.specs.Grid.{Grid, weight}
use Rattle.page_walks.specs.Sizes.{wide, filled, RowWithin}
use Rattle.page_walks.specs.Search.{least, best}
use Rattle.grid.specs.Edges.{Summable}
use Rattle.sums.specs.SumsBack.{Back}
use Rattle.page_walks.proofs.Rows.{filled_length, filled_at}
use Rattle.page_walks.proofs.BestSums.{best_wide, best_next}

module _ (g : Grid) (n : ℕ) (m : Summable n g) where
  pub back_first : (s : ℕ) (old r : List ℤ) → length old ≡ most_vertices → r ≡ filled (λ v. weight g v s) n old → Back g n s 0 r
  unfolding best
  back_first s old r l e =
      let f : ℕ → ℤ = λ v. weight g v s in
      rw e (record { long = filled_length f n old ∙ l; sum_is = λ v hv. filled_at f n old v (pos 0) hv (omega (arith, m)) })

  pub back_next : (s j : ℕ) (row old r : List ℤ) → length old ≡ most_vertices → Back g n s j row → r ≡ filled (λ v. least (λ u. weight g v u +ℤ get_or row u (pos 0)) (n - 1)) n old → Back g n s (j + 1) r
  back_next s j row old r l b e =
      let f : ℕ → ℤ = λ v. least (λ u. weight g v u +ℤ get_or row u (pos 0)) (n - 1) in
      rw (e, add-one) (record {
        long = filled_length f n old ∙ l;
        sum_is = λ v hv. filled_at f n old v (pos 0) hv (omega (arith, m)) ∙ best_next g n m.some m.within j s v (λ u. get_or row u (pos 0)) b.sum_is;
      })

  pub back_within : (s j : ℕ) (row : List ℤ) → s < n → j ≤ most_vertices → Back g n s j row → RowWithin wide n row
  back_within s j row hs hj b = record { entry = λ v hv. rw (b.sum_is v hv) (best_wide g n m.some m.within j s v hj hs hv) }
