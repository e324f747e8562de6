-- Least sums that say the same as a grid's facts, at the formula's vertices; of other vertices nothing is asked. They tell what the search
-- finds, and one fact more on both sides keeps it so.
use Prim.Native.Nat.{ℕ, suc, ◌≤◌, ◌<◌}
use mathlib.Core.Path.{◌≡◌, refl}
use mathlib.Core.Option.{Option, none, some}
use mathlib.Core.List.{List, []}
use native.Mathlib.Omega.{arith}
use lib.ListN.{length}
use lib.Dec.{T}
use lib.IntN.{pos, ◌+ℤ◌}
use lib.Signed.{◌≤ℤ◌, ◌<ℤ◌}
use Rattle.page_numbers.proofs.Bridge.{+law, ints}
use Rattle.page_walks.specs.Grid.{Grid, weight, tighten}
use Rattle.page_walks.specs.Nearness.{Weights, Least}
use Rattle.page_walks.specs.Search.{search, dist}
use Rattle.page_walks.specs.Shortest.{Answer}
use Rattle.page_walks.specs.Walk.{Sat}
use Rattle.page_walks.proofs.Grids.{tighten_le, tighten_new}
use Rattle.page_walks.proofs.Nearness.{least_sat, relax_least, relaxed_old, relaxed_fact, relaxed_both, fact_round}
use Rattle.page_walks.proofs.Search.{search_is, dist_greatest}
use Rattle.page_walks.proofs.Walks.{sound}
use Rattle.page_questions.specs.Guarantees.{Every}
use Rattle.page_formulas.specs.Program.{Values, Place}
use Rattle.page_formulas.specs.Vertices.{InRange, Ranges, present}
use Rattle.page_formulas.specs.ProperFormulas.{SmallRange}
use Rattle.page_sheets.specs.Facts.{start}
use Rattle.page_sheets.specs.FastRule.{after}
use Rattle.page_sheets.proofs.Fit.{present_below}
use Rattle.page_sheets.proofs.HeldFacts.{InBounds, bounds_start, sat_loosen, records_start}
use Rattle.page_sheets.proofs.MetFacts.{Meets, meets_tighten, meets_start}
use Rattle.page_sheets.proofs.AbsentVertices.{settle, settle_there, settle_sat}

-- least sums of the ranges: the values that meet them are those in range, with 0 where the formula has no vertex
pub record OfRanges (rs : Ranges) (near : Weights) : Type 0 where
  pub least : Least (suc (length rs)) near
  pub inside : (x : Values) → x 0 ≡ pos 0 → Sat near (suc (length rs)) x → InRange rs x
  pub settled : (x : Values) → InRange rs x → Sat near (suc (length rs)) (settle rs x)

-- values that meet the sums meet the grid's facts between the formula's vertices, and the other way round
pub record SameFacts (n : ℕ) (rs : Ranges) (g : Grid) (near : Weights) : Type 0 where
  pub bounds : InBounds (suc n) rs g
  pub least : Least (suc (length rs)) near
  pub meets : (x : Values) → x 0 ≡ pos 0 → Sat near (suc (length rs)) x → Meets rs g x
  pub settled : (x : Values) → x 0 ≡ pos 0 → Sat (weight g) (suc n) x → Sat near (suc (length rs)) (settle rs x)

module _ (n : ℕ) (rs : Ranges) (l : length rs ≤ n) where
  pub same_start : Every SmallRange rs → (near : Weights) → OfRanges rs near → SameFacts n rs (start (suc n) rs) near
  same_start small near o = record {
    bounds = bounds_start (suc n) rs small;
    least = o.least;
    meets = λ x z s. meets_start (suc n) rs x (o.inside x z s) small;
    settled = λ x z s. o.settled x (records_start (suc n) rs [] (omega arith) x z s).0;
  }

  module _ (g : Grid) (near : Weights) (c : SameFacts n rs g near) where
    -- ---- the search, by the sums

    -- the row of vertex 0, with 0 elsewhere, meets the facts
    first_row_lem : Sat (weight g) (suc n) (settle rs (near 0))
    first_row_lem =
        let z = c.least.itself 0 (omega arith) in
        settle_sat rs (near 0) n g c.bounds z (c.meets (near 0) z (least_sat (suc (length rs)) near c.least (omega arith)))

    -- there is no negative cycle
    pub none_found : search (weight g) n ≡ none
    none_found = go (search (weight g) n) (search_is (weight g) n)
      where
        go : (o : Option (List ℕ)) → Answer (weight g) n o → o ≡ none
        go none r = refl
        go (some p) r = absurd (sound (weight g) (suc n) (settle rs (near 0)) first_row_lem p r.below r.negative)

    -- and the row is the greatest assignment
    pub dist_row : (v : ℕ) → T (present rs v) → dist (weight g) n v ≡ near 0 v
    unfolding Sat
    dist_row v t =
        let m = dist_greatest (weight g) n (rw none_found at (search_is (weight g) n)) in
        let x = dist (weight g) n in
        let h : v ≤ length rs = present_below rs v t in
        let s = c.settled x m.at_zero m.meets 0 v (omega arith) (omega arith) in
        omega (ints, m.most (settle rs (near 0)) (c.least.itself 0 (omega arith)) first_row_lem v (omega arith), settle_there rs (near 0) v t, s, settle_there rs x v t, m.at_zero, +law (x 0) (near 0 v))

    -- ---- one fact more, between vertices of the formula
    module _ (q : Place) (hl : T (present rs q.left)) (hr : T (present rs q.right)) where
      left_few : q.left < suc (length rs)
      left_few = omega (arith, present_below rs q.left hl)

      right_few : q.right < suc (length rs)
      right_few = omega (arith, present_below rs q.right hr)

      abbrev more : Grid
      more = tighten g q.right q.left q.most

      -- values that meet it meet the facts so far and the new one
      old_met : (x : Values) → Sat (weight more) (suc n) x → Sat (weight g) (suc n) x
      old_met x s = sat_loosen (suc n) g more x (tighten_le g q.right q.left q.most) s

      new_met : (x : Values) → Sat (weight more) (suc n) x → settle rs x q.left ≤ℤ (settle rs x q.right +ℤ q.most)
      unfolding Sat
      new_met x s = rw (settle_there rs x q.left hl, settle_there rs x q.right hr) (omega (ints, s q.right q.left (omega (arith, right_few)) (omega (arith, left_few)), tighten_new (suc n) g q.right q.left q.most c.bounds.sized (omega (arith, right_few)) (omega (arith, left_few)), +law (x q.right) q.most, +law (x q.right) (weight more q.right q.left)))

      -- it closes a negative cycle: the search finds one
      pub some_found : (near q.left q.right +ℤ q.most) <ℤ pos 0 → (p : List ℕ) × (search (weight more) n ≡ some p)
      some_found h = go (search (weight more) n) refl
        where
          go : (o : Option (List ℕ)) → search (weight more) n ≡ o → (p : List ℕ) × (search (weight more) n ≡ some p)
          go (some p) e = (p, e)
          go none e =
              let m = dist_greatest (weight more) n (rw e at (search_is (weight more) n)) in
              let x = dist (weight more) n in
              absurd (omega (ints, fact_round (suc (length rs)) near c.least q.right q.left q.most right_few left_few (settle rs x) (c.settled x m.at_zero (old_met x m.meets)) (new_met x m.meets)))

      -- it closes none
      pub same_more : InBounds (suc n) rs more → pos 0 ≤ℤ (near q.left q.right +ℤ q.most) → SameFacts n rs more (after near q)
      same_more b h = record {
        bounds = b;
        least = relax_least (suc (length rs)) near c.least q.right q.left q.most right_few left_few h;
        meets = λ x z s. meets_tighten rs g x q.right q.left q.most (c.meets x z (relaxed_old (suc (length rs)) near c.least q.right q.left q.most right_few left_few x s)) (relaxed_fact (suc (length rs)) near c.least q.right q.left q.most right_few left_few x s);
        settled = λ x z s. relaxed_both (suc (length rs)) near c.least q.right q.left q.most right_few left_few (settle rs x) (c.settled x z (old_met x s)) (new_met x s);
      }
