use mathlib.Core.Path.{◌≡◌}
use mathlib.Core.Bool.{true}
use Prim.Native.Nat.{ℕ, suc, ◌-◌}
use native.Mathlib.Omega.{arith}
use borrow.Author.Count.{below_more}
use mir.Val.{SFits}
use mir.Syntax.{w64}
use mir.Facts.{to_z-of_z}
use Rattle.page_walks.specs.Grid.{weight}
use Rattle.page_walks.specs.Search.{first}
use Rattle.page_walks.proofs.BestSums.{first_at_lem}
use Rattle.cycles.proofs.Openings.{closing, opens_none, opens_some}
use Rattle.cycles.proofs.shortest.Goals as goal

pub search-preserved : goal.search-preserved
search-preserved c = let w = c.args.walks.now in
    let all : c.loop-s.s ≡ w.n = omega arith in
    let here : w.n ≡ first (closing (weight w.grid.now.rows) (w.n - 1) c.search.k) w.n = first_at_lem _ w.n w.n (omega arith) (rw all at c.loop-s.invariant.2) (λ h. absurd (omega arith)) in (
      omega (arith, c.search-test.true),
      c.loop-s.invariant.1,
      below_more (λ (j : ℕ). w.n ≡ first (closing (weight w.grid.now.rows) (w.n - 1) j) w.n) c.search.k c.search.invariant.2 here,
    )

pub returns-after-search : goal.returns-after-search
returns-after-search c = let w = c.args.walks.now in
    let m : suc (w.n - 1) ≡ w.n = omega (arith, w.summable) in
    rw c.search.invariant.1 (opens_none (weight w.grid.now.rows) (w.n - 1) w.n m (λ j h. c.search.invariant.2 j (omega arith)))

pub returns-then-closing_sum-lt0 : goal.returns-then-closing_sum-lt0
returns-then-closing_sum-lt0 c = let w = c.args.walks.now in
    let l = c.loop-s in
    let m : suc (w.n - 1) ≡ w.n = omega (arith, w.summable) in
    let fits : SFits w64 c.closing_sum.result = record { sfits = c.closing_sum.type_inv } in
    let t : closing (weight w.grid.now.rows) (w.n - 1) c.search.k l.s ≡ true = rw c.closing_sum.ensures.0 at (simp (to_z-of_z, fits) at c.if-closing_sum-lt0.true) in
    opens_some (weight w.grid.now.rows) (w.n - 1) w.n m c.search.k l.s c.search-test.true c.search.invariant.2 (c.loop-s-test.true, first_at_lem _ w.n l.s l.invariant.0 l.invariant.2 (λ h. t))
