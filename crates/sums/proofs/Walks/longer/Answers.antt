use mathlib.Core.Path.{refl, ◌∙◌}
use Prim.Native.Nat.{◌<◌}
use native.Mathlib.Omega.{arith}
use borrow.Author.Rules.{rules}
use lib.IntN.{pos}
use lib.ListN.{get_or}
use mir.Facts.{to_z-of_z}
use Rattle.page_walks.specs.Grid.{far_n}
use Rattle.page_walks.specs.Sizes.{filled}
use Rattle.page_walks.proofs.Rows.{filled_more}
use Rattle.page_walks.proofs.BestSums.{row_within, least_edges}
use mir.Syntax.{w64}
use Rattle.sums.proofs.Walks.longer.Goals as goal

pub loop-v-init : goal.loop-v-init
unfolding filled
loop-v-init c = (search rules, refl)

pub least_sum-requires-clause-edges_within : goal.least_sum-requires-clause-edges_within
least_sum-requires-clause-edges_within c = let w = c.args.self.now in
    row_within far_n w.n w.grid.now.rows w.grid.now.sized w.summable.few w.summable.within (omega arith) c.loop-v.v c.loop-v-test.true

pub loop-v-preserved : goal.loop-v-preserved
loop-v-preserved c = let l = c.loop-v in
    let v : l.v < c.args.self.now.n = c.loop-v-test.true in (
      omega arith,
      filled_more _ l.v c.args.row.now l.row _ l.invariant.1
          (to_z-of_z {w = w64} (record { sfits = c.least_sum.type_inv }) ∙ c.least_sum.ensures ∙ least_edges c.args.self.now.n c.args.self.now.grid.now.rows (λ u. get_or c.args.on.now u (pos 0)) c.args.self.now.grid.now.sized (c.args.self.now.summable.some, c.args.self.now.summable.few) l.v v),
    )
