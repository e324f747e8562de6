use mathlib.Core.Path.{refl, ◌∙◌}
use native.Mathlib.Omega.{arith}
use borrow.Author.Rules.{rules}
use mir.Facts.{to_z-of_z}
use Rattle.page_meaning.specs.Limits.{most_vertices}
use Rattle.page_walks.specs.Sizes.{filled}
use Rattle.page_walks.proofs.Rows.{filled_more, read}
use mir.Syntax.{w64}
use Rattle.sums.proofs.Walks.column.Goals as goal

pub loop-v-init : goal.loop-v-init
unfolding filled
loop-v-init c = (search rules, refl)

pub loop-v-preserved : goal.loop-v-preserved
loop-v-preserved c = let l = c.loop-v in (
  search rules,
  filled_more _ l.v c.args.row.now l.row _ l.invariant.1
      (to_z-of_z {w = w64} (search rules) ∙ read most_vertices c.args.self.now.grid.now.rows l.v c.args.s c.args.self.now.grid.now.sized (omega (arith, c.args.self.now.summable, c.loop-v-test.true)) c.requires),
)
