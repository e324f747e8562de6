use Prim.Native.Nat.{◌+◌}
use Rattle.page_meaning.specs.Limits.{most_vertices}
use Rattle.page_walks.proofs.Rounds.{Part}
use Rattle.grid.specs.Facts.{with_fact}
use Rattle.grid.proofs.Grid.closing.Given as goal

abbrev pub invariant-loop-v : goal.invariant-loop-v
invariant-loop-v l = Part most_vertices (with_fact l.self.rows l.e) l.vertices (l.v-index + 1) l.at l.sum
