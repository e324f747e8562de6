use mathlib.Core.Path.{◌≡◌}
use Prim.Native.Nat.{◌-◌, ◌≤◌}
use lib.ListN.{length}
use Rattle.page_meaning.specs.Limits.{most_vertices}
use Rattle.sums.specs.SumsBack.{Back}
use Rattle.sums.proofs.Walks.sums_back.Given as goal

abbrev pub invariant-loop-j : goal.invariant-loop-j
invariant-loop-j l = Back l.self.grid.now.rows l.self.n l.s l.j l.row × (l.j ≤ l.edges) × (length l.next ≡ most_vertices)

abbrev pub decreases-loop-j : goal.decreases-loop-j
decreases-loop-j l = l.edges - l.j
