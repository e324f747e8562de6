use mathlib.Core.Path.{◌≡◌}
use Prim.Native.Nat.{◌-◌, ◌≤◌}
use lib.IntN.{pos, ◌+ℤ◌}
use lib.ListN.{get_or}
use Rattle.page_walks.specs.Grid.{weight}
use Rattle.page_walks.specs.Sizes.{filled}
use Rattle.page_walks.specs.Search.{least}
use Rattle.sums.proofs.Walks.longer.Given as goal

abbrev pub invariant-loop-v : goal.invariant-loop-v
invariant-loop-v l = (l.v ≤ l.self.n) × (l.row ≡ filled (λ v. least (λ u. weight l.self.grid.now.rows v u +ℤ get_or l.on u (pos 0)) (l.self.n - 1)) l.v l.initial.row)

abbrev pub decreases-loop-v : goal.decreases-loop-v
decreases-loop-v l = l.self.n - l.v
