use mathlib.Core.Path.{◌≡◌}
use Prim.Native.Nat.{◌-◌, ◌≤◌}
use Rattle.page_walks.specs.Grid.{weight}
use Rattle.page_walks.specs.Sizes.{filled}
use Rattle.sums.proofs.Walks.column.Given as goal

abbrev pub invariant-loop-v : goal.invariant-loop-v
invariant-loop-v l = (l.v ≤ l.self.n) × (l.row ≡ filled (λ v. weight l.self.grid.now.rows v l.s) l.v l.initial.row)

abbrev pub decreases-loop-v : goal.decreases-loop-v
decreases-loop-v l = l.self.n - l.v
