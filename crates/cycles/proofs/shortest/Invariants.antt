use mathlib.Core.Path.{◌≡◌}
use mathlib.Core.Bool.{false}
use Prim.Native.Nat.{ℕ, ◌-◌, ◌≤◌, ◌<◌}
use Rattle.std.specs.Prelude.{None}
use Rattle.page_walks.specs.Grid.{weight}
use Rattle.page_walks.specs.Search.{first}
use Rattle.cycles.proofs.Openings.{closing}
use Rattle.cycles.proofs.shortest.Given as goal

abbrev pub invariant-loop-s : goal.invariant-loop-s
invariant-loop-s l = (l.s ≤ l.walks.n) × (l.found ≡ None) × ((i : ℕ) → i < l.s → closing (weight l.walks.grid.now.rows) (l.walks.n - 1) l.k i ≡ false)

abbrev pub decreases-loop-s : goal.decreases-loop-s
decreases-loop-s l = l.walks.n - l.s

abbrev pub invariant-search : goal.invariant-search
invariant-search l = (l.k ≤ l.walks.n) × (l.found ≡ None) × ((j : ℕ) → j < l.k → l.walks.n ≡ first (closing (weight l.walks.grid.now.rows) (l.walks.n - 1) j) l.walks.n)

abbrev pub decreases-search : goal.decreases-search
decreases-search l = l.walks.n - l.k
