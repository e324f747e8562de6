use mathlib.Core.Path.{◌≡◌}
use Prim.Native.Nat.{ℕ, ◌-◌, ◌≤◌, ◌<◌}
use Rattle.page_meaning.specs.Limits.{most_vertices}
use Rattle.page_walks.specs.Grid.{weight}
use Rattle.page_walks.specs.Sizes.{Sized}
use Rattle.spreads.specs.Spread.{spread}
use Rattle.spreads.proofs.begin.Given as goal

abbrev pub invariant-loop-u : goal.invariant-loop-u
invariant-loop-u l = (l.u ≤ l.vertices.count) × Sized most_vertices l.rows × ((r v : ℕ) → r < l.u → v < l.vertices.count → weight l.rows r v ≡ spread l.vertices.ranges r v)

abbrev pub decreases-loop-u : goal.decreases-loop-u
decreases-loop-u l = l.vertices.count - l.u
