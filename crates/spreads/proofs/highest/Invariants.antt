use mathlib.Core.Path.{◌≡◌}
use Prim.Native.Nat.{ℕ, ◌-◌, ◌≤◌, ◌<◌}
use lib.IntN.{pos}
use lib.ListN.{length, get_or}
use Rattle.page_meaning.specs.Limits.{most_vertices}
use Rattle.spreads.specs.Spread.{span}
use Rattle.spreads.proofs.highest.Given as goal

abbrev pub invariant-loop-v : goal.invariant-loop-v
invariant-loop-v l = (l.v ≤ l.vertices.count) × (length l.high ≡ most_vertices) × ((i : ℕ) → i < l.v → get_or l.high i (pos 0) ≡ (span l.vertices.ranges i).hi)

abbrev pub decreases-loop-v : goal.decreases-loop-v
decreases-loop-v l = l.vertices.count - l.v
