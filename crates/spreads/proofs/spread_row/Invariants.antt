use mathlib.Core.Path.{◌≡◌}
use Prim.Native.Nat.{ℕ, ◌-◌, ◌≤◌, ◌<◌}
use lib.IntN.{pos, ◌-ℤ◌}
use lib.ListN.{length, get_or}
use Rattle.page_meaning.specs.Limits.{most_vertices}
use Rattle.spreads.proofs.spread_row.Given as goal

abbrev pub invariant-loop-v : goal.invariant-loop-v
invariant-loop-v l = (l.v ≤ l.count) × (length l.row ≡ most_vertices) × ((i : ℕ) → i < l.v → get_or l.row i (pos 0) ≡ get_or l.high i (pos 0) -ℤ l.low)

abbrev pub decreases-loop-v : goal.decreases-loop-v
decreases-loop-v l = l.count - l.v
