use mathlib.Core.Path.{◌≡◌}
use Prim.Native.Nat.{◌-◌, ◌≤◌, ◌<◌}
use lib.IntN.{pos, ◌+ℤ◌}
use lib.ListN.{get_or}
use Rattle.page_walks.specs.Search.{least}
use Rattle.sums.proofs.least_sum.Given as goal

abbrev pub invariant-loop-u : goal.invariant-loop-u
invariant-loop-u l = (0 < l.u) × (l.u ≤ l.n) × (l.sum ≡ least (λ u. get_or l.edges u (pos 0) +ℤ get_or l.on u (pos 0)) (l.u - 1))

abbrev pub decreases-loop-u : goal.decreases-loop-u
decreases-loop-u l = l.n - l.u
