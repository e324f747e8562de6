use mathlib.Core.Path.{◌≡◌}
use Prim.Native.Nat.{◌-◌, ◌≤◌}
use lib.IntN.{pos, ◌+ℤ◌}
use lib.ListN.{length, get_or}
use Rattle.page_numbers.specs.Numbers.{min_z}
use Rattle.page_walks.specs.Sizes.{filled}
use Rattle.closure.proofs.relax_row.Given as goal

-- up to v the row is the lesser of its old entry and the way round
abbrev pub invariant-loop-v : goal.invariant-loop-v
invariant-loop-v l = (l.v ≤ l.n) × (length l.row ≡ length l.initial.row) × (l.row ≡ filled (λ v. min_z (get_or l.initial.row v (pos 0)) (l.reach +ℤ get_or l.on v (pos 0))) l.v l.initial.row)

abbrev pub decreases-loop-v : goal.decreases-loop-v
decreases-loop-v l = l.n - l.v
