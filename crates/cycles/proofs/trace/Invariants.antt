use Prim.Native.Nat.{◌-◌, ◌≤◌, ◌<◌}
use Rattle.cycles.proofs.TracedLists.{Traced}
use Rattle.cycles.proofs.trace.Given as goal

abbrev pub invariant-loop-i : goal.invariant-loop-i
invariant-loop-i l = (0 < l.i) × (l.i ≤ l.count) × Traced l.walks.grid.now.rows l.walks.n l.start l.count l.i l.vertices l.at l.sum

abbrev pub decreases-loop-i : goal.decreases-loop-i
decreases-loop-i l = l.count - l.i
