use Rattle.std.proofs.Common.{◌≤◌, ◌-◌, length}
use Rattle.files.proofs.fill.Given as goal

-- What is read stands within the room; the measure is how much room is left.
abbrev pub invariant-loop-done : goal.invariant-loop-done
invariant-loop-done g l = l.done ≤ length l.room

abbrev pub decreases-loop-done : goal.decreases-loop-done
decreases-loop-done g l = length l.room - l.done
