use Rattle.cases.proofs.Pairs.{Stage}
use Rattle.cases.proofs.decode.Given as goal

-- What the first i pairs mean stands in the room.
abbrev pub invariant-loop-i : goal.invariant-loop-i
invariant-loop-i l = Stage l.digits l.initial.room l.i l.room
