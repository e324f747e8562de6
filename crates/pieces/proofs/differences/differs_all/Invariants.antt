use Rattle.pieces.proofs.Contrasts.{Told}
use Rattle.pieces.proofs.differences.differs_all.Given as goal

abbrev pub invariant-loop-i : goal.invariant-loop-i
invariant-loop-i l = Told l.a l.b l.initial.into l.into l.i
