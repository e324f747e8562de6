use Rattle.pieces.proofs.Tests.{Tests}
use Rattle.pieces.proofs.ranges.bounded_all.Given as goal

abbrev pub invariant-loop-j : goal.invariant-loop-j
invariant-loop-j l = Tests l.s l.initial.into l.into l.j
