use Rattle.pieces.proofs.Tokens.{Tokens}
use Rattle.pieces.proofs.conditions.condition.Given as goal

abbrev pub invariant-loop-t : goal.invariant-loop-t
invariant-loop-t l = Tokens l.s l.tokens l.initial.into l.into l.t-index
