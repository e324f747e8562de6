use Rattle.tokens.proofs.TokenRun.{TokenRun}
use Rattle.tokens.proofs.condition.tokens.Given as goal

abbrev pub invariant-loop-i : goal.invariant-loop-i
invariant-loop-i l = TokenRun l.names.low l.names.high l.count l.fn.from l.from l.tokens l.so_far l.i
