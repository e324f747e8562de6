use Rattle.fields.proofs.Chain.{at_fault, after, here}
use Rattle.tokens.proofs.Parts.{comparison_parts}
use Rattle.tokens.proofs.token.Names.comparison.Goals as goal

pub returns-in_err-byte : goal.returns-in_err-byte
returns-in_err-byte c = simp comparison_parts (at_fault _ c.from_residual.ensures.1 c.in_err-byte.ensures)

pub returns-in_err-left : goal.returns-in_err-left
returns-in_err-left c = simp comparison_parts (after _ c.in_ok-byte.ensures (at_fault _ c.from_residual-in_err-left.ensures.1 c.in_err-left.ensures))

pub returns-in_err-right : goal.returns-in_err-right
returns-in_err-right c = simp comparison_parts (after _ c.in_ok-byte.ensures (after _ c.in_ok-left.ensures (at_fault _ c.from_residual-in_err-right.ensures.1 c.in_err-right.ensures)))

pub returns : goal.returns
returns c = simp comparison_parts (after _ c.in_ok-byte.ensures (after _ c.in_ok-left.ensures (after _ c.in_ok-right.ensures (here (simp c.op_of-op.ensures)))))
