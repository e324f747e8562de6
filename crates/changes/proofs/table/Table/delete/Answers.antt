use Rattle.page_questions.specs.Reader.{delete_at}
use Rattle.fields.proofs.Chain.{at_fault, after, here}
use Rattle.changes.proofs.table.Table.delete.Goals as goal

pub returns-in_err-condition-clause-meaning : goal.returns-in_err-condition-clause-meaning
unfolding delete_at
returns-in_err-condition-clause-meaning c = at_fault _ c.from_residual.ensures.1 (simp c.names-names.ensures at c.in_err-condition.ensures.meaning)

pub returns-clause-meaning : goal.returns-clause-meaning
unfolding delete_at
returns-clause-meaning c = after _ (simp c.names-names.ensures at c.in_ok-condition.ensures.meaning) (here (simp c.blank.ensures.verb))
