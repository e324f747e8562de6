use Rattle.page_questions.specs.Reader.{modify_at}
use Rattle.fields.proofs.Chain.{at_fault, after, here}
use Rattle.changes.proofs.table.Table.modify.Goals as goal

pub returns-in_err-condition-clause-meaning : goal.returns-in_err-condition-clause-meaning
unfolding modify_at
returns-in_err-condition-clause-meaning c = at_fault _ c.from_residual.ensures.1 (simp c.names-names.ensures at c.in_err-condition.ensures.meaning)

pub returns-in_err-settings-clause-meaning : goal.returns-in_err-settings-clause-meaning
unfolding modify_at
returns-in_err-settings-clause-meaning c = after _ (simp c.names-names.ensures at c.in_ok-condition.ensures.meaning) (at_fault _ c.from_residual-in_err-settings.ensures.1 (simp c.names-names.ensures at c.in_err-settings.ensures))

pub returns-clause-meaning : goal.returns-clause-meaning
unfolding modify_at
returns-clause-meaning c = after _ (simp c.names-names.ensures at c.in_ok-condition.ensures.meaning) (after _ (simp c.names-names.ensures at c.in_ok-settings.ensures) (here (simp c.blank.ensures.verb)))
