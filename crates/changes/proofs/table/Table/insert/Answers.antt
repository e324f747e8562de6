use native.Mathlib.Omega.{arith}
use Rattle.page_questions.specs.Reader.{insert_at}
use Rattle.page_questions.proofs.FieldLaws.{is_within}
use Rattle.fields.proofs.Chain.{at_fault, after, here}
use Rattle.changes.proofs.table.Table.insert.Goals as goal

pub returns-in_err-count-clause-meaning : goal.returns-in_err-count-clause-meaning
unfolding insert_at
returns-in_err-count-clause-meaning c = at_fault _ c.from_residual.ensures.1 c.in_err-count.ensures

pub rows-requires : goal.rows-requires
rows-requires c = omega (arith, (is_within _ 4 _ _ _ _ _ c.in_ok-count.ensures.meaning).1)

pub returns-in_err-rows-clause-meaning : goal.returns-in_err-rows-clause-meaning
unfolding insert_at
returns-in_err-rows-clause-meaning c = after _ c.in_ok-count.ensures (at_fault _ c.from_residual-in_err-rows.ensures.1 c.in_err-rows.ensures)

pub returns-clause-meaning : goal.returns-clause-meaning
unfolding insert_at
returns-clause-meaning c = after _ c.in_ok-count.ensures (after _ c.in_ok-rows.ensures (here (simp c.blank.ensures.verb)))

pub returns-clause-held : goal.returns-clause-held
returns-clause-held c = record { few_rows = omega (arith, (is_within _ 4 _ _ _ _ _ c.in_ok-count.ensures.meaning).1); few_tokens = c.blank.ensures.held.few_tokens }
