use Rattle.question.specs.Held.{question_of, asked_of}
use Rattle.formula.proofs.Counts.{delete_count}
use Rattle.formula.proofs.formulas.formula_count.Goals as goal

pub insert_count-requires : goal.insert_count-requires
insert_count-requires c = let q = c.args.q.now in (q.shape_held, q.change_held.few_rows, c.in-Insert.is)

pub returns-in-Insert : goal.returns-in-Insert
unfolding question_of
returns-in-Insert c = let q = c.args.q.now in rw (← c.number.ensures) (c.insert_count.ensures q.version q.columns q.condition)

pub returns-in-Delete : goal.returns-in-Delete
unfolding question_of
returns-in-Delete c = let q = c.args.q.now in delete_count q.version q.shape q.columns q.condition q.change (asked_of c.args.asked) c.in-Delete.is

pub returns-in-Modify : goal.returns-in-Modify
unfolding question_of
returns-in-Modify c = let q = c.args.q.now in rw (← c.number-in-Modify.ensures) (c.modify_count.ensures q.shape q.columns q.condition q.change c.in-Modify.is)
