use Rattle.std.proofs.Common.{◌∙◌, arith}
use Rattle.std.proofs.lemmas.Result.{err_from_is_err_and}
use Rattle.question.specs.Held.{question_of}
use Rattle.checker_no.proofs.RowRun.{two_most, counted, rows_after}
use Rattle.checker_no.proofs.formula_rows.Goals as goal

pub fields-requires : goal.fields-requires
fields-requires c = (omega (arith, c.value_count-count.ensures, two_most c.args.f.now.pairs c.args.q.now.shape.total), c.requires.1)

pub rows_end-requires : goal.rows_end-requires
rows_end-requires c = (
  c.requires.0,
  omega (arith, c.value_count-count.ensures, two_most c.args.f.now.pairs c.args.q.now.shape.total, c.args.q.now.shape_held.few_columns),
  c.in_ok-fields.ensures.inside,
)

pub returns-in_err-fields : goal.returns-in_err-fields
returns-in_err-fields c = λ F is.
    let a = c.args in
    let n = c.value_count-count in
    let p = err_from_is_err_and c.from_residual.result c.from_residual.ensures.1 in
    let e = counted a.q.now a.f.now.pairs F n.result c.whole.ensures is.pairs n.ensures in
    rw (p.1, p.2) (rows_after (question_of a.q.now) a.i F a.sheet.now n.result e _ c.in_err-fields.ensures)

pub returns : goal.returns
returns c = λ F is.
    let a = c.args in
    let n = c.value_count-count in
    let e = counted a.q.now a.f.now.pairs F n.result c.whole.ensures is.pairs n.ensures in
    c.rows_end.ensures F (question_of a.q.now) is e ∙ rows_after (question_of a.q.now) a.i F a.sheet.now n.result e _ c.in_ok-fields.ensures
