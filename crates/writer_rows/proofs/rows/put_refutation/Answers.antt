use mathlib.Core.Path.{ap, ◌∙◌}
use mathlib.Core.List.{◌++◌}
use Rattle.page_meaning.specs.Contents.{Values, look}
use Rattle.question.specs.Held.{question_of}
use Rattle.page_sheets.specs.Rows.{bytes_of_row, first_row, second_row}
use Rattle.room.specs.Room.{Filling, begun, put_one, puts}
use Rattle.room.proofs.PutBytes.{stops}
use Rattle.writer_rows.specs.Rows.{rows_for}
use Rattle.writer_rows.proofs.ShownRows.{rows_shown}
use Rattle.writer_rows.proofs.rows.put_refutation.Goals as goal

pub returns-in_err-put-clause-filled : goal.returns-in_err-put-clause-filled
unfolding puts
returns-in_err-put-clause-filled c = λ F x e rowed alike.
    let q = question_of c.args.q.now in
    stops c.put.new.self c.from_residual.result _ (bytes_of_row (first_row q c.args.i x ++ second_row q F x)) c.from_residual.ensures.0 c.in_err-put.ensures.filled

pub returns-clause-filled : goal.returns-clause-filled
unfolding puts
returns-clause-filled c = λ F x e rowed alike.
    let a = c.args in
    let q = question_of a.q.now in
    c.put_rows.ensures.filled
    ∙ ap (λ (f : Filling). puts f (bytes_of_row (rows_for q a.i a.pairs (look a.values.now)))) c.in_ok-put.ensures.filled
    ∙ ap (λ (l : Values). puts (put_one (begun a.sink.now) a.i) (bytes_of_row l)) (rows_shown q a.i F a.values.now x a.pairs e rowed alike)
