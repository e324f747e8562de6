use mathlib.Core.Path.{◌≡◌, refl, ap, ◌∙◌}
use Rattle.page_meaning.specs.Contents.{look}
use Rattle.question.specs.Held.{question_of}
use Rattle.page_formulas.specs.Formulas.{row_of2}
use Rattle.page_sheets.specs.Rows.{bytes_of_row, first_row}
use Rattle.room.specs.Room.{Filling, begun, puts}
use Rattle.room.proofs.PutBytes.{stops}
use Rattle.writer_rows.proofs.ShownRows.{rest_for, rows_split}
use Rattle.writer_rows.proofs.rows.put_rows.Goals as goal

pub returns-in_err-put_row-clause-filled : goal.returns-in_err-put_row-clause-filled
returns-in_err-put_row-clause-filled c = let a = c.args in
    let q = question_of a.q.now in
    stops c.put_row.new.sink c.from_residual.result _ (bytes_of_row (rest_for q a.pairs (look a.values.now))) c.from_residual.ensures.0 c.in_err-put_row.ensures.filled
    ∙ rows_split (begun a.sink.now) q a.i a.pairs (look a.values.now)

pub returns-then-pairs-clause-filled : goal.returns-then-pairs-clause-filled
returns-then-pairs-clause-filled c = let a = c.args in
    let q = question_of a.q.now in
    let e : row_of2 q (look a.values.now) ≡ rest_for q a.pairs (look a.values.now) = rw c.if-pairs.true refl in
    c.put_row-then-pairs.ensures.filled
    ∙ ap (λ (f : Filling). puts f (bytes_of_row (row_of2 q (look a.values.now)))) c.in_ok-put_row.ensures.filled
    ∙ ap (λ r. puts (puts (begun a.sink.now) (bytes_of_row (first_row q a.i (look a.values.now)))) (bytes_of_row r)) e
    ∙ rows_split (begun a.sink.now) q a.i a.pairs (look a.values.now)
