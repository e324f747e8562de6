use borrow.Author.Rules.{rules}
use Prim.Native.Nat.{◌+◌, ◌<◌}
use mathlib.Core.Path.{refl, sym, ◌∙◌}
use native.Mathlib.Omega.{arith}
use lib.ListN.{length, drop}
use mir.Syntax.{w64}
use mir.Facts.{to_z-of_z}
use Rattle.page_meaning.specs.Contents.{Values, look}
use Rattle.question.specs.Held.{question_of}
use Rattle.page_sheets.specs.Rows.{bytes_of_row}
use Rattle.room.specs.Room.{begun}
use Rattle.room.proofs.PutBytes.{stops}
use Rattle.writer_rows.specs.Rows.{row_for}
use Rattle.writer_rows.proofs.ShownRows.{row_length, row_next, row_end}
use Rattle.writer_rows.proofs.rows.put_row.Goals as goal
use Rattle.writer_rows.proofs.rows.put_row.Goals.{In-loop-c}

row : In-loop-c → Values
row c = row_for (question_of c.args.q.now) c.args.i c.args.second (look c.args.values.now)

-- the next column is one of them
next_there : (c : In-loop-c) → c.loop-c.c < length (row c)
unfolding row
next_there c = omega (arith, c.loop-c-test.true, row_length c.args.q.now c.args.i c.whole.ensures c.requires c.args.second (look c.args.values.now))

pub loop-c-preserved : goal.loop-c-preserved
unfolding row
loop-c-preserved c = let l = c.loop-c in
    let w = (goal.at.loop-c-preserved c).In-loop-c in record {
      same_reference = search rules;
      to_come = row_next (begun l.sink) (begun c.put_value.new.sink) (row w) l.c _ (next_there w) (to_z-of_z {w = w64} (record { sfits = c.value_at.type_inv }) ∙ c.value_at.ensures) c.in_ok-put_value.ensures.filled ∙ l.invariant.to_come;
    }

pub returns-in_err-put_value-clause-filled : goal.returns-in_err-put_value-clause-filled
unfolding row
returns-in_err-put_value-clause-filled c = let l = c.loop-c in
    let w = (goal.at.returns-in_err-put_value-clause-filled c).In-loop-c in
    stops c.put_value.new.sink c.from_residual.result _ (bytes_of_row (drop (l.c + 1) (row w))) c.from_residual.ensures.0 c.in_err-put_value.ensures.filled
    ∙ row_next (begun l.sink) _ (row w) l.c _ (next_there w) (to_z-of_z {w = w64} (record { sfits = c.value_at.type_inv }) ∙ c.value_at.ensures) refl
    ∙ l.invariant.to_come

pub returns-clause-filled : goal.returns-clause-filled
returns-clause-filled c = let at = c.loop-c in
    let a = c.args in
    let row = row_for (question_of a.q.now) a.i a.second (look a.values.now) in
    sym (row_end (begun at.sink) row at.c (omega (arith, c.loop-c-test.false, row_length a.q.now a.i c.whole.ensures c.requires a.second (look a.values.now)))) ∙ at.invariant.to_come
