use mathlib.Core.Path.{◌≡◌}
use lib.ListN.{drop}
use Rattle.page_meaning.specs.Contents.{look}
use Rattle.question.specs.Held.{question_of}
use Rattle.page_sheets.specs.Rows.{bytes_of_row}
use Rattle.room.specs.Room.{begun, puts}
use Rattle.writer_rows.specs.Rows.{row_for}
use Rattle.writer_rows.proofs.rows.put_row.Given as goal

abbrev pub invariant-loop-c : goal.invariant-loop-c
invariant-loop-c l = let row = row_for (question_of l.q) l.i l.second (look l.values) in record {
  same_reference : l.sink.room.ghost_name ≡ l.initial.sink.room.ghost_name;
  to_come : puts (begun l.sink) (bytes_of_row (drop l.c row)) ≡ puts (begun l.initial.sink) (bytes_of_row row);
}
