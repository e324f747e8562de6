use Rattle.std.specs.Prelude.{length}
use Rattle.page_questions.specs.Reader.{row_at}
use Rattle.question.specs.Held.{row_of}
use Rattle.fields.proofs.Run.{Run}
use Rattle.changes.specs.Changes.{ranges_in}
use Rattle.changes.proofs.table.Table.rows.Given as goal

abbrev pub invariant-loop-row : goal.invariant-loop-row
invariant-loop-row l = Run (λ s rs q. row_at s (ranges_in l.self.columns.now) q) (row_of (length l.self.columns.now)) l.count l.count l.fn.from l.from l.row-items l.row-index
