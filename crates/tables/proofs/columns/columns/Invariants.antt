use Rattle.page_questions.specs.Reader.{column_at}
use Rattle.question.specs.Held.{column_of}
use Rattle.fields.proofs.Run.{Run}
use Rattle.tables.proofs.columns.columns.Given as goal

abbrev pub invariant-loop-place : goal.invariant-loop-place
invariant-loop-place l = Run (λ s cs q. column_at s q) column_of l.n l.n l.fn.from l.from l.place-items l.place-index
