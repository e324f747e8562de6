use Rattle.std.specs.Prelude.{length, ℤ}
use Rattle.page_meaning.specs.Limits.{most_columns}
use Rattle.page_questions.specs.Reader.{value_at}
use Rattle.fields.proofs.Run.{Run}
use Rattle.changes.specs.Changes.{ranges_in}
use Rattle.changes.proofs.table.Table.row.Given as goal

abbrev pub invariant-loop-j : goal.invariant-loop-j
invariant-loop-j l = Run (λ s vs q. value_at s (ranges_in l.self.columns.now) vs q) (λ (v : ℤ). v) most_columns (length l.self.columns.now) l.fn.from l.from l.values l.j
