use Rattle.std.proofs.Common.{◌≡◌, ◌≤◌, ◌-◌, length}
use Rattle.question.specs.Held.{question_of}
use Rattle.page_sheets.specs.Rows.{field_at, field_ok}
use Rattle.page_sheets.specs.Sheet.{Answer, check_fields}
use Rattle.checker_rows.proofs.fields.fields.Given as goal

abbrev pub invariant-loop-j : goal.invariant-loop-j
invariant-loop-j l = record {
  inside : field_at l.j ≤ length l.sheet;
  same : (next : Answer) → check_fields (field_ok (question_of l.q) l.i l.sheet) l.sheet (l.count - l.j) l.j next ≡ check_fields (field_ok (question_of l.q) l.i l.sheet) l.sheet l.count 0 next;
}
