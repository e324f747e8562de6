use Rattle.std.proofs.Common.{◌≡◌, true, refl, sym, ◌∙◌}
use mir.Facts.{to_z-of_z}
use Rattle.question.specs.Held.{question_of}
use Rattle.page_sheets.specs.Rows.{in_column}
use Rattle.sights.proofs.Shapes.{visible_is}
use Rattle.checker_rows.proofs.allowances.second_allows.Goals as goal

pub returns-then-not-q-c : goal.returns-then-not-q-c
returns-then-not-q-c c = let a = c.args in
    let t : in_column (question_of a.q.now) a.c a.z ≡ true = sym (rw (to_z-of_z c.ranges.z) at c.in_column.ensures) ∙ c.if-in_column.true in
    rw (t, visible_is a.q.now a.c c.requires, c.if-not-q-c.true) refl

pub returns-else-not-q-c : goal.returns-else-not-q-c
returns-else-not-q-c c = let a = c.args in
    let t : in_column (question_of a.q.now) a.c a.z ≡ true = sym (rw (to_z-of_z c.ranges.z) at c.in_column.ensures) ∙ c.if-in_column.true in
    rw (t, visible_is a.q.now a.c c.requires, c.if-not-q-c.false) (rw (to_z-of_z c.ranges.z, to_z-of_z c.ranges.shared) at c.same.ensures)
