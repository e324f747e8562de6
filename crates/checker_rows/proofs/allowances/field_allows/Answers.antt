use Rattle.std.proofs.Common.{◌≡◌, ◌+◌, ◌-◌, sym, ap, ◌∙◌, arith, w32}
use mir.Facts.{to_z-of_z}
use Rattle.question.specs.Held.{question_of}
use Rattle.sights.proofs.Shapes.{columns_length}
use Rattle.page_sheets.specs.Rows.{width, field_ok, value_at}
use Rattle.page_sheets.proofs.Fields.{field_first, field_second}
use Rattle.checker_rows.proofs.allowances.field_allows.Goals as goal

pub returns-then-j-n : goal.returns-then-j-n
returns-then-j-n c = let a = c.args in
    let q = question_of a.q.now in
    let r = c.read_i32-z in
    let e = rw (to_z-of_z {w = w32} (record { sfits = r.type_inv }), r.ensures, c.field_at.ensures) at c.first_allows.ensures in
    e ∙ sym (field_first q a.i a.sheet.now a.j (value_at a.sheet.now a.j) (omega (arith, columns_length a.q.now c.whole.ensures, c.if-j-n.true)))

pub returns : goal.returns
returns c = let a = c.args in
    let q = question_of a.q.now in
    let b = a.sheet.now in
    let n = columns_length a.q.now c.whole.ensures in
    let r = c.read_i32-z in
    let o = c.read_i32-shared in
    let e : a.j ≡ width q + (a.j - a.q.now.shape.total) = omega (arith, n, c.if-j-n.false) in
    (rw (to_z-of_z {w = w32} (record { sfits = r.type_inv }), r.ensures, c.field_at.ensures, to_z-of_z {w = w32} (record { sfits = o.type_inv }), o.ensures, c.field_at-2.ensures) at c.second_allows.ensures)
    ∙ sym (ap (λ k. field_ok q a.i b k (value_at b a.j)) e ∙ field_second q a.i b (a.j - a.q.now.shape.total) (value_at b a.j))
