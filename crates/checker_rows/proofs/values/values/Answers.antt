use Rattle.std.proofs.Common.{◌≡◌, ◌+◌, ap, ◌∙◌, arith, refl, w32}
use Rattle.std.proofs.lemmas.List.{length-set}
use mir.Facts.{to_z-of_z}
use Rattle.page_meaning.specs.Limits.{most_vertices}
use Rattle.page_numbers.specs.Bytes.{int32}
use Rattle.page_sheets.specs.Rows.{value_at}
use Rattle.checker_rows.proofs.FieldValues.{seen_none, seen_more}
use Rattle.checker_rows.proofs.values.values.Goals as goal

pub loop-j-init : goal.loop-j-init
loop-j-init c = record { long = refl; read = seen_none most_vertices c.args.sheet.now }

pub loop-j-preserved : goal.loop-j-preserved
loop-j-preserved c = let l = c.loop-j in
    let s = c.args.sheet.now in
    let r = c.read_i32 in
    let e : r.result ≡ value_at s l.j = r.ensures ∙ ap (int32 s) c.field_at.ensures in
    rw (to_z-of_z {w = w32} (record { sfits = r.type_inv }), e) (record { long = length-set l.x (l.j + 1) (value_at s l.j) ∙ l.invariant.long; read = seen_more s l.x l.j (omega arith) l.invariant.read })

pub returns : goal.returns
returns c = let l = c.loop-j in
    let e : l.j ≡ c.args.count = omega (arith, c.loop-j-test.false) in
    λ v. rw e at (l.invariant.read v)
