use borrow.Author.Rules.{rules}
use lib.IntN.{pos}
use lib.ListN.{get_or}
use mir.Val.{SFits}
use mathlib.Core.Path.{ap, ◌∙◌}
use native.Mathlib.Omega.{arith}
use mir.Facts.{to_z-of_z}
use Rattle.page_meaning.specs.Contents.{look}
use Rattle.question.specs.Held.{question_of}
use Rattle.page_sheets.specs.Rows.{fixed, or_else}
use Rattle.writer_rows.proofs.ShownRows.{vertex_few, second_column, first_column}
use mir.Syntax.{w64}
use Rattle.writer_rows.proofs.rows.value_at.Goals as goal

pub bounds-values-v : goal.bounds-values-v
bounds-values-v c = omega (arith, c.vertex_at-v.ensures, vertex_few c.args.q.now c.args.i c.whole.ensures c.requires.0 (look c.args.values.now) c.args.c c.requires.1 c.args.second)

pub returns-then-second : goal.returns-then-second
returns-then-second c = let a = c.args in
    let fits : SFits w64 (get_or a.values.now c.vertex_at-v.result (pos 0)) = search rules in
    rw (to_z-of_z {w = w64} fits) (ap (look a.values.now) c.vertex_at-v.ensures ∙ second_column a.q.now a.i c.whole.ensures c.requires.0 (look a.values.now) a.c c.requires.1 a.second c.if-second.true)

pub returns : goal.returns
returns c = let a = c.args in
    let fits : SFits w64 (get_or a.values.now c.vertex_at-v.result (pos 0)) = search rules in
    to_z-of_z {w = w64} (record { sfits = c.change_value.type_inv })
    ∙ (rw (to_z-of_z {w = w64} fits) at c.change_value.ensures)
    ∙ ap (λ v. or_else (fixed (question_of a.q.now) a.i a.c) (look a.values.now v)) c.vertex_at-v.ensures
    ∙ first_column a.q.now a.i c.whole.ensures c.requires.0 (look a.values.now) a.c c.requires.1 a.second c.if-second.false
