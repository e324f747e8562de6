use Rattle.std.proofs.Common.{◌+◌, ◌≤◌, length, sym, ap, ◌∙◌, arith}
use Rattle.page_numbers.specs.Outcome.{refused}
use Rattle.question.specs.Held.{question_of}
use Rattle.page_sheets.specs.Rows.{field_at, field_ok}
use Rattle.page_sheets.proofs.FieldRun.{fields_end, fields_short, fields_bad, fields_on}
use Rattle.checker_rows.proofs.fields.fields.Goals as goal

pub returns-then-sheet-place : goal.returns-then-sheet-place
returns-then-sheet-place c = let l = c.loop-j in
    let a = c.args in
    let s = a.sheet.now in
    let e = c.field_at-place.ensures in
    rw c.at.ensures (record { meaning = λ next. ap (refused 11) e ∙ sym (fields_short (field_ok (question_of a.q.now) a.i s) s a.count l.j next c.loop-j-test.true (omega (arith, e, c.if-sheet-place.true))) ∙ l.invariant.same next; inside = tt })

pub returns-then-not-field_allows : goal.returns-then-not-field_allows
returns-then-not-field_allows c = let l = c.loop-j in
    let a = c.args in
    let s = a.sheet.now in
    let e = c.field_at-place.ensures in
    rw c.at-then-not-field_allows.ensures (record { meaning = λ next. ap (refused 15) e ∙ sym (fields_bad (field_ok (question_of a.q.now) a.i s) s a.count l.j next c.loop-j-test.true (omega (arith, e, c.if-sheet-place.false)) (sym c.field_allows.ensures ∙ c.if-not-field_allows.true)) ∙ l.invariant.same next; inside = tt })

pub loop-j-preserved : goal.loop-j-preserved
loop-j-preserved c = let l = c.loop-j in
    let a = c.args in
    let s = a.sheet.now in
    let fits : field_at l.j + 4 ≤ length s = omega (arith, c.field_at-place.ensures, c.if-sheet-place.false) in
    record {
      inside = omega (arith, fits);
      same = λ next. sym (fields_on (field_ok (question_of a.q.now) a.i s) s a.count l.j next c.loop-j-test.true fits (sym c.field_allows.ensures ∙ c.if-not-field_allows.false)) ∙ l.invariant.same next;
    }

pub returns : goal.returns
returns c = let l = c.loop-j in
    let a = c.args in
    let s = a.sheet.now in
    record { meaning = λ next. sym (fields_end (field_ok (question_of a.q.now) a.i s) s a.count l.j next c.loop-j-test.false) ∙ l.invariant.same next; inside = omega (arith, l.invariant.inside, c.loop-j-test.false) }
