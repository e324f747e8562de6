use Rattle.std.proofs.Common.{◌≤◌, ◌<◌, length, refl, sym, ap, subst, ◌∙◌, arith, Err}
use borrow.Author.Tests.{lt-leb, le-leb}
use Rattle.page_sheets.specs.Rows.{field_at, fields}
use Rattle.page_sheets.specs.Sheet.{no_end}
use Rattle.outcome.specs.Answers.{judged_of}
use Rattle.checker_no.proofs.rows_end.Goals as goal

pub returns-then-not-formula_met : goal.returns-then-not-formula_met
unfolding no_end
returns-then-not-formula_met c = λ F q is e. rw (sym (c.formula_met.ensures F q is e) ∙ c.if-not-formula_met.true) (ap (λ r. judged_of (Err r)) c.at.ensures)

pub returns-then-field_at-sheet : goal.returns-then-field_at-sheet
unfolding no_end
returns-then-field_at-sheet c = λ F q is e.
    let s = c.args.sheet.now in
    let left : field_at c.args.count < length s = omega (arith, c.field_at.ensures, c.if-field_at-sheet.true) in
    rw (c.at-then-field_at-sheet.ensures, sym (c.formula_met.ensures F q is e) ∙ c.if-not-formula_met.false, lt-leb (length s) (field_at (fields q F)) (subst (λ n. field_at n < length s) e left)) refl

pub returns : goal.returns
unfolding no_end
returns c = λ F q is e.
    let s = c.args.sheet.now in
    let ended : length s ≤ field_at c.args.count = omega (arith, c.field_at.ensures, c.if-field_at-sheet.false) in
    rw (sym (c.formula_met.ensures F q is e) ∙ c.if-not-formula_met.false, le-leb (length s) (field_at (fields q F)) (subst (λ n. length s ≤ field_at n) e ended)) refl
