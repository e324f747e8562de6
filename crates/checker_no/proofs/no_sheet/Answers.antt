use Rattle.question.proofs.Guaranteed.{accepted_of}
use Rattle.std.proofs.Common.{◌≡◌, ◌<◌, length, get_or, refl, ap, ◌∙◌, arith}
use borrow.Author.Tests.{le-leb, lt-leb, lt-ltb, le-ltb}
use Rattle.page_formulas.specs.Formulas.{formulas}
use Rattle.page_sheets.specs.Sheet.{check_no}
use Rattle.question.specs.Held.{question_of, asked_of}
use Rattle.formula.specs.Formulas.{formula_at}
use Rattle.formula.proofs.AskedAlike.{formulas_alike}
use Rattle.formula.proofs.ProperFormulas.{fine_at}
use Rattle.checker_no.proofs.no_sheet.Goals as goal
use Rattle.checker_no.proofs.no_sheet.Goals.{After-from-asked, Else-formula_count-i}

pub returns-then-sheet-le-NUMBER : goal.returns-then-sheet-le-NUMBER
unfolding check_no
returns-then-sheet-le-NUMBER c = rw (c.at.ensures, lt-leb 8 (length c.args.sheet.now) (omega (arith, c.if-sheet-le-NUMBER.true))) refl

-- the formulas of what is asked are those of its number
as_asked : (c : After-from-asked) → let q = question_of c.args.q.now in formulas q (asked_of c.from-asked.result) ≡ formulas q c.args.asked
as_asked c = formulas_alike (question_of c.args.q.now) (asked_of c.from-asked.result) c.args.asked c.from-asked.ensures

pub returns-then-formula_count-i : goal.returns-then-formula_count-i
unfolding check_no
returns-then-formula_count-i c = let l = c.args.sheet.now in
    let n = length (formulas (question_of c.args.q.now) c.args.asked) in
    let e = ap length (as_asked (goal.at.returns-then-formula_count-i c).After-from-asked) in
    rw (c.at-then-formula_count-i.ensures, le-leb 8 (length l) (omega (arith, c.if-sheet-le-NUMBER.false)), le-ltb (get_or l 7 0) n (omega (arith, e, c.if-formula_count-i.true, c.formula_count.ensures))) refl

-- the number is that of a formula
numbered : (c : Else-formula_count-i) → get_or c.args.sheet.now 7 0 < length (formulas (question_of c.args.q.now) (asked_of c.from-asked.result))
numbered c = omega (arith, c.if-formula_count-i.false, c.formula_count.ensures)

pub formula_rows-requires : goal.formula_rows-requires
formula_rows-requires c = let q = c.args.q.now in (fine_at (question_of q) (accepted_of q) (asked_of c.from-asked.result) (get_or c.args.sheet.now 7 0) (numbered (goal.at.formula_rows-requires c).Else-formula_count-i) _ c.outline.ensures.0, c.if-sheet-le-NUMBER.false)

pub returns : goal.returns
unfolding check_no
returns c = let l = c.args.sheet.now in
    let q = question_of c.args.q.now in
    let Fs = formulas q (asked_of c.from-asked.result) in
    let w = goal.at.returns c in
    (rw (le-leb 8 (length l) (omega (arith, c.if-sheet-le-NUMBER.false)), lt-ltb (get_or l 7 0) (length Fs) (numbered w.Else-formula_count-i))
    (c.formula_rows.ensures (formula_at Fs (get_or l 7 0)) c.outline.ensures.0))
    ∙ ap (λ Fs. check_no q Fs l) (as_asked w.After-from-asked)
