use Prim.Native.Nat.{◌<◌}
use lib.ListN.{length}
use mathlib.Core.Path.{sym, subst}
use Rattle.question.proofs.Guaranteed.{accepted_of}
use Rattle.question.specs.Held.{question_of, asked_of}
use Rattle.page_formulas.specs.Formulas.{formulas, no_formula}
use Rattle.program.specs.Compiled.{Compiled}
use Rattle.formula.specs.Formulas.{formula_at}
use Rattle.formula.proofs.AskedAlike.{formulas_alike}
use Rattle.formula.proofs.ProperFormulas.{proper_at}
use Rattle.page_sheets.specs.Sheet.{say_no}
use Rattle.page_sheets.proofs.AlikeRows.{rows_there}
use Rattle.writer_rows.proofs.ShownFormulas.{wide_at}
use Rattle.writer_sheets.proofs.Sheets.{number_there, number_byte, opens, fine_open, no_parts, header_over, header_then}
use Rattle.writer_sheets.proofs.put_no.Goals as goal
use Rattle.writer_sheets.proofs.put_no.Goals.{After-outline}

pub returns-in_err-put_header-clause-filled : goal.returns-in_err-put_header-clause-filled
returns-in_err-put_header-clause-filled c = let q = question_of c.args.q.now in
    let a = c.args.asked in
    header_over q a say_no _ (no_parts q a c.args.number c.requires) _ c.put_header.new.sink c.from_residual.result c.from_residual.ensures.0 c.in_err-put_header.ensures.filled

pub outline-requires : goal.outline-requires
outline-requires c = let q = question_of c.args.q.now in
    let a = c.args.asked in
    subst (λ Fs. c.args.number < length Fs) (sym (formulas_alike q (asked_of c.from.result) a c.from.ensures)) (number_there q a c.args.number c.requires)

-- the formula, as its number names it
compiled : (c : After-outline) → Compiled c.outline.new.into (formula_at (formulas (question_of c.args.q.now) c.args.asked) c.args.number)
compiled c = subst (λ Fs. Compiled c.outline.new.into (formula_at Fs c.args.number)) (formulas_alike (question_of c.args.q.now) (asked_of c.from.result) c.args.asked c.from.ensures) c.outline.ensures.0

pub overflow_cast-number : goal.overflow_cast-number
overflow_cast-number c = record { fits = number_byte (question_of c.args.q.now) c.args.asked c.args.number c.requires (accepted_of c.args.q.now) }

pub first_leaf-requires : goal.first_leaf-requires
first_leaf-requires c = let q = c.args.q.now in fine_open (question_of q) c.args.asked c.args.number c.requires (accepted_of q) _ (compiled (goal.at.first_leaf-requires c).After-outline)

pub put_refutation-requires : goal.put_refutation-requires
put_refutation-requires c = let q = c.args.q.now in
    let a = c.args.asked in
    wide_at (question_of q) (accepted_of q).well_formed a c.args.number (number_there (question_of q) a c.args.number c.requires)

pub returns-clause-filled : goal.returns-clause-filled
returns-clause-filled c = let q = question_of c.args.q.now in
    let a = c.args.asked in
    let i = c.args.number in
    let o = c.requires in
    let F = formula_at (formulas q a) i in
    let is = compiled (goal.at.returns-clause-filled c).After-outline in
    let h = number_there q a i o in
    header_then q a say_no _ (no_parts q a i o) _ _ _ c.in_ok-put_header.ensures.filled
    (c.put_refutation.ensures.filled F o.values (sym is.pairs) (rows_there q a i no_formula h) (c.first_leaf.ensures F o.values is (proper_at q (accepted_of c.args.q.now) a i h) (opens q a i o)))
