use Rattle.question.proofs.Guaranteed.{accepted_of}
use Rattle.question.specs.Held.{question_of, asked_of}
use Rattle.page_formulas.specs.Formulas.{formulas}
use Rattle.formula.specs.Formulas.{formula_at}
use Rattle.formula.proofs.ProperFormulas.{proper_at, fine_at}
use Rattle.writer_sheets.proofs.put_tree.Goals as goal

pub plant_formula-requires : goal.plant_formula-requires
plant_formula-requires c = let q = c.args.q.now in fine_at (question_of q) (accepted_of q) (asked_of c.args.asked) c.args.i c.requires _ c.outline.ensures.0

pub returns-clause-grows : goal.returns-clause-grows
returns-clause-grows c = let q = c.args.q.now in
    let a = asked_of c.args.asked in
    c.plant_formula.ensures.grows (formula_at (formulas (question_of q) a) c.args.i) c.outline.ensures.0 (proper_at (question_of q) (accepted_of q) a c.args.i c.requires)
