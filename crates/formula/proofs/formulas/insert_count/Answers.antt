use Rattle.std.proofs.Common.{◌≡◌, List, length, ap, ◌∙◌, arith}
use Rattle.question.specs.Held.{asked_of, question_with}
use Rattle.question.specs.declared.types.Column.{Column}
use Rattle.question.specs.declared.types.Condition.{Condition}
use Rattle.question.specs.declared.types.Version.{Version}
use Rattle.page_formulas.specs.Formulas.{formulas}
use Rattle.formula.proofs.AskedAlike.{formulas_alike}
use Rattle.formula.proofs.Counts.{first_count, alone_count, together_count}
use Rattle.formula.proofs.formulas.insert_count.Goals as goal
use Rattle.formula.proofs.formulas.insert_count.Goals.{After-from}

-- the formulas of what is asked are those of its number
as_asked : (c : After-from) (v : Version) (cs : List Column) (d : Condition) → let a = c.args in let Q = question_with v a.shape.now cs d a.change.now in length (formulas Q (asked_of c.from.result)) ≡ length (formulas Q a.asked)
as_asked c v cs d = let a = c.args in ap length (formulas_alike (question_with v a.shape.now cs d a.change.now) (asked_of c.from.result) a.asked c.from.ensures)

pub returns-in-Irrelevant : goal.returns-in-Irrelevant
returns-in-Irrelevant c = λ v cs d.
    let a = c.args in
    first_count v a.shape.now cs d a.change.now c.requires.0 (asked_of c.from.result) c.requires.2 (ap asked_of c.in-Irrelevant.is)
    ∙ as_asked (goal.at.returns-in-Irrelevant c).After-from v cs d

pub returns-then-tables-eq1 : goal.returns-then-tables-eq1
returns-then-tables-eq1 c = λ v cs d.
    let a = c.args in
    let e = ap asked_of c.in-Computable.is in
    alone_count v a.shape.now cs d a.change.now c.requires.0 (asked_of c.from.result) c.requires.2 (λ h. omega (arith, e)) c.if-tables-eq1.true
    ∙ as_asked (goal.at.returns-then-tables-eq1 c).After-from v cs d

pub returns-else-tables-eq1 : goal.returns-else-tables-eq1
returns-else-tables-eq1 c = λ v cs d.
    let a = c.args in
    let e = ap asked_of c.in-Computable.is in
    together_count v a.shape.now cs d a.change.now c.requires.0 (asked_of c.from.result) c.requires.2 (λ h. omega (arith, e)) c.if-tables-eq1.false
    ∙ as_asked (goal.at.returns-else-tables-eq1 c).After-from v cs d
