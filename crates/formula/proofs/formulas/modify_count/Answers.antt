use Rattle.std.proofs.Common.{◌≡◌, true, List, length, ap, ◌∙◌, arith}
use Rattle.page_meaning.specs.Claims.{modification}
use Rattle.question.specs.Held.{version_of, asked_of, question_with}
use Rattle.question.specs.declared.types.Change.{Change}
use Rattle.question.specs.declared.types.Column.{Column}
use Rattle.question.specs.declared.types.Condition.{Condition}
use Rattle.question.specs.declared.types.Shape.{Shape}
use Rattle.page_formulas.specs.Formulas.{formulas}
use Rattle.formula.proofs.AskedAlike.{formulas_alike}
use Rattle.formula.proofs.Counts.{modify_first, modify_second}
use Rattle.formula.proofs.formulas.modify_count.Goals as goal
use Rattle.formula.proofs.formulas.modify_count.Goals.{After-from}

-- the formulas of what is asked are those of its number
as_asked : (c : After-from) (h : Shape) (cs : List Column) (d : Condition) (ch : Change) → let Q = question_with c.args.version h cs d ch in length (formulas Q (asked_of c.from.result)) ≡ length (formulas Q c.args.asked)
as_asked c h cs d ch = ap length (formulas_alike (question_with c.args.version h cs d ch) (asked_of c.from.result) c.args.asked c.from.ensures)

pub returns-in-Irrelevant-One : goal.returns-in-Irrelevant-One
returns-in-Irrelevant-One c = λ h cs d ch m. let a = c.args in
    let w = c.in-Irrelevant-One in
    omega (arith, ap (λ v. length (modification (version_of v) true)) w.is-1, modify_first a.version h cs d ch (asked_of c.from.result) m (ap asked_of w.is-0), as_asked (goal.at.returns-in-Irrelevant-One c).After-from h cs d ch)

pub returns-in-Irrelevant-Two : goal.returns-in-Irrelevant-Two
returns-in-Irrelevant-Two c = λ h cs d ch m. let a = c.args in
    let w = c.in-Irrelevant-Two in
    omega (arith, ap (λ v. length (modification (version_of v) true)) w.is-1, modify_first a.version h cs d ch (asked_of c.from.result) m (ap asked_of w.is-0), as_asked (goal.at.returns-in-Irrelevant-Two c).After-from h cs d ch)

pub returns-in-Computable-default : goal.returns-in-Computable-default
returns-in-Computable-default c = λ h cs d ch m. let a = c.args in
    let e = ap asked_of c.in-Computable-default.is-0 in
    modify_second a.version h cs d ch (asked_of c.from.result) m (λ k. omega (arith, e))
    ∙ as_asked (goal.at.returns-in-Computable-default c).After-from h cs d ch
