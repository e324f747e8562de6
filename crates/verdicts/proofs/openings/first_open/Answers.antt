use Rattle.question.proofs.Guaranteed.{accepted_of}
use Rattle.std.proofs.Common.{◌<◌, refl, subst, arith, length, Some, None}
use Rattle.question.specs.Held.{asked_of, question_of}
use Rattle.page_formulas.specs.Formulas.{formulas}
use Rattle.goals.specs.Goals.{held, TrueAt}
use Rattle.formula.specs.Formulas.{formula_at}
use Rattle.formula.proofs.AskedAlike.{formulas_alike, finding_alike}
use Rattle.formula.proofs.ProperFormulas.{proper_at, fine_at}
use Rattle.verdicts.specs.Finding.{Finds}
use Rattle.verdicts.specs.declared.openings.Found.{Found}
use Rattle.verdicts.proofs.Findings.{passed_more, found_first, found_none}
use Rattle.verdicts.proofs.openings.first_open.Goals as goal
use Rattle.verdicts.proofs.openings.first_open.Goals.{In-loop-i}

-- the next is one of them
there : (c : In-loop-i) → c.loop-i.i < length (formulas (question_of c.args.q.now) (asked_of c.from-asked.result))
there c = omega (arith, c.loop-i-test.true, c.formula_count-i-end.ensures)

pub formula_opens-requires : goal.formula_opens-requires
formula_opens-requires c = fine_at (question_of c.args.q.now) (accepted_of c.args.q.now) (asked_of c.from-asked.result) c.loop-i.i (there (goal.at.formula_opens-requires c).In-loop-i) _ c.outline.ensures.0

pub returns-in-Some : goal.returns-in-Some
returns-in-Some c = let q = question_of c.args.q.now in
    let ok = accepted_of c.args.q.now in
    let a = asked_of c.from-asked.result in
    let e = c.from-asked.ensures in
    let i = c.loop-i.i in
    let h = there (goal.at.returns-in-Some c).In-loop-i in
    let r : Found = record { number = i; values = c.in-Some.values } in
    let t = c.in-Some.ensures (formula_at (formulas q a) i) c.outline.ensures.0 (proper_at q ok a i h) in (
      subst (λ f. Finds f (Some r)) (finding_alike q a c.args.asked e) (found_first q ok a i (c.loop-i.invariant ok) h r t refl),
      subst (λ Fs. TrueAt (formula_at Fs i) (held r.values)) (formulas_alike q a c.args.asked e) t,
    )

pub loop-i-preserved : goal.loop-i-preserved
loop-i-preserved c = let q = question_of c.args.q.now in
    let a = asked_of c.from-asked.result in
    let i = c.loop-i.i in
    let h = there (goal.at.loop-i-preserved c).In-loop-i in
    λ ok. passed_more q ok a i (c.loop-i.invariant ok) h (c.in_default.ensures (formula_at (formulas q a) i) c.outline.ensures.0 (proper_at q ok a i h))

pub returns : goal.returns
returns c = let q = question_of c.args.q.now in
    let ok = accepted_of c.args.q.now in
    let a = asked_of c.from-asked.result in
    let l = c.loop-i in
    let none = found_none q ok a l.i (l.invariant ok) (omega (arith, c.loop-i-test.false, l.auto.i-end, c.formula_count-i-end.ensures)) in
    (subst (λ f. Finds f None) (finding_alike q a c.args.asked c.from-asked.ensures) none, tt)
