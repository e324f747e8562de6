use Rattle.std.proofs.Common.{sym, ap, ◌∙◌, arith}
use Rattle.page_formulas.specs.Knowledge.{sure}
use Rattle.truth.proofs.Runs.{decided_at}
use Rattle.truth.proofs.truths.decided.Goals as goal

pub returns-in-Some : goal.returns-in-Some
returns-in-Some g c =
    let at = c.in-Some.ensures.lookup in
    sym (decided_at g.T.Decision.passes c.args.truths.now c.args.place c.in-Some.truth.now (omega (arith, at)) at.1 ∙ ap sure (sym c.passes.ensures ∙ c.if-passes.true))

pub returns-in-Some-2 : goal.returns-in-Some-2
returns-in-Some-2 g c =
    let at = c.in-Some.ensures.lookup in
    sym (decided_at g.T.Decision.passes c.args.truths.now c.args.place c.in-Some.truth.now (omega (arith, at)) at.1 ∙ ap sure (sym c.passes.ensures ∙ c.if-passes.false))
