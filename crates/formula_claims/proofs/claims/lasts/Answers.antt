use Rattle.std.proofs.Common.{arith}
use Rattle.program.proofs.Emission.{said, more, within}
use Rattle.formula_claims.proofs.Views.{chosen_is, relisted_is}
use Rattle.formula_claims.proofs.claims.lasts.Goals as goal

pub returns : goal.returns
returns c Q u = let d = c.args.d.now in
    within (omega arith) (omega arith)
    (more
    (more (said (chosen_is Q d u c.args.second _ c.view.ensures) c.condition.ensures) c.emit.ensures)
    (more
    (more (c.in_range.ensures Q u) (more (said (relisted_is Q d u c.args.second _ c.view-2.ensures) c.condition-2.ensures) c.emit-2.ensures))
    c.emit-3.ensures))
