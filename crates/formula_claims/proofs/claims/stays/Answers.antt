use Rattle.std.proofs.Common.{arith}
use Rattle.program.proofs.Emission.{said, more, within}
use Rattle.formula_claims.proofs.Views.{relisted_is}
use Rattle.formula_claims.proofs.claims.stays.Goals as goal

pub returns : goal.returns
returns c Q u =
    within (omega arith) (omega arith)
    (more
    (more (c.moves.ensures Q u) c.emit.ensures)
    (more (said (relisted_is Q c.args.d.now u c.args.second _ c.view.ensures) c.condition.ensures) c.emit-2.ensures))
