use Rattle.std.proofs.Common.{ap}
use Rattle.program.proofs.Emission.{said}
use Rattle.formula_lines.specs.Lines.{claim_of}
use Rattle.formula_claims.proofs.Views.{listed_is, relisted_is, chosen_is, differs_is}
use Rattle.formula_claims.proofs.claims.claim.Goals as goal

pub returns-in-Listed : goal.returns-in-Listed
returns-in-Listed c Q u = rw (ap claim_of c.in-Listed.is) (said (listed_is Q c.args.d.now u c.args.second _ c.view.ensures) c.condition.ensures)

pub returns-in-Relisted : goal.returns-in-Relisted
returns-in-Relisted c Q u = rw (ap claim_of c.in-Relisted.is) (said (relisted_is Q c.args.d.now u c.args.second _ c.view-in-Relisted.ensures) c.condition-in-Relisted.ensures)

pub returns-in-Chosen : goal.returns-in-Chosen
returns-in-Chosen c Q u = rw (ap claim_of c.in-Chosen.is) (said (chosen_is Q c.args.d.now u c.args.second _ c.view-in-Chosen.ensures) c.condition-in-Chosen.ensures)

pub returns-in-Differing : goal.returns-in-Differing
returns-in-Differing c Q u =
    let w = c.in-Differing in
    rw (ap claim_of w.is) (said (differs_is Q c.args.d.now u c.args.second w.other w.after _ _ c.view-in-Differing.ensures c.view-in-Differing-2.ensures) c.differs.ensures)
