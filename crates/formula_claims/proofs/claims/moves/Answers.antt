use Rattle.program.proofs.Emission.{said, more}
use Rattle.formula_claims.proofs.Views.{chosen_is, tests_are}
use Rattle.formula_claims.proofs.claims.moves.Goals as goal

pub returns : goal.returns
returns c Q u = let d = c.args.d.now in
    more
    (said (chosen_is Q d u c.args.second _ c.view.ensures) c.condition.ensures)
    (said (tests_are Q d u c.args.second _ c.view-2.ensures) c.bounded_all.ensures)
