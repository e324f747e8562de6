use Rattle.std.proofs.Common.{arith}
use Rattle.program.proofs.Emission.{said, more, within}
use Rattle.formula_claims.proofs.Views.{tests_are}
use Rattle.formula_claims.proofs.claims.in_range.Goals as goal

pub returns : goal.returns
returns c Q u = within (omega arith) (omega arith) (more c.emit.ensures (said (tests_are Q c.args.d.now u c.args.second _ c.view.ensures) c.bounded_all.ensures))
