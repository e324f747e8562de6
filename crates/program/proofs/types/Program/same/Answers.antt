use Rattle.program.proofs.Emission.{more}
use Rattle.program.proofs.types.Program.same.Goals as goal

pub returns : goal.returns
returns c = more (more c.at_most.ensures c.at_most-2.ensures) c.emit.ensures
