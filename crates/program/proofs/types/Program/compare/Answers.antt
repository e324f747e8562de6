use Rattle.program.proofs.Emission.{more}
use Rattle.program.proofs.types.Program.compare.Goals as goal

pub returns-in-Unequal : goal.returns-in-Unequal
returns-in-Unequal c = rw c.in-Unequal.is (more c.same-in-Unequal.ensures c.emit.ensures)
