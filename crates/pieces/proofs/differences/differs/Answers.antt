use Rattle.std.proofs.Common.{arith}
use Rattle.program.proofs.Emission.{more, within}
use Rattle.pieces.proofs.differences.differs.Goals as goal

pub returns : goal.returns
returns c = within (omega arith) (omega arith) (more c.emit.ensures c.differs_all.ensures)
