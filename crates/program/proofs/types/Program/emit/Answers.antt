use Rattle.program.proofs.Emission.{emit_bare}
use Rattle.program.proofs.types.Program.emit.Goals as goal

pub returns : goal.returns
returns c = emit_bare c.args.self.now c.args.i c.requires.0 c.requires.1
