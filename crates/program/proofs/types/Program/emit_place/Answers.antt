use Rattle.program.proofs.Emission.{emit_place}
use Rattle.program.proofs.types.Program.emit_place.Goals as goal

pub returns : goal.returns
returns c = emit_place c.args.self.now c.args.p c.requires
