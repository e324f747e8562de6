use Rattle.std.proofs.Common.{rules, refl}
use Rattle.page_formulas.specs.Kinds.{kinds_of}
use Rattle.page_formulas.specs.Program as P
use Rattle.program.proofs.types.Program.clear.Goals as goal

pub returns : goal.returns
unfolding kinds_of P.places
returns c = (record { instructions = refl; places = refl; counted = refl; decided = refl }, record { instructions = search rules; places = search rules })
