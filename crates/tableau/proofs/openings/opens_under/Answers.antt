use Rattle.std.proofs.Common.{refl}
use Rattle.goals.proofs.Stacks.{stack_none}
use Rattle.tableau.proofs.openings.opens_under.Goals as goal

pub open-requires : goal.open-requires
open-requires c = (c.requires.0, c.requires.1, stack_none _ 0 refl)
