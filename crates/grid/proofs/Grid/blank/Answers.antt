use mathlib.Core.Path.{refl}
use Rattle.page_walks.specs.Grid.{blank}
use Rattle.grid.proofs.Grid.blank.Goals as goal

pub returns : goal.returns
unfolding blank
returns c = refl
