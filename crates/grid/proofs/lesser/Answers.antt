use mathlib.Core.Path.{◌∙◌}
use mir.Syntax.{w64}
use mir.Facts.{to_z-of_z}
use Rattle.page_numbers.specs.Numbers.{min_z}
use Rattle.grid.proofs.lesser.Goals as goal

pub returns : goal.returns
unfolding min_z
returns c = to_z-of_z {w = w64} (record { sfits = c.min.type_inv }) ∙ (simp (to_z-of_z, c.ranges.a, c.ranges.b) at c.min.ensures.value)
