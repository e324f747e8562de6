use mathlib.Core.Path.{ap, ◌∙◌}
use lib.IntN.{pos}
use lib.Signed.{lt_z}
use mir.Facts.{to_z-of_z}
use mir.Syntax.{w64}
use Rattle.checker_nodes.proofs.below_zero.Goals as goal

pub returns : goal.returns
returns c = ap (λ z. lt_z z (pos 0)) (to_z-of_z {w = w64} (record { sfits = c.closing.type_inv }) ∙ c.closing.ensures)
