use mathlib.Core.Path.{ap, ◌∙◌}
use native.Mathlib.Omega.{arith}
use mir.Syntax.{w32}
use mir.Val.{to_z}
use mir.Facts.{to_z-of_z}
use Rattle.page_numbers.specs.Bytes.{le32, int32}
use Rattle.ints.proofs.read_i32.Goals as goal

pub returns : goal.returns
unfolding int32 le32
returns c = to_z-of_z {w = w32} (record { sfits = c.from_bits.type_inv }) ∙ c.from_bits.ensures ∙ ap (to_z w32) (c.from_le_bytes.ensures ∙ omega arith)
