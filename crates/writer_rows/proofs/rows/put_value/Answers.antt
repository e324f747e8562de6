use Prim.Native.Nat.{ℕ}
use mathlib.Core.Path.{◌≡◌, refl, ap, ◌∙◌}
use mathlib.Core.List.{List, [], ◌∷◌}
use lib.ListN.{get_or}
use mir.Facts.{to_z-of_z}
use mir.Syntax.{w32, w64}
use mir.Val.{of_z}
use Rattle.std.specs.Int.{to_le_bytes}
use Rattle.page_numbers.specs.Bytes.{bytes4}
use Rattle.room.specs.Room.{begun, puts}
use Rattle.writer_rows.proofs.rows.put_value.Goals as goal

-- the four lowest bytes
four : (bs : List ℕ) (n : ℕ) → bs ≡ to_le_bytes w64 n → get_or bs 0 0 ∷ get_or bs 1 0 ∷ get_or bs 2 0 ∷ get_or bs 3 0 ∷ [] ≡ bytes4 n
unfolding bytes4
four bs n e = rw e refl

pub returns-clause-filled : goal.returns-clause-filled
returns-clause-filled c =
    c.put_all.ensures.filled
    ∙ ap (puts (begun c.args.sink.now)) (four c.to_le_bytes.result c.low_bits.result c.to_le_bytes.ensures ∙ ap bytes4 (c.low_bits.ensures ∙ ap (of_z w32) (to_z-of_z c.ranges.z)))
