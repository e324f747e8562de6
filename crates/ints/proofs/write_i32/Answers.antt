use mathlib.Core.Path.{◌≡◌, ap, ◌∙◌}
use mathlib.Core.List.{List, ◌++◌, append_assoc}
use native.Mathlib.Omega.{arith}
use Prim.Native.Nat.{ℕ, ◌+◌, ◌-◌}
use lib.ListN.{take, drop}
use borrow.Rule.Slice.PartMut.{put_mid}
use mir.Syntax.{w32}
use mir.Val.{of_z}
use mir.Facts.{to_z-of_z}
use Rattle.std.proofs.lemmas.List.{drop-drop}
use Rattle.page_numbers.specs.Bytes.{put32, bytes4}
use Rattle.ints.proofs.write_i32.Goals as goal

put_four : (s bytes : List ℕ) (p : ℕ) → put_mid p (p + 4 - p) s bytes ≡ take p s ++ bytes ++ drop (p + 4) s
put_four s bytes p = rw append_assoc (ap (λ r. take p s ++ (bytes ++ r)) (drop-drop (p + 4 - p) p s ∙ ap (λ n. drop n s) (omega arith)))

pub returns : goal.returns
unfolding put32 bytes4
returns c = let s = c.args.s.now in
    let p = c.args.p in
    put_four s c.copy_from_slice.new.self p
    ∙ ap (λ b. take p s ++ b ++ drop (p + 4) s) (c.copy_from_slice.ensures.after ∙ c.to_le_bytes.ensures ∙ ap bytes4 (c.to_bits.ensures ∙ ap (of_z w32) (to_z-of_z c.ranges.z)))
