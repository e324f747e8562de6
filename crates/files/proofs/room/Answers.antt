use Prim.Native.Nat.{ℕ}
use mathlib.Core.Path.{sym}
use lib.ListN.{length-replicate}
use Rattle.files.proofs.room.Goals as goal

-- The length of a repeat, by its law: the list itself is never written out.
pub returns : goal.returns
returns c = sym (length-replicate {0} {A = ℕ} 1048576 0)
