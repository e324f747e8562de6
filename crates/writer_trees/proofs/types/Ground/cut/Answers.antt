use mathlib.Core.Path.{◌≡◌, ap}
use mathlib.Core.Option.{Option}
use mathlib.Core.List.{List}
use Prim.Native.Nat.{ℕ}
use Rattle.page_formulas.specs.Knowledge.{Three, fails}
use Rattle.page_sheets.specs.FastRule.{strained_node}
use Rattle.page_sheets.specs.Tree.{bytes_of}
use Rattle.room.specs.Room.{Filling, put_one, puts}
use Rattle.truth.specs.Values.{three_of}
use Rattle.writer_trees.specs.Trees.{cut_bytes}
use Rattle.writer_trees.proofs.types.Ground.cut.Goals as goal

cut_false : (k : Three) (o : Option (List ℕ)) (f x : Filling) → k ≡ fails → x ≡ put_one f 1 → x ≡ puts f (cut_bytes (strained_node k o))
unfolding puts bytes_of
cut_false k o f x e h = rw e h

pub returns-in-Fails-clause-filled : goal.returns-in-Fails-clause-filled
returns-in-Fails-clause-filled c = cut_false _ _ _ _ (ap three_of c.in-Fails.is) c.put.ensures.filled
