use mathlib.Core.Path.{◌≡◌}
use lib.ListN.{length}
use Rattle.writer_leaves.proofs.Attempts.{Going}
use Rattle.writer_leaves.proofs.descend.Given as goal

-- The facts so far lead to the leaf.
abbrev pub invariant-loop-place : goal.invariant-loop-place
invariant-loop-place l = record {
  decided : length l.truths ≡ l.place-index;
  going : Going l.instructions l.places l.tree l.initial.near.rows l.truths l.near.rows;
}
