use mathlib.Core.Path.{◌≡◌}
use Rattle.question.specs.Held.{question_of, asked_of}
use Rattle.room.specs.Room.{begun}
use Rattle.writer_sheets.proofs.Trees.{Sown}
use Rattle.writer_sheets.proofs.put_trees.Given as goal

-- The trees of the formulas before the next stand in the room.
abbrev pub invariant-loop-i : goal.invariant-loop-i
invariant-loop-i l = record {
  same_reference : l.sink.room.ghost_name ≡ l.initial.sink.room.ghost_name;
  sown : Sown (question_of l.q) (asked_of l.asked) (begun l.initial.sink) l.i (begun l.sink);
}
