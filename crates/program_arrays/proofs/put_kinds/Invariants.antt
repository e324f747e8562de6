use Rattle.std.proofs.Common.{◌≡◌, ◌+◌, ◌++◌, map, take}
use Rattle.program.specs.Meanings.{number_of}
use Rattle.program_arrays.proofs.put_kinds.Given as goal

abbrev pub invariant-loop-i : goal.invariant-loop-i
invariant-loop-i l = take (l.at + l.i) l.kinds ≡ take l.at l.initial.kinds ++ map number_of (take l.i l.instructions)
