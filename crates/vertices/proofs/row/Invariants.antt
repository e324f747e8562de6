use Rattle.std.proofs.Common.{take}
use Rattle.vertices.specs.Rows.{row_ranges, Widens}
use Rattle.vertices.proofs.row.Given as goal

abbrev pub invariant-loop-c : goal.invariant-loop-c
invariant-loop-c l = Widens l.initial.into l.into l.c-index (row_ranges l.second (take l.c-index l.columns))
