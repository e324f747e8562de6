use Rattle.tables.proofs.Totals.{WidthRun}
use Rattle.tables.proofs.widths.widths.Given as goal

abbrev pub invariant-loop-i : goal.invariant-loop-i
invariant-loop-i l = WidthRun l.n l.fn.from l.from l.widths l.total l.i
