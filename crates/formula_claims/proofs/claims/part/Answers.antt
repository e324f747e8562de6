use Rattle.std.proofs.Common.{true, false, ap}
use Rattle.formula_lines.specs.Lines.{claim_of, part_of}
use Rattle.formula_claims.proofs.Parts.{denied}
use Rattle.formula_claims.proofs.claims.part.Goals as goal

pub returns-in-NotFirst : goal.returns-in-NotFirst
returns-in-NotFirst c Q u = let w = c.in-NotFirst in rw (ap part_of w.is) (denied (claim_of w.c) false (c.claim-in-NotFirst.ensures Q u) c.emit.ensures)

pub returns-in-NotSecond : goal.returns-in-NotSecond
returns-in-NotSecond c Q u = let w = c.in-NotSecond in rw (ap part_of w.is) (denied (claim_of w.c) true (c.claim-in-NotSecond.ensures Q u) c.emit-in-NotSecond.ensures)
