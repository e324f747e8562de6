use Rattle.std.proofs.Common.{◌+◌, ◌≤◌, length, take, drop}
use Rattle.page_walks.specs.Walk.{Below}
use Rattle.page_formulas.specs.Vertices.{Ranges}
use Rattle.page_sheets.proofs.NamedVertices.{AllShown}
use Rattle.program.specs.Lent.{Flagged}
use Rattle.checker_nodes.proofs.named.Given as goal

abbrev pub invariant-loop-i : goal.invariant-loop-i
invariant-loop-i l = record {
  within : l.first + l.i ≤ length l.part;
  shown : (rs : Ranges) → Flagged l.ranges rs → AllShown rs (drop l.first l.part) l.i;
  below : Below (length l.ranges) (take l.i (drop l.first l.part));
}
