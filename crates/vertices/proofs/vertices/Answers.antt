use Rattle.std.proofs.Common.{[]}
use Rattle.vertices.proofs.Rows.{zero_spans}
use Rattle.vertices.proofs.vertices.Goals as goal

pub returns-then-pairs : goal.returns-then-pairs
returns-then-pairs c = rw c.if-pairs.true (c.row-then-pairs.ensures.spans _ (c.row.ensures.spans [] zero_spans))

pub returns-else-pairs : goal.returns-else-pairs
returns-else-pairs c = rw c.if-pairs.false (c.row.ensures.spans [] zero_spans)
