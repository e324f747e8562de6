use Rattle.std.proofs.Common.{◌+◌, subst, take, arith}
use Rattle.vertices.specs.Rows.{row_ranges, Widens}
use Rattle.vertices.proofs.Rows.{widens_more, row_more}
use Rattle.vertices.proofs.row.Goals as goal

pub loop-c-preserved : goal.loop-c-preserved
loop-c-preserved c = let a = c.args in
    let l = c.loop-c in
    subst (Widens a.into.now _ (l.c-index + 1)) (row_more a.second a.columns.now l.c-index c.entry.result c.loop-c-test.true c.entry.ensures)
    (widens_more a.into.now l.into l.c-index (row_ranges a.second (take l.c-index a.columns.now)) l.invariant (omega (arith, c.requires.room, l.invariant.count)) c.entry.result)
