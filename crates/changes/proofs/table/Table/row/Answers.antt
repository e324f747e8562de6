use native.Mathlib.Omega.{arith}
use lib.ListN.{get_or, length-map}
use mathlib.Core.List.{map-id}
use Rattle.page_questions.specs.Reader.{row_at}
use mir.Facts.{to_z-of_z}
use mir.Syntax.{w32}
use mir.Val.{SFits}
use borrow.Author.Rules.{rules}
use Rattle.fields.proofs.Run.{one_read, one_refused, all_read}
use Rattle.changes.proofs.RowLaws.{no_column, value_read}
use Rattle.changes.proofs.table.Table.row.Goals as goal

pub loop-j-preserved : goal.loop-j-preserved
loop-j-preserved c =
    let column = get_or c.args.self.now.columns.now c.loop-j.j no_column in
    let low : SFits w32 column.lo = search rules in
    let high : SFits w32 column.hi = search rules in
    let v : SFits w32 c.in_ok-values.field-0 = search rules in
    simp (to_z-of_z, v)
    (one_read c.loop-j.invariant c.loop-j-test.true (search rules)
    (value_read c.args.self.now.columns.now c.loop-j.j c.loop-j.values (omega (arith, c.loop-j.invariant.going.sized)) (simp (to_z-of_z, low, high) at c.in_ok-values.ensures)))

pub returns-in_err-values : goal.returns-in_err-values
unfolding row_at
returns-in_err-values c =
    let column = get_or c.args.self.now.columns.now c.loop-j.j no_column in
    let low : SFits w32 column.lo = search rules in
    let high : SFits w32 column.hi = search rules in
    simp length-map
    (one_refused c.loop-j.invariant c.loop-j-test.true c.from_residual.ensures.1
    (value_read c.args.self.now.columns.now c.loop-j.j c.loop-j.values (omega (arith, c.loop-j.invariant.going.sized)) (simp (to_z-of_z, low, high) at c.in_err-values.ensures)))

pub returns : goal.returns
unfolding row_at
returns c = let t = all_read c.loop-j.invariant c.loop-j-test.false in
    record { same = t.same; meaning = simp length-map (rw map-id at t.meaning) }
