use mir.Facts.{to_z-of_z}
use mir.Syntax.{w32}
use mir.Val.{SFits}
use borrow.Author.Rules.{rules}
use Rattle.fields.proofs.Chain.{at_fault, after, here}
use Rattle.page_questions.specs.Reader.{column_at}
use Rattle.tables.proofs.columns.column.Goals as goal

pub returns-in_err-lo : goal.returns-in_err-lo
unfolding column_at
returns-in_err-lo c = at_fault _ c.from_residual.ensures.1 c.in_err-lo.ensures

pub returns-in_err-hi : goal.returns-in_err-hi
unfolding column_at
returns-in_err-hi c = let v : SFits w32 c.in_ok-lo.lo = search rules in
    after _ c.in_ok-lo.ensures (at_fault _ c.from_residual-in_err-hi.ensures.1 (simp (to_z-of_z, v) at c.in_err-hi.ensures))

pub returns-in_err-shown : goal.returns-in_err-shown
unfolding column_at
returns-in_err-shown c = let v : SFits w32 c.in_ok-lo.lo = search rules in
    after _ c.in_ok-lo.ensures (after _ (simp (to_z-of_z, v) at c.in_ok-hi.ensures) (at_fault _ c.from_residual-in_err-shown.ensures.1 c.in_err-shown.ensures))

pub returns : goal.returns
unfolding column_at
returns c = let v : SFits w32 c.in_ok-lo.lo = search rules in
    let w : SFits w32 c.in_ok-hi.hi = search rules in
    after _ c.in_ok-lo.ensures (after _ (simp (to_z-of_z, v) at c.in_ok-hi.ensures) (after _ c.in_ok-shown.ensures (here (simp (to_z-of_z, v, w)))))
