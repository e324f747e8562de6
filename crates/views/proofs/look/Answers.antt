use Rattle.std.proofs.Common.{refl, ◌∙◌, arith}
use lib.ListN.{length-set}
use Rattle.views.proofs.SeenTruths.{sees_start, sees_more}
use Rattle.views.proofs.look.Goals as goal

pub loop-i-init : goal.loop-i-init
loop-i-init c = let a = c.args in (sees_start a.tree.now c.requires.0 a.near.now.rows _, refl)

pub loop-i-preserved : goal.loop-i-preserved
loop-i-preserved c = let a = c.args in let l = c.loop-i in
    (sees_more a.tree.now c.requires.0 a.near.now.rows l.i l.seen l.invariant.0 (omega (arith, c.loop-i-test.true, c.requires.0.short, l.invariant.1)) c.view.result c.view.ensures, length-set l.seen l.i _ ∙ l.invariant.1)
