use Rattle.pieces.proofs.Contrasts.{told_begin, told_room, told_more, told_end}
use Rattle.pieces.proofs.differences.differs_all.Goals as goal

pub loop-i-init : goal.loop-i-init
loop-i-init c = told_begin c.args.a.now c.args.b.now c.requires.1 _ c.requires.0

pub differs_at-requires : goal.differs_at-requires
differs_at-requires c = let l = c.loop-i in
    let h = c.loop-i-test.true in
    (told_room c.args.a.now c.args.b.now c.requires.1 l.i h l.invariant c.requires.0, c.requires.1, c.requires.2, c.requires.3, h)

pub loop-i-preserved : goal.loop-i-preserved
loop-i-preserved c = let l = c.loop-i in told_more c.args.a.now c.args.b.now c.requires.1 l.i c.loop-i-test.true l.invariant c.differs_at.ensures

pub returns : goal.returns
returns c = let l = c.loop-i in told_end c.args.a.now c.args.b.now c.requires.1 _ _ l.i c.loop-i-test.false l.invariant
