use Rattle.std.proofs.Common.{arith}
use Rattle.pieces.proofs.Tests.{tests_begin, test_room, test_more, tests_end}
use Rattle.pieces.proofs.ranges.bounded_all.Goals as goal

pub loop-j-init : goal.loop-j-init
loop-j-init c = tests_begin c.args.s.now c.requires.1 c.requires.2 _ c.requires.0

pub bounded_at-requires : goal.bounded_at-requires
bounded_at-requires c = let l = c.loop-j in
    (test_room c.args.s.now c.requires.1 c.requires.2 l.j (omega arith) l.invariant c.requires.0, c.requires.1, c.requires.2, omega arith)

pub loop-j-preserved : goal.loop-j-preserved
loop-j-preserved c = let l = c.loop-j in test_more c.args.s.now c.requires.1 c.requires.2 l.j (omega arith) l.invariant c.bounded_at.ensures

pub returns : goal.returns
returns c = let l = c.loop-j in tests_end c.args.s.now c.requires.1 c.requires.2 _ _ l.j (omega arith) l.invariant
