use mathlib.Core.Path.{◌≡◌, refl, sym}
use native.Mathlib.Omega.{arith}
use lib.ListN.{length}
use Rattle.std.proofs.lemmas.Bool.Decides.{nat_tests}
use Rattle.cases.proofs.Pairs.{refused_odd, refused_long, stage_next, stage_wrong, stage_end, pair_is}
use Rattle.cases.proofs.decode.Goals as goal

pub returns-then-not-is_empty-clause-decodes : goal.returns-then-not-is_empty-clause-decodes
returns-then-not-is_empty-clause-decodes c =
    let some_left : ¬ (length c.as_chunks.result.1.now ≡ 0) = grind (arith, nat_tests) in
    refused_odd _ _ _ (omega arith)

pub returns-then-pairs-room-clause-decodes : goal.returns-then-pairs-room-clause-decodes
returns-then-pairs-room-clause-decodes c = refused_long _ _ _ (omega arith)

pub returns-in_err-room-clause-decodes : goal.returns-in_err-room-clause-decodes
returns-in_err-room-clause-decodes c =
    let t = rw (pair_is c.args.digits.now _ c.loop-i.i c.as_chunks.ensures.front (omega arith)) at c.in_err-room.ensures in
    rw c.from_residual.ensures (stage_wrong _ _ c.loop-i.i _ c.loop-i.invariant (omega arith) _ refl (omega (arith, t)))

pub loop-i-preserved : goal.loop-i-preserved
loop-i-preserved c =
    let x = rw (pair_is c.args.digits.now _ c.loop-i.i c.as_chunks.ensures.front (omega arith)) at c.in_ok-room.ensures in
    stage_next _ _ c.loop-i.i _ c.loop-i.invariant (omega arith) _ x.0 x.1 (omega arith)

pub returns-clause-decodes : goal.returns-clause-decodes
returns-clause-decodes c =
    let none_left : length c.as_chunks.result.1.now ≡ 0 = grind (arith, nat_tests) in
    let done : c.loop-i.i ≡ length c.as_chunks.result.0.now = omega arith in
    rw (sym done) (stage_end _ _ _ _ c.loop-i.invariant (omega arith) (omega arith))
