use borrow.Author.Rules.{rules}
use Prim.Native.Nat.{◌+◌}
use mathlib.Core.Path.{refl, sym, ◌∙◌}
use lib.ListN.{drop}
use Rattle.room.specs.Room.{begun}
use Rattle.room.proofs.PutBytes.{puts_next, puts_end, stops}
use Rattle.room.proofs.Sink.put_all.Goals as goal

pub loop-b-preserved : goal.loop-b-preserved
loop-b-preserved c = let l = c.loop-b in record {
  same_reference = search rules;
  to_come = puts_next (begun l.self) (begun c.put.new.self) c.args.bytes.now l.b-index c.loop-b-test.true c.in_ok-put.ensures.filled ∙ l.invariant.to_come;
}

pub returns-in_err-put-clause-filled : goal.returns-in_err-put-clause-filled
returns-in_err-put-clause-filled c = let l = c.loop-b in
    let bytes = c.args.bytes.now in
    stops c.put.new.self c.from_residual.result _ (drop (l.b-index + 1) bytes) c.from_residual.ensures.0 c.in_err-put.ensures.filled
    ∙ puts_next (begun l.self) _ bytes l.b-index c.loop-b-test.true refl
    ∙ l.invariant.to_come

pub returns-clause-filled : goal.returns-clause-filled
returns-clause-filled c = let l = c.loop-b in
    sym (puts_end (begun l.self) c.args.bytes.now l.b-index c.loop-b-test.false) ∙ l.invariant.to_come
