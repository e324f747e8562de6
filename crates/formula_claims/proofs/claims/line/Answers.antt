use Rattle.std.proofs.Common.{arith}
use Rattle.formula_claims.proofs.Parts.{begin_room, part_room, and_room, part_more, parts_all}
use Rattle.formula_claims.proofs.claims.line.Goals as goal

pub part-requires : goal.part-requires
part-requires c = let q = c.requires in (begin_room c.args.l.now q.4 c.args.into.now q.1 q.0, q.2)

pub part-requires-in-loop-p : goal.part-requires-in-loop-p
part-requires-in-loop-p c = let a = c.args in
    let q = c.requires in
    let l = c.loop-p in
    let g = q.2 in
    (part_room a.l.now q.4 a.into.now q.1 q.0 l.p-index (omega arith) g.question a.d.now _ (l.invariant g.question g.under), g)

pub emit-requires : goal.emit-requires
emit-requires c = let a = c.args in
    let q = c.requires in
    let l = c.loop-p in
    let g = q.2 in
    (and_room a.l.now q.4 a.into.now q.1 q.0 l.p-index (omega arith) g.question a.d.now _ (l.invariant g.question g.under) _ _ (c.part-in-loop-p.ensures g.question g.under), tt)

pub loop-p-preserved : goal.loop-p-preserved
loop-p-preserved c Q u = let a = c.args in
    let l = c.loop-p in
    part_more a.l.now l.p-index (omega arith) Q a.d.now a.into.now _ _ _ (l.invariant Q u) (c.part-in-loop-p.ensures Q u) c.emit.ensures

pub returns : goal.returns
returns c = let a = c.args in
    let q = c.requires in
    let l = c.loop-p in
    let g = q.2 in
    (λ Q u. parts_all a.l.now q.4 a.into.now q.1 q.0 Q a.d.now _ l.p-index (omega arith) (l.invariant Q u), (l.invariant g.question g.under).long)
