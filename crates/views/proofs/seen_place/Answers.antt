use Rattle.std.proofs.Common.{sym, subst, arith, true}
use Rattle.goals.specs.Closures.{Enterable}
use Rattle.views.proofs.seen_place.Goals as goal

pub edge-requires : goal.edge-requires
edge-requires c = let p = c.requires.0 in let f = p.facts true in rw c.added-e.ensures (omega (arith, p.few, f.from_is), omega (arith, p.few, f.to_is))

pub round-requires : goal.round-requires
round-requires c = let p = c.requires.0 in subst (Enterable c.args.last c.args.near.now.rows) (sym c.added-e.ensures) (record { few = p.few; fact = p.facts true; tight = c.requires.1 })
