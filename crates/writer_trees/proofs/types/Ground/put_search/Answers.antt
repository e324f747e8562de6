use Prim.Native.Nat.{◌+◌}
use mathlib.Core.Path.{sym, subst}
use native.Mathlib.Omega.{arith}
use Rattle.grid.specs.Edges.{Kept}
use Rattle.writer_trees.proofs.Growths.{kept_next, kept_within}
use Rattle.writer_trees.proofs.types.Ground.put_search.Goals as goal

pub search-requires : goal.search-requires
search-requires c = let a = c.args in
    let x = a.self.now in
    let kept = subst Kept (sym c.enter.ensures) (kept_next x.last a.e c.requires x.facts.now.rows x.kept) in
    record { some = omega arith; few = omega (arith, x.placing.few); within = kept_within _ kept (x.last + 1) }
