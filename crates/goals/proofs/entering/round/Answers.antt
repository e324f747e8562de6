use Rattle.std.proofs.Common.{ℕ, ℤ, ◌≡◌, sym, ap₂, ◌∙◌, subst, ◌+ℤ◌, SFits, w64, to_z, of_z}
use mir.Facts.{to_z-of_z}
use Rattle.page_walks.specs.Grid.{Grid, weight}
use Rattle.grid.specs.declared.Edge.{Edge}
use Rattle.goals.specs.Closures.{Enterable}
use Rattle.goals.proofs.Tightening.{sum_fits, weight_fits}
use Rattle.goals.proofs.entering.round.Goals as goal

-- the sum as the machine makes it
sum_is : (near : Grid) (last : ℕ) (e : Edge) → Enterable last near e → (w : ℤ) → SFits w64 w → w ≡ weight near e.to e.from → to_z w64 (of_z w64 w) +ℤ to_z w64 (of_z w64 e.weight) ≡ weight near e.to e.from +ℤ e.weight
sum_is near last e r w f is = ap₂ ◌+ℤ◌ (to_z-of_z {w = w64} f ∙ is) (to_z-of_z {w = w64} (weight_fits last e.from e.to e.weight r.fact))

pub overflow_add-result : goal.overflow_add-result
overflow_add-result c = let e = c.args.e in let r = c.requires in
    subst (SFits w64) (sym (sum_is c.args.near.now.rows c.args.last e r c.edge.result (record { sfits = c.edge.type_inv }) c.edge.ensures)) (sum_fits c.args.last c.args.near.now.rows r.tight e.from e.to e.weight r.fact e.to r.fact.to_is)

pub returns : goal.returns
returns c = to_z-of_z {w = w64} (overflow_add-result c) ∙ sum_is c.args.near.now.rows c.args.last c.args.e c.requires c.edge.result (record { sfits = c.edge.type_inv }) c.edge.ensures
