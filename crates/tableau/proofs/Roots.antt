-- The whole program, wanted true, under given facts or those of its ranges.
use Rattle.std.proofs.Common.{ℕ, suc, ◌-◌, ◌<◌, ◌≡◌, sym, ap, ◌∙◌, subst, true, List, [], ◌∷◌, Option, Some, None, ℤ, arith}
use Rattle.page_meaning.specs.Limits.{most_vertices}
use Rattle.page_walks.specs.Grid.{Grid, weight}
use Rattle.page_walks.specs.Sizes.{Sized}
use Rattle.page_walks.specs.Walk.{Sat}
use Rattle.page_formulas.specs.Formulas.{Formula}
use Rattle.page_formulas.specs.Program.{Program}
use Rattle.page_formulas.specs.ProperFormulas.{Proper}
use Rattle.page_formulas.specs.Postfix.{value_at}
use Rattle.program.specs.declared.types.Range.{Range}
use Rattle.program.specs.Compiled.{Ranging, Ranged}
use Rattle.program.proofs.Ranges.{ranged}
use Rattle.page_sheets.proofs.AbsentVertices.{settle, truth_settle}
use Rattle.spreads.specs.Spread.{spread}
use Rattle.spreads.proofs.RangeClosure.{begun_least, begun_far, sat_range, range_sat}
use Rattle.program_tree.specs.declared.types.Tree.{Tree}
use Rattle.program_tree.specs.Nodes.{Tells}
use Rattle.goals.specs.Closures.{Tight}
use Rattle.goals.specs.declared.types.State.{State}
use Rattle.goals.specs.Goals.{goal, waiting, total, held, Opens, Solves, Asks, TrueAt, TrueUnder}
use Rattle.tableau.proofs.Splits.{opens_same}

-- under given facts
module _ (t : Tree) (p : Program) (tells : Tells t p) (near : Grid) where
  pub root_asks : Sized most_vertices near → Tight (suc t.last) near → (s : State) → s.near.rows ≡ near → waiting s ≡ [] → Asks t s (t.count - 1)
  root_asks z h s same none = record {
    standing = rw (same, none) (record { laid = tells.laid; table = z; tight = h; waiting = tt; enough = omega arith });
    in_tree = omega (arith, tells.some);
    enough = omega (arith, ap (total t) none, tells.whole);
  }

  pub root_opens : (s : State) → s.near.rows ≡ near → waiting s ≡ [] → (r : Option (List ℤ)) → Opens r (Solves t (value_at p) s.near.rows (goal (t.count - 1) true ∷ waiting s)) → Opens r (TrueUnder p t.last near)
  root_opens s same none r o = opens_same r (Solves t (value_at p) near (goal (t.count - 1) true ∷ [])) (TrueUnder p t.last near) (λ x. (
    λ s. record { at_zero = s.at_zero; sat = s.sat; true_is = tells.truth_is x ∙ s.met.0 },
    λ s. record { at_zero = s.at_zero; sat = s.sat; met = (sym (tells.truth_is x) ∙ s.true_is, tt) },
  )) (rw (same, none) at o)

-- under those of the ranges
module _ (F : Formula) (proper : Proper F) (count : ℕ) (ranges : List (Option Range)) (ranging : Ranging F.ranges count ranges) (near : Grid) (near-is : (u v : ℕ) → u < count → v < count → weight near u v ≡ spread ranges u v) where
  in_ranges : Ranged count ranges
  in_ranges = ranged F.ranges count ranges ranging proper.ranges_small proper.ranges_some

  pub begun : (last : ℕ) → count ≡ suc last → Tight (suc last) near
  begun last e =
      let l = begun_least count ranges in_ranges near near-is in
      subst (λ m. Tight m near) e (record { itself = l.itself; triangle = l.triangle; ceiling = begun_far count ranges in_ranges near near-is })

  pub ranges_open : (last : ℕ) → count ≡ suc last → (r : Option (List ℤ)) → Opens r (TrueUnder F.program last near) → Opens r (TrueAt F)
  ranges_open last e (Some l) s = (sat_range count ranges in_ranges near near-is F.ranges ranging (held l) s.at_zero (subst (λ m. Sat (weight near) m (held l)) (sym e) s.sat), s.true_is)
  ranges_open last e None n = λ x h.
      let y = settle F.ranges x in
      n y (record { at_zero = h.0.at_zero; sat = subst (λ m. Sat (weight near) m y) e (range_sat count ranges in_ranges near near-is F.ranges ranging x h.0); true_is = truth_settle F.ranges x F.program proper.places_small ∙ h.1 })
