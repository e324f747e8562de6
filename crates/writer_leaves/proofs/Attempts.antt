-- The descent as the code makes it: one fact more is tried, and the loop goes on where the formula is open.
use Prim.Native.Nat.{ℕ, suc, ◌<◌}
use mathlib.Core.Path.{refl}
use mathlib.Core.Logic.{inl, inr, ◌≢◌}
use mathlib.Core.Bool.{Bool, true, false}
use mathlib.Core.List.{List, [], ◌∷◌, ◌++◌}
use lib.ListN.{length}
use lib.IntN.{pos, ◌+ℤ◌}
use lib.Signed.{◌≤ℤ◌}
use Rattle.std.specs.Prelude.{None, Some}
use Rattle.page_meaning.specs.Limits.{most_vertices}
use Rattle.page_walks.specs.Grid.{Grid, weight}
use Rattle.page_formulas.specs.Formulas.{Formula}
use Rattle.page_formulas.specs.Knowledge.{passes, known}
use Rattle.page_formulas.specs.Program.{Program, Values, Place}
use Rattle.page_sheets.proofs.Descent.{TrueIn}
use Rattle.program.specs.Lent.{place_at}
use Rattle.program.specs.declared.types.Instruction.{Instruction}
use Rattle.program.specs.declared.types.Place as D
use Rattle.facts.specs.Decisions.{fact_of}
use Rattle.grid.specs.declared.Edge.{Edge}
use Rattle.grid.specs.declared.Grid as held
use Rattle.goals.specs.Closures.{Tight}
use Rattle.goals.specs.Goals.{TrueUnder}
use Rattle.goals.proofs.Tightening.{closer_tabled, tight_least}
use Rattle.program_tree.specs.Nodes.{Tells}
use Rattle.program_tree.specs.declared.types.Tree.{Tree}
use Rattle.writer_trees.specs.Trees.{with}
use Rattle.writer_leaves.specs.Leaves.{Tries, Opening, Descendable}
use Rattle.writer_leaves.proofs.Descents.{Leading, leading_start, leading_true, NotTrue, calm_false, leading_false}

module _ (ks : List Instruction) (ps : List D.Place) (t : Tree) (root : Grid) where
  -- after the places with these truths: under the facts so far every formula that was open is, and its leaf is the same
  pub record Going (ds : List Bool) (near : Grid) : Type 0 where
    pub tight : Tight (suc t.last) near
    pub leading : (F : Formula) (x : Values) → Opening ks ps t root F x → Leading t.last F x ds near

  module _ (d : Descendable ks ps t root) where
    pub going_start : Going [] root
    going_start = record {
      tight = d.tight;
      leading = λ F x o. leading_start t.last F ks ps o.lent root d.placing (tight_least (suc t.last) root d.tight) o.facts x (rw o.opens (λ v h. refl));
    }

    module _ (ds : List Bool) (near : held.Grid) (w : Going ds near.rows) (h : length ds < length ps) (unsure : (F : Formula) (x : Values) → Opening ks ps t root F x → known F.program ds ≢ passes) where
      abbrev p : Place
      p = place_at ps (length ds)

      abbrev last : ℕ
      last = t.last

      few : last < most_vertices
      few = d.placing.few

      seen : (F : Formula) (r : Grid) (y : Values) → TrueUnder F.program last r y → TrueIn last F (weight r) y
      seen F r y s = record { at_zero = s.at_zero; sat = s.sat; true_is = s.true_is }

      unseen : (F : Formula) (r : Grid) (y : Values) → TrueIn last F (weight r) y → TrueUnder F.program last r y
      unseen F r y s = record { at_zero = s.at_zero; sat = s.sat; true_is = s.true_is }

      tight_with : (b : Bool) → pos 0 ≤ℤ (weight near.rows (fact_of p b).to (fact_of p b).from +ℤ (fact_of p b).weight) → Tight (suc last) (with last near.rows (fact_of p b))
      tight_with b calm = let e : Edge = fact_of p b in
          let f = d.placing.facts (length ds) h b in
          (closer_tabled (suc last) near.rows w.tight few near.sized e f.from_is f.to_is (with last near.rows e) refl calm).tight

      -- the true half is open
      pub going_true : (r : held.Grid) → ((P : Program) → Tells t P → Tries (Some r) P last near.rows (fact_of p true)) → Going (ds ++ true ∷ []) r.rows
      going_true r ask =
          let a = ask d.formula.program d.opening.tells in
          rw a.1
          (record {
            tight = tight_with true a.0;
            leading = λ F x o.
                let b = ask F.program o.tells in
                leading_true last F ks ps o.lent x ds near.rows (w.leading F x o) few near.sized h (unsure F x o) b.0 b.2.0 (seen F _ b.2.0 (rw b.1 at b.2.1));
          })

      -- it isn't
      module _ (ask : (P : Program) → Tells t P → Tries None P last near.rows (fact_of p true)) where
        shut_as : (F : Formula) (x : Values) (o : Opening ks ps t root F x) → NotTrue last F ks ps o.lent x ds near.rows (w.leading F x o) few near.sized h (unsure F x o)
        shut_as F x o = go (ask F.program o.tells)
          where
            go : Tries None F.program last near.rows (fact_of p true) → NotTrue last F ks ps o.lent x ds near.rows (w.leading F x o) few near.sized h (unsure F x o)
            go (inl l) = inl l
            go (inr f) = inr (λ y s. f y (unseen F _ y s))

        pub going_false : Going (ds ++ false ∷ []) (with last near.rows (fact_of p false))
        going_false =
            let o = d.opening in
            let F = d.formula in
            let x = d.values in
            record {
              tight = tight_with false (calm_false last F ks ps o.lent x ds near.rows (w.leading F x o) few near.sized h (unsure F x o) (shut_as F x o));
              leading = λ G y q. leading_false last G ks ps q.lent y ds near.rows (w.leading G y q) few near.sized h (unsure G y q) (shut_as G y q);
            }
