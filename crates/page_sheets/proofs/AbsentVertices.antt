-- Values where a formula has no vertex don't matter to its truth, and no fact speaks of them: they may be 0.
use Prim.Native.Nat.{ℕ, suc}
use mathlib.Core.Path.{◌≡◌, refl, ap, ap₂, ◌∙◌}
use mathlib.Core.Bool.{Bool, true, false, cond}
use mathlib.Core.List.{List, [], ◌∷◌}
use lib.Dec.{T}
use lib.IntN.{pos, ◌+ℤ◌}
use lib.Signed.{◌≤ℤ◌, le_z}
use Rattle.page_numbers.proofs.Bridge.{+law, ints}
use Rattle.page_walks.specs.Grid.{Grid, weight}
use Rattle.page_walks.specs.Walk.{Sat}
use Rattle.page_questions.specs.Guarantees.{Every}
use Rattle.page_formulas.specs.Program.{Values, Place, Program, place, and_i, or_i, not_i, true_i, false_i, test, step, run, top, truth, places}
use Rattle.page_formulas.specs.Vertices.{Ranges, present}
use Rattle.page_formulas.specs.ProperFormulas.{SmallPlace}
use Rattle.page_sheets.proofs.Fit.{to_true}
use Rattle.page_sheets.proofs.HeldFacts.{InBounds}
use Rattle.page_sheets.proofs.MetFacts.{Meets}

module _ (rs : Ranges) (x : Values) where
  -- 0 where there is no vertex
  abbrev pub settle : Values
  settle v = cond (present rs v) (x v) (pos 0)

  pub settle_there : (v : ℕ) → T (present rs v) → settle v ≡ x v
  settle_there v t = rw (to_true (present rs v) t)

  -- ---- the facts of a grid

  pub settle_sat : (n : ℕ) (g : Grid) → InBounds (suc n) rs g → x 0 ≡ pos 0 → Meets rs g x → Sat (weight g) (suc n) settle
  unfolding Sat
  settle_sat n g b z m u v hu hv = go (present rs u) (present rs v) (λ t. t) (λ t. t) (λ t. t) (λ t. t)
    where
      go : (p q : Bool) → (T p → T (present rs u)) → (T (present rs u) → T p) → (T q → T (present rs v)) → (T (present rs v) → T q) → cond q (x v) (pos 0) ≤ℤ (cond p (x u) (pos 0) +ℤ weight g u v)
      go true true f f' k k' = m u v (f tt) (k tt)
      go true false f f' k k' = omega (ints, z, m u 0 (f tt) tt, b.ceiling u 0, b.no_way_in u v k', +law (x u) (weight g u 0), +law (x u) (weight g u v))
      go false true f f' k k' = omega (ints, z, m 0 v tt (k tt), b.ceiling 0 v, b.no_way_out u v f', +law (x 0) (weight g 0 v), +law (pos 0) (weight g u v))
      go false false f f' k k' = omega (ints, b.no_way_out u v f', +law (pos 0) (weight g u v))

  -- ---- the formula's truth

  test_settle : (p : Place) → SmallPlace rs p → test settle p ≡ test x p
  test_settle p s = ap₂ (λ a b. le_z a (b +ℤ p.most)) (settle_there p.left s.left_is) (settle_there p.right s.right_is)

  run_settle : (p : Program) (st : List Bool) → Every (SmallPlace rs) (places p) → run settle p st ≡ run x p st
  unfolding run places
  run_settle [] st a = refl
  run_settle (place q ∷ p) st a = ap (λ t. run settle p (t ∷ st)) (test_settle q a.0) ∙ run_settle p (test x q ∷ st) a.1
  run_settle (and_i ∷ p) st a = run_settle p (step x and_i st) a
  run_settle (or_i ∷ p) st a = run_settle p (step x or_i st) a
  run_settle (not_i ∷ p) st a = run_settle p (step x not_i st) a
  run_settle (true_i ∷ p) st a = run_settle p (step x true_i st) a
  run_settle (false_i ∷ p) st a = run_settle p (step x false_i st) a

  pub truth_settle : (p : Program) → Every (SmallPlace rs) (places p) → truth settle p ≡ truth x p
  truth_settle p a = ap top (run_settle p [] a)
