-- The end of the crate's argument: for each formula, rows in range that meet the trouble formula give an assignment in range that makes
-- the program true, and back. So a program that no assignment in range makes true is a trouble formula that fails on all rows in range.
use Prim.Native.Nat.{ℕ}
use mathlib.Core.Path.{◌≡◌, refl, sym, ap, ◌∙◌, subst}
use mathlib.Core.Logic.{◌↔◌}
use mathlib.Core.Bool.{Bool, true, false}
use mathlib.Core.List.{List, [], ◌∷◌, append-nil}
use lib.Dec.{T}
use Rattle.page_meaning.specs.Condition.{Row}
use Rattle.page_meaning.specs.Contents.{Question, columns, look, fits, part}
use Rattle.page_meaning.specs.Contents as M
use Rattle.page_meaning.specs.Trouble.{one, two, Met, AllFail}
use Rattle.page_meaning.specs.Trouble as trouble
use Rattle.page_questions.specs.Guarantees.{Every}
use Rattle.page_formulas.specs.Program.{Values, truth}
use Rattle.page_formulas.specs.Vertices.{InRange}
use Rattle.page_formulas.specs.Formulas.{Formula, first_ranges, hidden_ranges, formulas, assign, row_of1, row_of2}
use Rattle.page_formulas.proofs.Usability.{Usable}
use Rattle.page_formulas.proofs.Rows.{assign_one, assign_two, assign_sees_one, assign_sees_two, sees_one, sees_two, row_of1_fits, row_of2_fits, rows_share}
use Rattle.page_formulas.proofs.Agreement.{Single, Double, Agrees, AgreeAll, troubles, formulas_agree}

refuted : {a b : Bool} → a ≡ false → a ≡ b → T b → ⊥
refuted e d t = subst T (sym d ∙ e) t

to_false : (b : Bool) → ¬ T b → b ≡ false
to_false true h = absurd (h tt)
to_false false h = refl

-- what ρ says of a formula of one row, or of two, as rows
pub record Row1 (q : Question) (f : Row → Bool) (F : Formula) (ρ : Values) : Type 0 where
  pub fits1 : T (fits (columns q) (row_of1 q ρ))
  pub truth_is : truth ρ F.program ≡ f (look (row_of1 q ρ))

pub record Row2 (q : Question) (f : Row → Row → Bool) (F : Formula) (ρ : Values) : Type 0 where
  pub fits1 : T (fits (columns q) (row_of1 q ρ))
  pub fits2 : T (fits (columns q) (row_of2 q ρ))
  pub share : part q (look (row_of1 q ρ)) ≡ part q (look (row_of2 q ρ))
  pub truth_is : truth ρ F.program ≡ f (look (row_of1 q ρ)) (look (row_of2 q ρ))

-- what rows say of a formula, as an assignment
pub record Assigned (F : Formula) (ρ : Values) (b : Bool) : Type 0 where
  pub in_range : InRange F.ranges ρ
  pub truth_is : truth ρ F.program ≡ b

module _ (q : Question) where
  module _ (f : Row → Bool) (F : Formula) (a : Single q f F) where
    pub there1 : (u : M.Values) → T (fits (columns q) u) → Assigned F (assign u []) (f (look u))
    there1 u t = let r = assign_one q u t in
        record { in_range = subst (λ rs. InRange rs (assign u [])) (sym (ap (λ G. G.ranges) a.is)) r; truth_is = a.means (assign u []) r.at_zero (look u) (assign_sees_one q u [] t) }

    pub back1 : (ρ : Values) → InRange F.ranges ρ → Row1 q f F ρ
    back1 ρ r = record { fits1 = row_of1_fits q ρ [] (subst (λ rs. InRange rs ρ) (ap (λ G. G.ranges) a.is ∙ sym (append-nil (first_ranges (columns q)))) r); truth_is = a.means ρ r.at_zero (look (row_of1 q ρ)) (sees_one q ρ) }

  module _ (f : Row → Row → Bool) (F : Formula) (a : Double q f F) where
    pub there2 : (u w : M.Values) → T (fits (columns q) u) → T (fits (columns q) w) → part q (look u) ≡ part q (look w) → Assigned F (assign u w) (f (look u) (look w))
    there2 u w t s e = let r = assign_two q u w t s in
        record { in_range = subst (λ rs. InRange rs (assign u w)) (sym (ap (λ G. G.ranges) a.is)) r; truth_is = a.means (assign u w) r.at_zero (look u) (look w) (assign_sees_one q u w t) (assign_sees_two q u w t e) }

    pub back2 : Usable q → (ρ : Values) → InRange F.ranges ρ → Row2 q f F ρ
    back2 k ρ r = let i = subst (λ rs. InRange rs ρ) (ap (λ G. G.ranges) a.is) r in
        record { fits1 = row_of1_fits q ρ (hidden_ranges q.visible 0 (columns q)) i; fits2 = row_of2_fits q ρ i; share = rows_share q ρ k.visible; truth_is = a.means ρ r.at_zero (look (row_of1 q ρ)) (look (row_of2 q ρ)) (sees_one q ρ) (sees_two q ρ) }

  -- no assignment in range makes the program true
  abbrev pub Never : Formula → Type 0
  Never F = (ρ : Values) → InRange F.ranges ρ → truth ρ F.program ≡ false

  pub never_met : Usable q → (φ : trouble.Formula) (F : Formula) → Agrees q φ F → Never F ↔ (¬ Met q φ)
  never_met k (one f) F a = (
    λ n m. let t = there1 f F a m.0 m.1 in refuted (n (assign m.0 []) t.in_range) t.truth_is m.2,
    λ n ρ r. let b = back1 f F a ρ r in b.truth_is ∙ to_false (f (look (row_of1 q ρ))) (λ t. n (row_of1 q ρ, b.fits1, t)),
  )
  never_met k (two f) F a = (
    λ n m. let t = there2 f F a m.0 m.1 m.2 m.3 m.4 in refuted (n (assign m.0 m.1) t.in_range) t.truth_is m.5,
    λ n ρ r. let b = back2 f F a k ρ r in b.truth_is ∙ to_false (f (look (row_of1 q ρ)) (look (row_of2 q ρ))) (λ t. n (row_of1 q ρ, row_of2 q ρ, b.fits1, b.fits2, b.share, t)),
  )

  -- FORMAT 5.1: yes exactly if every formula is false for all rows in range
  never_all : Usable q → (φs : List trouble.Formula) (Fs : List Formula) → AgreeAll q φs Fs → Every Never Fs ↔ AllFail q φs
  never_all k [] [] a = (λ n. tt, λ n. tt)
  never_all k [] (F ∷ Fs) a = absurd a
  never_all k (φ ∷ φs) [] a = absurd a
  never_all k (φ ∷ φs) (F ∷ Fs) a = (
    λ n. ((never_met k φ F a.0).0 n.0, (never_all k φs Fs a.1).0 n.1),
    λ n. ((never_met k φ F a.0).1 n.0, (never_all k φs Fs a.1).1 n.1),
  )

  pub never_exactly : Usable q → (asked : ℕ) → Every Never (formulas q asked) ↔ AllFail q (troubles q asked)
  never_exactly k asked = never_all k (troubles q asked) (formulas q asked) (formulas_agree q k asked)
