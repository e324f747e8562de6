-- The rows of a no sheet that passes meet the formula of the trouble lists that it names, and stand for the contents meant.
use Prim.Native.Nat.{ℕ}
use mathlib.Core.Path.{◌≡◌, refl, sym, ◌∙◌}
use mathlib.Core.Bool.{true, false}
use mathlib.Core.List.{List}
use lib.ListN.{get_or}
use Rattle.page_meaning.specs.Contents.{Question}
use Rattle.page_meaning.specs.Trouble.{one, two, Met, AllFail, first_of, second_of}
use Rattle.page_formulas.specs.Formulas.{Formula, no_formula}
use Rattle.page_formulas.proofs.Agreement.{Agrees, AgreeAll}
use Rattle.page_formulas.proofs.Assignments.{there1, there2}
use Rattle.page_formulas.proofs.Usability.{Exists}
use Rattle.page_questions.specs.Guarantees.{Every}
use Rattle.page_sheets.specs.Demands.{shown_first, shown_second}
use Rattle.page_sheets.specs.Rows.{first_read, second_read}
use Rattle.page_sheets.proofs.Counterparts.{agree_at, pairs_of_lem}
use Rattle.page_sheets.proofs.Fit.{from_true}
use Rattle.page_sheets.proofs.PassingSheets.{NoPasses, first_fits, second_fits, rows_agree}
use Rattle.page_meaning.specs.Trouble as trouble

module _ (q : Question) (vis : Every (Exists q) q.visible) (Fs : List Formula) (s : List ℕ) (n : NoPasses q Fs s) where
  abbrev F : Formula
  F = get_or Fs (get_or s 7 0) no_formula

  pub shows : (φ : trouble.Formula) → Agrees q φ F → (m : Met q φ) × (first_of q q.change φ m ≡ shown_first q s) × (second_of q q.change φ m ≡ shown_second q F s)
  shows (one f) a =
      let p : F.pairs ≡ false = pairs_of_lem a.is in
      let t = first_fits q F (get_or s 7 0) s n.values in
      let e = (there1 q f F a (first_read q s) t).truth_is in
      ((first_read q s, t, from_true (sym e ∙ (rw p at n.met))), refl, rw p refl)
  shows (two f) a =
      let p : F.pairs ≡ true = pairs_of_lem a.is in
      let t = first_fits q F (get_or s 7 0) s n.values in
      let t₂ = second_fits q F (get_or s 7 0) s n.values p in
      let share = rows_agree q F (get_or s 7 0) s n.values p vis in
      let e = (there2 q f F a (first_read q s) (second_read q F s) t t₂ share).truth_is in
      ((first_read q s, second_read q F s, t, t₂, share, from_true (sym e ∙ n.met)), refl, rw p refl)

  -- so not every formula fails
  pub some_met : (φs : List trouble.Formula) → AgreeAll q φs Fs → ¬ AllFail q φs
  some_met φs a h = let r = agree_at q (λ φ. ¬ Met q φ) φs Fs a h (get_or s 7 0) no_formula n.below in r.1 (shows r.0 r.2).0
