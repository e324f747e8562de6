-- The search for the first formula that is open, and the verdict that it makes.
use Rattle.std.proofs.Common.{ℕ, ◌+◌, ◌<◌, ◌≡◌, refl, sym, subst, Bool, true, false, List, [], ◌∷◌, ◌++◌, length, add-one, Some, None}
use Rattle.page_questions.specs.Guarantees.{Accepted}
use Rattle.page_meaning.specs.Contents.{Question}
use Rattle.page_formulas.specs.Formulas.{Formula, no_formula, formulas}
use Rattle.page_formulas.specs.Program.{truth}
use Rattle.formula.specs.Formulas.{formula_at}
use Rattle.formula.proofs.ProperFormulas.{proper_at}
use Rattle.page_sheets.specs.Sheet.{last_vertex, finding_under, finding_of}
use Rattle.page_sheets.specs.Tree.{Tree}
use Rattle.page_sheets.proofs.Findings.{Fails}
use Rattle.page_sheets.proofs.Fit.{fit}
use Rattle.page_sheets.proofs.Growth.{fails_shut, holds_open}
use Rattle.page_sheets.proofs.Positions.{ShutBefore, shut_more, found_open, found_shut}
use Rattle.goals.specs.Goals.{held, Opens, TrueAt}
use Rattle.verdicts.specs.Finding.{Finds}
use Rattle.verdicts.specs.declared.openings.Found.{Found}

-- no values: it fails on all of them
never : (F : Formula) → Opens None (TrueAt F) → Fails F
never F o ρ h = go (truth ρ F.program) refl
  where
    go : (b : Bool) → truth ρ F.program ≡ b → b ≡ false
    go true t = absurd (o ρ (h, t))
    go false t = refl

module _ (q : Question) (ok : Accepted q) (a : ℕ) where
  abbrev Fs : List Formula
  Fs = formulas q a

  -- ---- the search: those before formula i are shut
  abbrev pub Passed : ℕ → Type 0
  Passed i = (us : List Tree) × ShutBefore last_vertex Fs i us

  module _ (i : ℕ) (w : Passed i) (h : i < length Fs) where
    pub passed_more : Opens None (TrueAt (formula_at Fs i)) → Passed (i + 1)
    passed_more o =
        let s = fails_shut last_vertex (formula_at Fs i) (fit (formula_at Fs i) (proper_at q ok a i h)) (never (formula_at Fs i) o) in
        (w.0 ++ s.0 ∷ [], subst (λ n. ShutBefore last_vertex Fs n (w.0 ++ s.0 ∷ [])) (sym (add-one i)) (shut_more last_vertex Fs i w.0 no_formula s.0 w.1 h s.1))

    pub found_first : (r : Found) → TrueAt (formula_at Fs i) (held r.values) → r.number ≡ i → Finds (finding_of q a) (Some r)
    unfolding finding_under
    found_first r t n =
        let x = holds_open last_vertex (formula_at Fs i) (fit (formula_at Fs i) (proper_at q ok a i h)) (held r.values) t.0 t.1 in
        rw (found_open last_vertex Fs i w.0 no_formula x.0 w.1 h x.1) n

  pub found_none : (i : ℕ) → Passed i → i ≡ length Fs → Finds (finding_of q a) None
  unfolding finding_under
  found_none i w e = rw (found_shut last_vertex Fs w.0 (subst (λ n. ShutBefore last_vertex Fs n w.0) e w.1)) tt
