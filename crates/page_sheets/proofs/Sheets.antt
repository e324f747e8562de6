-- The writer's sheet passes with the writer's verdict; and a verdict is yes exactly where every formula fails.
use Prim.Native.Nat.{ℕ, zero, suc, ◌+◌, ◌<◌}
use mathlib.Core.Path.{◌≡◌, refl, sym, ◌∙◌}
use mathlib.Core.Logic.{◌↔◌}
use mathlib.Core.Bool.{Bool, true, false, cond}
use mathlib.Core.List.{List, [], ◌∷◌}
use native.Mathlib.Omega.{arith}
use lib.ListN.{length, get_or}
use lib.Dec.{eqb}
use Rattle.page_numbers.specs.Outcome.{good}
use Rattle.page_meaning.specs.Contents.{Values, Question}
use Rattle.page_meaning.specs.Verdicts.{Relevant, Uncomputable}
use Rattle.page_meaning.specs.Limits.{most_vertices}
use Rattle.page_meaning.specs.Trouble.{one, two, irrelevance, computability, Met, AllFail, first_of, second_of}
use Rattle.page_meaning.specs.WellFormed.{WellFormed}
use Rattle.page_meaning.proofs.Agreement.{relevant, uncomputable, irrelevant_agrees, computable_agrees}
use Rattle.page_formulas.specs.Formulas.{Formula, formulas, row_of1, row_of2, no_formula}
use Rattle.page_formulas.specs.Program.{truth}
use Rattle.page_formulas.specs.Vertices.{InRange}
use Rattle.page_formulas.proofs.Agreement.{Agrees, AgreeAll, troubles, formulas_agree}
use Rattle.page_formulas.proofs.ProperFormulas.{formulas_proper}
use Rattle.page_formulas.proofs.Assignments.{there1, back1, there2, back2, never_exactly}
use Rattle.page_formulas.proofs.Usability.{Exists, Usable, usable}
use Rattle.page_questions.specs.Guarantees.{Every, Accepted}
use Rattle.page_sheets.specs.Demands.{Meant, Broken, named, shown_first, shown_second}
use Rattle.page_sheets.specs.Rows.{first_row, second_row, no_bytes, fixed}
use Rattle.page_sheets.specs.Sheet.{last_vertex, say_yes, say_no, sheet_for, verdict_for, finding_under, finding_of, sheet_under, sheet_of, check_sheet}
use Rattle.page_sheets.specs.Trees.{Finding, all_shut, first_open, bytes_all}
use Rattle.page_sheets.proofs.Counterparts.{agree_at, pairs_of_lem}
use Rattle.page_sheets.proofs.Findings.{Fails, yes_found, yes_sound, no_found, opens_at, not_all}
use Rattle.page_sheets.proofs.Fit.{Fit, fit_all}
use Rattle.page_sheets.proofs.InsertedValues.{Puts, AllFrom, irrelevance_puts, computability_puts}
use Rattle.page_sheets.proofs.PassingSheets.{NoPasses}
use Rattle.page_sheets.proofs.ShownContents.{shows, some_met}
use Rattle.page_sheets.proofs.WrittenSheets.{RowsOk, no_written, header_passes, yes_written}
use Rattle.page_meaning.specs.Trouble as trouble
use Rattle.page_formulas.specs.Program as P

-- ---- the rows that the writer shows
-- the formula at position i of the trouble list, with what holds there
agree_from : (q : Question) (P : ℕ → trouble.Formula → Type 0) (φs : List trouble.Formula) (Fs : List Formula) → AgreeAll q φs Fs → (j : ℕ) → AllFrom P j φs → (i m : ℕ) (F : Formula) → i < length Fs → m ≡ j + i → (φ : trouble.Formula) × P m φ × Agrees q φ (get_or Fs i F)
agree_from q P [] [] a j p i m F h e = absurd (omega arith)
agree_from q P [] (G ∷ Gs) a j p i m F h e = absurd a
agree_from q P (φ ∷ φs) [] a j p i m F h e = absurd a
agree_from q P (φ ∷ φs) (G ∷ Gs) a j p zero m F h e = let d : m ≡ j = omega arith in (φ, rw d p.0, a.0)
agree_from q P (φ ∷ φs) (G ∷ Gs) a j p (suc i) m F h e = agree_from q P φs Gs a.1 (suc j) p.1 i m F (omega arith) (omega arith)

rows_ok : (q : Question) (i : ℕ) (G : Formula) (x : P.Values) (φ : trouble.Formula) → Agrees q φ G → Puts q q.change i φ → Usable q → InRange G.ranges x → truth x G.program ≡ true → RowsOk q i G (first_row q i x) (second_row q G x)
unfolding fixed
rows_ok q i G x (one f) a p k r t =
    let b = back1 q f G a x r in
    let R = p (row_of1 q x) b.fits1 in
    let single : G.pairs ≡ false = pairs_of_lem a.is in
    record {
      within = R.within;
      has = R.has;
      second = rw single refl;
      met = rw single ((there1 q f G a (first_row q i x) R.within).truth_is ∙ R.same ∙ sym b.truth_is ∙ t);
    }
rows_ok q i G x (two f) a p k r t =
    let b = back2 q f G a k x r in
    let double : G.pairs ≡ true = pairs_of_lem a.is in
    let same : first_row q i x ≡ row_of1 q x = p.0 (row_of1 q x) in
    record {
      within = rw same b.fits1;
      has = λ j. rw (p.1 j) tt;
      second = rw (same, double) (b.fits2, b.share);
      met = rw (same, double) ((there2 q f G a (row_of1 q x) (row_of2 q x) b.fits1 b.fits2 b.share).truth_is ∙ sym b.truth_is ∙ t);
    }

puts_all : (q : Question) (a : ℕ) → WellFormed q → AllFrom (Puts q q.change) 0 (troubles q a)
puts_all q a w = go (eqb a 1)
  where
    go : (b : Bool) → AllFrom (Puts q q.change) 0 (cond b (irrelevance q q.change) (computability q q.change))
    go true = irrelevance_puts q q.change w
    go false = computability_puts q q.change w

-- ---- for a question that was accepted
module _ (q : Question) (ok : Accepted q) (a : ℕ) where
  p : Every (Fit most_vertices) (formulas q a)
  p = fit_all (formulas q a) (formulas_proper q ok a)

  agrees : AgreeAll q (troubles q a) (formulas q a)
  agrees = formulas_agree q (usable q ok) a

  pub sheet_passes : check_sheet q a (sheet_of q a) ≡ good (verdict_for (finding_of q a))
  unfolding sheet_under finding_under
  sheet_passes = go (finding_of q a) refl
    where
      go : (f : Finding) → finding_of q a ≡ f → check_sheet q a (sheet_for q a f) ≡ good (verdict_for f)
      go (all_shut ts) e = yes_written q a ts p e
      go (first_open i G x) e =
          let h = opens_at (formulas q a) i G x (no_found last_vertex (formulas q a) p i G x e) no_formula in
          let r = agree_from q (Puts q q.change) (troubles q a) (formulas q a) agrees 0 (puts_all q a ok.well_formed) i i no_formula h.0 (omega arith) in
          let g = rw h.1 at r.2 in
          header_passes q a say_no (no_bytes q i G x)
          ∙ no_written q a i G (first_row q i x) (second_row q G x) ok.ranges (rows_ok q i G x r.0 g r.1 (usable q ok) h.2 h.3) (formulas q a) h.0 h.1

  -- ---- the verdict
  pub yes_fails : verdict_for (finding_of q a) ≡ say_yes → Every Fails (formulas q a)
  unfolding finding_under
  yes_fails = go (finding_of q a) refl
    where
      go : (f : Finding) → finding_of q a ≡ f → verdict_for f ≡ say_yes → Every Fails (formulas q a)
      go (all_shut ts) e v = yes_sound most_vertices (formulas q a) p 7 (bytes_all ts) _ [] (yes_found last_vertex (formulas q a) p ts e 7)
      go (first_open i G x) e v = let z : ◌≡◌ {A = ℕ} 0 1 = cc in absurd (omega arith)

  pub fails_yes : Every Fails (formulas q a) → verdict_for (finding_of q a) ≡ say_yes
  unfolding finding_under
  fails_yes h = go (finding_of q a) refl
    where
      go : (f : Finding) → finding_of q a ≡ f → verdict_for f ≡ say_yes
      go (all_shut ts) e = refl
      go (first_open i G x) e =
          let o = opens_at (formulas q a) i G x (no_found last_vertex (formulas q a) p i G x e) no_formula in
          absurd (not_all (formulas q a) i no_formula x o.0 (rw o.1 o.2) (rw o.1 o.3) h)

  -- every formula fails exactly where the meaning of yes holds
  pub fails_meant : Every Fails (formulas q a) ↔ Meant (eqb a 1) q
  fails_meant =
      let never = never_exactly q (usable q ok) a in
      (λ h. (meant (eqb a 1)).0 (never.0 h), λ m. never.1 ((meant (eqb a 1)).1 m))
    where
      meant : (b : Bool) → AllFail q (cond b (irrelevance q q.change) (computability q q.change)) ↔ Meant b q
      meant true = irrelevant_agrees q ok.well_formed
      meant false = computable_agrees q ok.well_formed

  -- rows that a no sheet shows break it
  pub shown_breaks : (s : List ℕ) → NoPasses q (formulas q a) s → Broken (eqb a 1) q (shown_first q s) (shown_second q (named q a s) s)
  shown_breaks s n = go (eqb a 1) agrees
    where
      vis : Every (Exists q) q.visible
      vis = (usable q ok).visible

      go : (b : Bool) → AgreeAll q (cond b (irrelevance q q.change) (computability q q.change)) (formulas q a) → Broken b q (shown_first q s) (shown_second q (named q a s) s)
      go true g =
          let r = agree_at q (λ φ. (m : Met q φ) → Relevant q (first_of q q.change φ m)) (irrelevance q q.change) (formulas q a) g (relevant q ok.well_formed) (get_or s 7 0) no_formula n.below in
          let m = shows q vis (formulas q a) s n r.0 r.2 in
          rw m.1 at (r.1 m.0)
      go false g =
          let r = agree_at q (λ φ. (m : Met q φ) → Uncomputable q (first_of q q.change φ m) (second_of q q.change φ m)) (computability q q.change) (formulas q a) g (uncomputable q ok.well_formed) (get_or s 7 0) no_formula n.below in
          let m = shows q vis (formulas q a) s n r.0 r.2 in
          rw (m.1, m.2) at (r.1 m.0)

  pub no_fails : (s : List ℕ) → NoPasses q (formulas q a) s → ¬ Every Fails (formulas q a)
  no_fails s n h = some_met q (usable q ok).visible (formulas q a) s n (troubles q a) agrees ((never_exactly q (usable q ok) a).0 h)
