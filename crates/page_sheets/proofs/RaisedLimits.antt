-- What was a question under lower limits is the same question now, with the same sheets; and its sheets pass as they did.
use Prim.Native.Nat.{ℕ, suc, ◌*◌, ◌≤◌}
use mathlib.Core.Path.{◌≡◌, refl, sym, ap, ap₂, subst, ◌∙◌}
use mathlib.Core.Logic.{◌⊎◌, inl, inr}
use mathlib.Core.Bool.{Bool, true, false, ◌||◌, cond}
use mathlib.Core.List.{List, [], ◌∷◌, ◌++◌}
use native.Mathlib.Omega.{arith}
use lib.ListN.{length}
use lib.Dec.{T, eqb}
use Rattle.page_numbers.specs.Outcome.{good, refused}
use Rattle.page_meaning.specs.Contents.{Question, columns}
use Rattle.page_meaning.specs.Limits.{Limits, limits, vertices_for, most_vertices}
use Rattle.page_formulas.specs.Formulas.{Formula, formulas}
use Rattle.page_formulas.specs.Vertices.{present}
use Rattle.page_formulas.proofs.ProperFormulas.{formulas_proper, formulas_short}
use Rattle.page_questions.specs.Guarantees.{Every, NoLower}
use Rattle.page_questions.specs.Reader.{Read, read_under, read_of}
use Rattle.page_questions.proofs.Guarantees.{accepted_under, accepted}
use Rattle.page_questions.proofs.RaisedLimits.{read_kept}
use Rattle.page_sheets.specs.Answers.{placed, asked_under, judge, verdict_under, check_for, check_under, write_for, write_under}
use Rattle.page_sheets.specs.Growth.{Growth, shut, open_at, grow_tree}
use Rattle.page_sheets.specs.RaisedLimits.{former_limits, LongerCycle, BytesStay, PresentBytesStay}
use Rattle.page_sheets.specs.Rows.{Rowed, put_row, bytes_of_row, no_bytes}
use Rattle.page_sheets.specs.Sheet.{Verdict, say_no, header, sheet_for, verdict_for, finding_under, sheet_under}
use Rattle.page_sheets.specs.Trees.{Finding, all_shut, first_open, before, write_trees}
use Rattle.page_sheets.proofs.AlikeRows.{all_rowed, rows_alike}
use Rattle.page_sheets.proofs.Demands.{verdict_by_lem}
use Rattle.page_sheets.proofs.FastRule.{Here, Same}
use Rattle.page_sheets.proofs.Fit.{Fit, fit_all}
use Rattle.page_sheets.proofs.GridSizes.{tree_alike}
use Rattle.page_sheets.proofs.LongerCycles.{sheet_alike}
use Rattle.page_sheets.proofs.Refusals.{pass_exactly}

-- ---- what is found over more vertex numbers

module _ (q : Question) where
  -- the same trees, or the same formula with the same values at its vertices
  abbrev SameFinding : Finding → Finding → Type 0
  SameFinding (all_shut ts) (all_shut us) = ts ≡ us
  SameFinding (all_shut ts) (first_open j G y) = ⊥
  SameFinding (first_open i F x) (all_shut us) = ⊥
  SameFinding (first_open i F x) (first_open j G y) = (i ≡ j) × (F ≡ G) × Rowed q F × ((v : ℕ) → T (present F.ranges v) → x v ≡ y v)

  before_same : (F : Formula) → Rowed q F → (t u : Growth) → Same (Here F.ranges) t u → (f g : Finding) → SameFinding f g → SameFinding (before F t f) (before F u g)
  before_same F r (shut t) (shut u) e (all_shut ts) (all_shut us) h = ap₂ ◌∷◌ e h
  before_same F r (shut t) (shut u) e (all_shut ts) (first_open j G y) h = absurd h
  before_same F r (shut t) (shut u) e (first_open i G x) (all_shut us) h = absurd h
  before_same F r (shut t) (shut u) e (first_open i G x) (first_open j H y) h = (ap suc h.0, h.1, h.2, h.3)
  before_same F r (shut t) (open_at y) e f g h = absurd e
  before_same F r (open_at x) (shut u) e f g h = absurd e
  before_same F r (open_at x) (open_at y) e f g h = (refl, refl, r, e)

  trees_same : (n m : ℕ) (Fs : List Formula) → Every (Rowed q) Fs → Every (Fit (suc n)) Fs → Every (Fit (suc m)) Fs → SameFinding (write_trees n Fs) (write_trees m Fs)
  unfolding write_trees
  trees_same n m [] r p o = refl
  trees_same n m (F ∷ Fs) r p o = before_same F r.0 (grow_tree n F) (grow_tree m F) (tree_alike n m F p.0 o.0) (write_trees n Fs) (write_trees m Fs) (trees_same n m Fs r.1 p.1 o.1)

  verdict_same : (f g : Finding) → SameFinding f g → verdict_for f ≡ verdict_for g
  verdict_same (all_shut ts) (all_shut us) h = refl
  verdict_same (all_shut ts) (first_open j G y) h = absurd h
  verdict_same (first_open i F x) (all_shut us) h = absurd h
  verdict_same (first_open i F x) (first_open j G y) h = refl

  sheet_same : (a : ℕ) (f g : Finding) → SameFinding f g → sheet_for q a f ≡ sheet_for q a g
  sheet_same a (all_shut ts) (all_shut us) h = ap (λ ts. sheet_for q a (all_shut ts)) h
  sheet_same a (all_shut ts) (first_open j G y) h = absurd h
  sheet_same a (first_open i F x) (all_shut us) h = absurd h
  sheet_same a (first_open i F x) (first_open j G y) h =
      let r = rows_alike q F h.2 x y h.3 in
      ap₂ (λ u v. header a say_no ++ (i ∷ bytes_of_row (put_row q q.change i u ++ v))) r.0 r.1 ∙ ap₂ (λ k H. header a say_no ++ no_bytes q k H y) h.0 h.1

-- ---- from lower limits to the present ones

module _ (l : Limits) (more : NoLower l limits) (s : List ℕ) (q : Question) (e : read_under l s ≡ good q) where
  question : read_of s ≡ good q
  question = read_kept l limits more s q e

  module _ (a : ℕ) where
    fits : Every (Fit most_vertices) (formulas q a)
    fits = fit_all (formulas q a) (formulas_proper q (accepted s q question) a)

    fewer_fit : Every (Fit (vertices_for l)) (formulas q a)
    fewer_fit = go (formulas q a) fits (formulas_short q (accepted s q question) a)
      where
        few : length (columns q) ≤ l.columns
        few = (accepted_under l s q e).few_columns

        go : (Fs : List Formula) → Every (Fit most_vertices) Fs → Every (λ F. length F.ranges ≤ 2 * length (columns q)) Fs → Every (Fit (vertices_for l)) Fs
        go [] p o = tt
        go (F ∷ Fs) p o = (record { some_vertex = omega (arith, o.0, few); few = omega (arith, more.columns); ranges_small = p.0.ranges_small; places_small = p.0.places_small }, go Fs p.1 o.1)

    finding : SameFinding q (finding_under limits q a) (finding_under l q a)
    unfolding finding_under
    finding = trees_same q (2 * limits.columns) (2 * l.columns) (formulas q a) (all_rowed q a) fits fewer_fit

    sheet_stays : sheet_under limits q a ≡ sheet_under l q a
    unfolding sheet_under
    sheet_stays = sheet_same q a (finding_under limits q a) (finding_under l q a) finding

    -- an answer by the question, where 20 is answered alike
    answered : (P : Read → Read → Type 0) → P (good q) (good q) → P (refused 20 0) (refused 20 0) → P (asked_under l a s) (asked_under limits a s)
    answered P h k = go (eqb a 1 || eqb a 2)
      where
        go : (b : Bool) → P (cond b (read_under l s) (refused 20 0)) (cond b (read_of s) (refused 20 0))
        go true = subst (λ r. P (read_under l s) r) (sym question) (subst (λ r. P r (good q)) (sym e) h)
        go false = k

    verdict_stays : verdict_under limits a s ≡ verdict_under l a s
    unfolding verdict_under
    verdict_stays = answered (λ x y. judge limits a y ≡ judge l a x) (ap good (verdict_same q (finding_under limits q a) (finding_under l q a) finding)) refl

    room_stays : (room : List ℕ) → write_under limits a s room ≡ write_under l a s room
    unfolding write_under
    room_stays room = answered (λ x y. write_for limits a room y ≡ write_for l a room x) (ap₂ (λ v sheet. placed v sheet room) (verdict_same q (finding_under limits q a) (finding_under l q a) finding) sheet_stays) refl

    check_stays : (sheet : List ℕ) → (check_under l a s sheet ≡ check_under limits a s sheet) ⊎ LongerCycle l limits sheet (check_under l a s sheet)
    unfolding check_under
    check_stays sheet = answered (λ x y. (check_for l a sheet x ≡ check_for limits a sheet y) ⊎ LongerCycle l limits sheet (check_for l a sheet x)) (sheet_alike l limits more sheet q a fewer_fit fits) (inl refl)

  pub bytes_stay : BytesStay l limits s q
  bytes_stay = record {
    question = question;
    verdict = verdict_stays;
    sheet = sheet_stays;
    room = room_stays;
    passed = λ a sheet v d. elim (check_stays a sheet) [ inl i ↦ sym i ∙ d | inr c ↦ absurd (nothing (sym c.1 ∙ d)) ];
    checked = check_stays;
    agrees = λ a sheet v d. sym (verdict_stays a) ∙ verdict_by_lem a s sheet v ((pass_exactly a s sheet v).0 d).0 d;
  }
    where
      nothing : {o : ℕ} {v : Verdict} → refused 14 o ≡ good v → ⊥
      nothing i = let z : ◌≡◌ {A = ℕ} 0 1 = cc in omega arith

-- FORMAT 10: questions and sheets of before, byte for byte
pub present_bytes_stay : PresentBytesStay
present_bytes_stay = bytes_stay former_limits (record { tables = omega arith; columns = omega arith })
