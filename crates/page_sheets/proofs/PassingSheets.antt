-- What a sheet that passes shows, whoever wrote it: a yes, that every formula fails; a no, that its rows meet the formula it names.
use Prim.Native.Nat.{ℕ, zero, suc, ◌+◌, ◌≤◌, ◌<◌}
use mathlib.Core.Path.{◌≡◌, refl, sym, ◌∙◌}
use mathlib.Core.Bool.{Bool, true, false, not, ◌||◌, cond}
use mathlib.Core.List.{List, [], ◌∷◌}
use native.Mathlib.Omega.{arith}
use lib.ListN.{length, get_or, drop}
use lib.Dec.{T, eqb, leb, ltb, ltb→lt}
use Rattle.page_numbers.specs.Outcome.{good, refused}
use Rattle.page_meaning.specs.Condition.{equal, holds}
use Rattle.page_meaning.specs.Contents.{look, fits, Question, columns, part}
use Rattle.page_meaning.specs.Limits.{most_vertices, limits}
use Rattle.page_meaning.proofs.Truth.{and_l, and_r}
use Rattle.page_formulas.specs.Formulas.{Formula, among, formulas, tabulate, no_formula}
use Rattle.page_formulas.specs.Program.{truth}
use Rattle.page_formulas.proofs.Usability.{Exists}
use Rattle.page_questions.specs.Guarantees.{Every}
use Rattle.page_sheets.specs.Rows.{value_at, width, fields, field_at, first_read, second_read, read_values, in_column, second_ok, field_ok}
use Rattle.page_sheets.specs.Sheet.{marked, Verdict, say_yes, say_no, yes_end, check_yes, no_end, check_rows, check_no, check_body, versioned, check_sheet_under, check_sheet}
use Rattle.page_sheets.specs.Tree.{Checked}
use Rattle.page_sheets.specs.Trees.{check_trees}
use Rattle.page_sheets.proofs.Fields.{field_says, FieldsOk, fields_say, field_first, field_second}
use Rattle.page_sheets.proofs.Findings.{Fails, yes_sound}
use Rattle.page_sheets.proofs.Fit.{Fit}
use Rattle.page_sheets.proofs.Values.{look_tabulate, fits_tabulate, same_part, equal_is}

says_not : {v : Verdict} {n o : ℕ} {A : Type 0} → refused n o ≡ good v → A
says_not e = let z : ◌≡◌ {A = ℕ} 0 1 = cc in absurd (omega arith)

-- ---- what a no sheet that passes has
pub record NoPasses (q : Question) (Fs : List Formula) (s : List ℕ) : Type 0 where
  pub below : get_or s 7 0 < length Fs
  pub values : FieldsOk (field_ok q (get_or s 7 0) s) s (fields q (get_or Fs (get_or s 7 0) no_formula)) 0
  pub met : truth (read_values q (get_or Fs (get_or s 7 0) no_formula) s) (get_or Fs (get_or s 7 0) no_formula).program ≡ true

no_end_lem : (q : Question) (F : Formula) (s : List ℕ) (v : Verdict) → no_end q F s ≡ good v → (v ≡ say_no) × (truth (read_values q F s) F.program ≡ true)
unfolding no_end
no_end_lem q F s v e = go (truth (read_values q F s) F.program) (leb (length s) (field_at (fields q F))) e
  where
    go : (b c : Bool) → cond b (cond c (good say_no) (refused 16 0)) (refused 15 7) ≡ good v → (v ≡ say_no) × (b ≡ true)
    go true true e = (cc, refl)
    go true false e = says_not e
    go false c e = says_not e

pub no_passes : (q : Question) (Fs : List Formula) (s : List ℕ) (v : Verdict) → check_no q Fs s ≡ good v → (v ≡ say_no) × NoPasses q Fs s
unfolding check_no check_rows
no_passes q Fs s v e =
    let i = get_or s 7 0 in
    let F = get_or Fs i no_formula in
    let f = field_says s 7 1 (ltb i (length Fs)) 14 (check_rows q i F s) v e in
    let r = fields_say (field_ok q i s) s (fields q F) 0 (no_end q F s) v f.2 in
    let n = no_end_lem q F s v r.1 in
    (n.0, record { below = ltb→lt i (length Fs) f.1; values = r.0; met = n.1 })

-- ---- by the verdict byte
pub body_says : (q : Question) (a : ℕ) (s : List ℕ) (v : Verdict) → check_sheet q a s ≡ good v → check_body limits q a s (get_or s 6 0) ≡ good v
unfolding check_sheet_under
body_says q a s v e =
    let mark = field_says s 0 3 (marked s) 12 _ v e in
    let version = field_says s 3 2 (versioned s) 13 _ v mark.2 in
    let asked = field_says s 5 1 (eqb (get_or s 5 0) a) 14 _ v version.2 in
    (field_says s 6 1 (leb (get_or s 6 0) 1) 14 _ v asked.2).2

yes_end_lem : (x : Checked) (v : Verdict) → yes_end x ≡ good v → (v ≡ say_yes) × ((o : ℕ) × (x ≡ good (o, [])))
yes_end_lem (good (o, [])) v e = (cc, (o, refl))
yes_end_lem (good (o, b ∷ r)) v e = says_not e
yes_end_lem (refused n o) v e = says_not e

-- a sheet that passes says yes and every formula fails, or says no and its rows meet one
abbrev pub Shown : Question → ℕ → List ℕ → Verdict → Type 0
Shown q a s say_yes = Every Fails (formulas q a)
Shown q a s say_no = NoPasses q (formulas q a) s

pub passes_show : (q : Question) (a : ℕ) (s : List ℕ) (v : Verdict) → Every (Fit most_vertices) (formulas q a) → check_sheet q a s ≡ good v → Shown q a s v
unfolding check_yes
passes_show q a s v p e = go (get_or s 6 0) (body_says q a s v e)
  where
    yes_case : (v : Verdict) → check_yes most_vertices (formulas q a) s ≡ good v → Shown q a s v
    yes_case v e = let y = yes_end_lem (check_trees most_vertices (formulas q a) 7 (drop 7 s)) v e in rw y.0 (yes_sound most_vertices (formulas q a) p 7 (drop 7 s) y.1.0 [] y.1.1)

    go : (b : ℕ) → check_body limits q a s b ≡ good v → Shown q a s v
    go zero e = yes_case v e
    go (suc b) e = let n = no_passes q (formulas q a) s v e in rw n.0 n.1

-- ---- the rows of a no sheet that passes
module _ (q : Question) (F : Formula) (i : ℕ) (s : List ℕ) (f : FieldsOk (field_ok q i s) s (fields q F) 0) where
  pub first_fits : T (fits (columns q) (first_read q s))
  first_fits = fits_tabulate (columns q) _ (value_at s) (λ c h. and_l (in_column q c (value_at s c)) _ (rw (field_first q i s c (value_at s c) h) at (f c (omega arith) (omega (arith, wide F.pairs))).1))
    where
      wide : (b : Bool) → width q ≤ cond b (width q + width q) (width q)
      wide true = omega arith
      wide false = omega arith

  module _ (p : F.pairs ≡ true) where
    second_ok_lem : (c : ℕ) → c < width q → T (second_ok q s c (value_at s (width q + c)))
    second_ok_lem c h = rw (field_second q i s c (value_at s (width q + c))) at (f (width q + c) (omega arith) (rw p (omega arith))).1

    pub second_fits : T (fits (columns q) (second_read q F s))
    second_fits = rw p (fits_tabulate (columns q) _ (λ c. value_at s (width q + c)) (λ c h. and_l (in_column q c (value_at s (width q + c))) _ (second_ok_lem c h)))

    pub rows_agree : Every (Exists q) q.visible → part q (look (first_read q s)) ≡ part q (look (second_read q F s))
    unfolding part
    rows_agree v = rw p (same_part (look (first_read q s)) (look (tabulate (width q) (λ c. value_at s (width q + c)))) (Exists q) q.visible v (λ c h t. look_tabulate (width q) (value_at s) c h ∙ sym (alike c h t) ∙ sym (look_tabulate (width q) (λ d. value_at s (width q + d)) c h)))
      where
        alike : (c : ℕ) → c < width q → T (among q.visible c) → value_at s (width q + c) ≡ value_at s c
        alike c h t = equal_is (value_at s (width q + c)) (value_at s c) (go (among q.visible c) t (and_r (in_column q c (value_at s (width q + c))) _ (second_ok_lem c h)))
          where
            go : (b : Bool) → T b → T (not b || holds equal (value_at s (width q + c)) (value_at s c)) → T (holds equal (value_at s (width q + c)) (value_at s c))
            go true t u = u
            go false t u = absurd t
