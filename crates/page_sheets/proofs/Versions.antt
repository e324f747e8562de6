-- An insert and a delete are answered alike in every version.
use Prim.Native.Nat.{ℕ, zero, suc, ◌*◌}
use mathlib.Core.Path.{◌≡◌, refl, ap, ◌∙◌}
use mathlib.Core.Bool.{Bool, true, false, cond}
use mathlib.Core.List.{List, ◌∷◌, ◌++◌}
use lib.Dec.{eqb, leb}
use lib.ListN.{get_or}
use Rattle.page_meaning.specs.Limits.{limits, most_columns, most_vertices}
use Rattle.page_meaning.specs.Contents.{Version, Values, Question, Change, insert, delete, modify}
use Rattle.page_meaning.specs.Claims.{formulas_by}
use Rattle.page_formulas.specs.Formulas.{Formula, after, formula, irrelevance, computability, formulas, row_of1}
use Rattle.page_sheets.specs.Trees.{Finding, all_shut, first_open, write_trees}
use Rattle.page_sheets.specs.Rows.{put_row, second_row, bytes_of_row, fixed}
use Rattle.page_sheets.specs.Sheet.{say_no, Answer, header, sheet_for, finding_under, finding_of, sheet_under, sheet_of, field, check_yes, check_no, check_rows, no_end, check_body, marked, versioned, check_sheet_under, check_sheet}
use Rattle.page_sheets.specs.Versions.{in_version, Modifies, ForModifyOnly}

module _ (v : Version) (q : Question) where
  listed_alike : (ch : Change) → ¬ Modifies ch → (b : Bool) → formulas_by (formula (in_version v q)) (in_version v q) ch b ≡ formulas_by (formula q) q ch b
  unfolding after
  listed_alike (insert new) h true = refl
  listed_alike (insert new) h false = refl
  listed_alike (delete d) h b = refl
  listed_alike (modify d ms) h b = absurd (h tt)

  put_alike : (ch : Change) (i : ℕ) (u : Values) → put_row (in_version v q) ch i u ≡ put_row q ch i u
  put_alike (insert new) i u = refl
  put_alike (delete d) i u = refl
  put_alike (modify d ms) i u = refl

  module _ (h : ¬ Modifies q.change) (a : ℕ) where
    formulas_alike : formulas (in_version v q) a ≡ formulas q a
    formulas_alike = go (eqb a 1)
      where
        go : (b : Bool) → cond b (irrelevance (in_version v q) q.change) (computability (in_version v q) q.change) ≡ cond b (irrelevance q q.change) (computability q q.change)
        go true = listed_alike q.change h true
        go false = listed_alike q.change h false

    finding_alike : finding_of (in_version v q) a ≡ finding_of q a
    unfolding finding_under
    finding_alike = ap (λ Fs. write_trees (2 * most_columns) Fs) formulas_alike

    sheet_alike : sheet_of (in_version v q) a ≡ sheet_of q a
    unfolding sheet_under
    sheet_alike = ap (sheet_for (in_version v q) a) finding_alike ∙ written (finding_of q a)
      where
        written : (f : Finding) → sheet_for (in_version v q) a f ≡ sheet_for q a f
        written (all_shut ts) = refl
        written (first_open i F x) = ap (λ r. header a say_no ++ i ∷ bytes_of_row (r ++ second_row q F x)) (put_alike q.change i (row_of1 q x))

    no_alike : (Fs : List Formula) (s : List ℕ) → check_no (in_version v q) Fs s ≡ check_no q Fs s
    unfolding check_no check_rows no_end fixed
    no_alike Fs s = refl

    check_alike : (s : List ℕ) → check_sheet (in_version v q) a s ≡ check_sheet q a s
    unfolding check_sheet_under
    check_alike s = ap head (body (get_or s 6 0))
      where
        head : Answer → Answer
        head r = field s 0 3 (marked s) 12 (field s 3 2 (versioned s) 13 (field s 5 1 (eqb (get_or s 5 0) a) 14 (field s 6 1 (leb (get_or s 6 0) 1) 14 r)))

        body : (k : ℕ) → check_body limits (in_version v q) a s k ≡ check_body limits q a s k
        body zero = ap (λ Fs. check_yes most_vertices Fs s) formulas_alike
        body (suc k) = ap (λ Fs. check_no (in_version v q) Fs s) formulas_alike ∙ no_alike (formulas q a) s

pub for_modify_only : ForModifyOnly
for_modify_only v q h a = record { finding = finding_alike v q h a; sheet = sheet_alike v q h a; check = check_alike v q h a }
