-- Every formula of a question that was read can be shown: its row is there where the question inserts.
use Prim.Native.Nat.{ℕ, zero, suc, ◌<◌}
use mathlib.Core.Path.{◌≡◌, refl}
use mathlib.Core.Logic.{inl, inr}
use mathlib.Core.Bool.{Bool, true, false, cond}
use mathlib.Core.List.{List, [], ◌∷◌}
use native.Mathlib.Omega.{arith}
use lib.Dec.{eqb}
use lib.ListN.{length, get_or, length-map}
use Rattle.page_meaning.specs.Contents.{Values, ◌∈◌, Table, Change, insert, delete, modify, Question}
use Rattle.page_meaning.specs.Claims.{unless_alone}
use Rattle.page_meaning.specs.WellFormed.{WellFormed, ChangeOk}
use Rattle.page_meaning.proofs.MovedRows.{fits_length}
use Rattle.page_formulas.specs.Formulas.{Formula, irrelevance, computability, formulas}
use Rattle.page_sheets.specs.Rows.{Wide}

module _ (q : Question) where
  unless_few : (ts us : List Table) (Fs : List Formula) (i : ℕ) → i < length (unless_alone ts us Fs) → i < length Fs
  unless_few [] [] Fs i h = absurd (omega arith)
  unless_few [] (u ∷ us) Fs i h = h
  unless_few (t ∷ ts) us Fs i h = h

  row_wide : (t : Table) (rows : List Values) (i : ℕ) → ((r : Values) → r ∈ rows → length r ≡ length t) → i < length rows → length (get_or rows i []) ≡ length t
  row_wide t [] i f h = absurd (omega arith)
  row_wide t (r ∷ rows) zero f h = f r (inl refl)
  row_wide t (r ∷ rows) (suc i) f h = row_wide t rows i (λ s m. f s (inr m)) (omega arith)

  row_inserted : (new : List Values) → ChangeOk q (insert new) → (i : ℕ) → i < length (irrelevance q (insert new)) → length (get_or new i []) ≡ length q.changed
  row_inserted new ok i h = row_wide q.changed new i (λ r m. fits_length q.changed r (ok r m)) (rw (length-map new _) at h)

  wide : (ch : Change) → ChangeOk q ch → (b : Bool) (i : ℕ) → i < length (cond b (irrelevance q ch) (computability q ch)) → Wide q ch i
  wide (insert new) ok true i h = row_inserted new ok i h
  wide (insert new) ok false i h = row_inserted new ok i (unless_few q.front q.back (irrelevance q (insert new)) i h)
  wide (delete d) ok b i h = tt
  wide (modify d ms) ok b i h = tt

  pub wide_at : WellFormed q → (asked i : ℕ) → i < length (formulas q asked) → Wide q q.change i
  wide_at ok asked i h = wide q.change ok (eqb asked 1) i h
