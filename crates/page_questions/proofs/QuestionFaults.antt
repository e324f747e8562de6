-- The reader gives the first fault of a question's fields, or else the question that they make.
use mathlib.Core.Path.{◌≡◌, refl, ap, ◌∙◌}
use mathlib.Core.Bool.{Bool, true, false, cond}
use mathlib.Core.List.{List, [], ◌∷◌}
use Prim.Native.Nat.{ℕ, ◌+◌}
use native.Mathlib.Omega.{arith}
use borrow.Author.Tests.{ltb-true, ltb-false, leb-true, leb-false}
use lib.Dec.{ltb, leb, eqb}
use lib.ListN.{length, get_or}
use Rattle.page_numbers.specs.Outcome.{Outcome, good, refused}
use Rattle.page_numbers.specs.Bytes.{int32}
use Rattle.page_meaning.specs.Limits.{most_tables, most_rows, limits, most_columns}
use Rattle.page_meaning.specs.Condition.{Condition}
use Rattle.page_meaning.specs.Contents.{Range, Mode, keep, become, shift, insert, delete, modify, Question}
use Rattle.page_questions.specs.Layout.{Column, ranges_of, total, first_of, table_of, visible_from, version_by, question_from}
use Rattle.page_questions.specs.Reader as R
use Rattle.page_questions.specs.Reader.{At, found, and_then, int, up_to, none, read_under, read_of}
use Rattle.page_questions.specs.Fields.{Field, constant, column, row_count, mode, no_column, zero_constant, mark, version, table_count, change_kind, changed_table, some_visible, end, sizes, Laid, laid, followed, runs, width_fields, column_fields, condition_fields, value_fields, insert_fields, mode_fields, modify_fields, delete_fields, change_fields, question_fields, fields_of, question_in}
use Rattle.page_questions.specs.Faults.{some, as_said}
use Rattle.page_questions.proofs.StepFaults.{judge, at, Agrees, agrees_last, agrees_then, agrees_many, field_then, byte_is}
use Rattle.page_questions.proofs.PieceFaults.{width_agrees, value_agrees, column_agrees, condition_agrees}

module _ (s : List ℕ) where
  -- ---- changes

  insert_agrees : (gs : List Range) (p : ℕ) → Agrees s p (insert_fields s gs p) (R.insert_at s gs p)
  unfolding insert_fields R.insert_at R.row_at judge sizes as_said
  insert_agrees gs p =
      agrees_then s p (laid (row_count ∷ []) (get_or s p 0)) _ (byte_is s 4 0 (up_to most_rows) p) _ _
      (agrees_then s (p + 1) (runs (λ rs p. runs (value_fields s gs) (length gs) [] p) (get_or s p 0) [] (p + 1)) _
      (agrees_many s (λ rs p. R.row_at s gs p) (λ rs p. runs (value_fields s gs) (length gs) [] p)
      (λ rs p. agrees_many s (R.value_at s gs) (value_fields s gs) (value_agrees s gs) (length gs) [] p) (get_or s p 0) [] (p + 1))
      (λ rs p. found (insert rs) p) (λ rs p. laid [] (insert rs)) (ap (found _) (omega arith)))

  delete_agrees : (low high p : ℕ) → Agrees s p (delete_fields s low high p) (R.delete_at s low high p)
  unfolding delete_fields R.delete_at judge sizes
  delete_agrees low high p =
      agrees_then s p (condition_fields s low high p) _ (condition_agrees s low high p) (λ d p. found (delete d) p) (λ d p. laid [] (delete d)) (ap (found _) (omega arith))

  module _ (low high p : ℕ) where
    keep_agrees : R.keep_at s p ≡ judge s p (no_column ∷ zero_constant ∷ []) (at keep (p + 1 + 4))
    unfolding judge as_said int
    keep_agrees =
        field_then s p no_column (zero_constant ∷ []) (get_or s p 0) (at keep (p + 1 + 4)) _ _ (byte_is s 4 none (up_to none) p)
        (field_then s (p + 1) zero_constant [] (int32 s (p + 1)) (at keep (p + 1 + 4)) _ _ refl refl)

    become_agrees : R.become_at s p ≡ judge s p (no_column ∷ constant ∷ []) (at (become (int32 s (p + 1))) (p + 1 + 4))
    unfolding judge as_said int
    become_agrees =
        let m : At Mode = at (become (int32 s (p + 1))) (p + 1 + 4) in
        field_then s p no_column (constant ∷ []) (get_or s p 0) m _ _ (byte_is s 4 none (up_to none) p)
        (field_then s (p + 1) constant [] (int32 s (p + 1)) m _ _ refl refl)

    shift_agrees : R.shift_at s low high p ≡ judge s p (column low high ∷ constant ∷ []) (at (shift (get_or s p 0) (int32 s (p + 1))) (p + 1 + 4))
    unfolding judge as_said int
    shift_agrees =
        let m : At Mode = at (shift (get_or s p 0) (int32 s (p + 1))) (p + 1 + 4) in
        field_then s p (column low high) (constant ∷ []) (get_or s p 0) m _ _ (byte_is s 7 low high p)
        (field_then s (p + 1) constant [] (int32 s (p + 1)) m _ _ refl refl)

  module _ (low high p : ℕ) where
    -- the mode's byte is m, and the fields gs follow it
    by_mode : (gs : List Field) (m : Mode) → 5 ≡ sizes gs
        → cond (eqb (get_or s p 0) 0) (R.keep_at s (p + 1)) (cond (eqb (get_or s p 0) 1) (R.become_at s (p + 1)) (R.shift_at s low high (p + 1))) ≡ judge s (p + 1) gs (at m (p + 1 + 1 + 4))
        → Agrees s p (laid (mode ∷ gs) m) (R.mode_at s low high p)
    unfolding R.mode_at judge sizes as_said
    by_mode gs m e h =
        field_then s p mode gs (get_or s p 0) (at m (p + 1 + 1 + 4)) _ _ (byte_is s 4 0 (up_to 2) p) h
        ∙ ap (λ n. judge s p (mode ∷ gs) (at m n)) (omega (arith, e))

    mode_agrees : Agrees s p (mode_fields s low high p) (R.mode_at s low high p)
    unfolding sizes
    mode_agrees = go (eqb (get_or s p 0) 0) (eqb (get_or s p 0) 1) refl refl
      where
        first : Bool → Bool → Outcome (At Mode)
        first t u = cond t (R.keep_at s (p + 1)) (cond u (R.become_at s (p + 1)) (R.shift_at s low high (p + 1)))

        go : (t u : Bool) → eqb (get_or s p 0) 0 ≡ t → eqb (get_or s p 0) 1 ≡ u
            → Agrees s p (cond t (laid (mode ∷ no_column ∷ zero_constant ∷ []) keep)
            (cond u (laid (mode ∷ no_column ∷ constant ∷ []) (become (int32 s (p + 1 + 1))))
            (laid (mode ∷ column low high ∷ constant ∷ []) (shift (get_or s (p + 1) 0) (int32 s (p + 1 + 1)))))) (R.mode_at s low high p)
        go true u e f = by_mode (no_column ∷ zero_constant ∷ []) keep refl (ap (λ t. first t (eqb (get_or s p 0) 1)) e ∙ keep_agrees low high (p + 1))
        go false true e f =
            by_mode (no_column ∷ constant ∷ []) (become (int32 s (p + 1 + 1))) refl
            (ap (λ t. first t (eqb (get_or s p 0) 1)) e ∙ ap (first false) f ∙ become_agrees low high (p + 1))
        go false false e f =
            by_mode (column low high ∷ constant ∷ []) (shift (get_or s (p + 1) 0) (int32 s (p + 1 + 1))) refl
            (ap (λ t. first t (eqb (get_or s p 0) 1)) e ∙ ap (first false) f ∙ shift_agrees low high (p + 1))

  modify_agrees : (low width p : ℕ) → Agrees s p (modify_fields s low width p) (R.modify_at s low width p)
  unfolding modify_fields R.modify_at judge sizes
  modify_agrees low width p =
      agrees_then s p (condition_fields s low (low + width) p) _ (condition_agrees s low (low + width) p) _ _
      (agrees_then s _ (runs (λ ms p. mode_fields s low (low + width) p) width [] _) _
      (agrees_many s (λ ms p. R.mode_at s low (low + width) p) (λ ms p. mode_fields s low (low + width) p) (λ ms p. mode_agrees low (low + width) p) width [] _)
      (λ ms p. found (modify _ ms) p) (λ ms p. laid [] (modify _ ms)) (ap (found _) (omega arith)))

  change_agrees : (kind low : ℕ) (gs : List Range) (p : ℕ) → Agrees s p (change_fields s kind low gs p) (R.change_at s kind low gs p)
  change_agrees kind low gs p = go (eqb kind 1) (eqb kind 2)
    where
      go : (t u : Bool) → Agrees s p (cond t (insert_fields s gs p) (cond u (delete_fields s low (low + length gs) p) (modify_fields s low (length gs) p)))
          (cond t (R.insert_at s gs p) (cond u (R.delete_at s low (low + length gs) p) (R.modify_at s low (length gs) p)))
      go true u = insert_agrees gs p
      go false true = delete_agrees low (low + length gs) p
      go false false = modify_agrees low (length gs) p

  -- ---- the question, from the end

  ending_agrees : (q : Question) (p : ℕ) → R.ending s q p ≡ judge s p (end ∷ []) q
  unfolding R.ending judge as_said
  ending_agrees q p = go (ltb p (length s)) (leb (length s) p) refl refl
    where
      go : (t u : Bool) → ltb p (length s) ≡ t → leb (length s) p ≡ u → cond t (refused 9 p) (good q) ≡ cond u (good q) (refused 9 p)
      go true true e f = absurd (omega (arith, ltb-true p (length s) e, leb-true (length s) p f))
      go true false e f = refl
      go false true e f = refl
      go false false e f = absurd (omega (arith, ltb-false p (length s) e, leb-false (length s) p f))

  module _ (kind changed : ℕ) (ws : List ℕ) where
    abbrev from_change : List Column → Condition → ℕ → Laid Question
    from_change cs c p =
        followed p (change_fields s kind (first_of ws changed) (table_of ws changed (ranges_of cs)) p) λ ch p.
        laid (end ∷ []) (question_from (version_by (get_or s 3 0)) ws changed cs c ch)

    abbrev from_condition : List Column → ℕ → Laid Question
    from_condition cs p = followed p (condition_fields s 0 (total ws) p) λ c p. from_change cs c p

    abbrev from_visible : List Column → ℕ → Laid Question
    from_visible cs p = followed p (laid (some_visible (visible_from 0 cs) ∷ []) cs) λ cs p. from_condition cs p

    abbrev from_columns : ℕ → Laid Question
    from_columns p = followed p (runs (λ cs p. column_fields s p) (total ws) [] p) λ cs p. from_visible cs p

    change_all : (cs : List Column) (c : Condition) (p : ℕ) → R.from_change s kind changed ws cs c p ≡ judge s p (from_change cs c p).fields (from_change cs c p).value
    unfolding R.from_change
    change_all cs c p =
        let gs = table_of ws changed (ranges_of cs) in
        agrees_last s p (change_fields s kind (first_of ws changed) gs p) _ (change_agrees kind (first_of ws changed) gs p) _ _
        (ending_agrees _ _)

    condition_all : (cs : List Column) (p : ℕ) → R.from_condition s kind changed ws cs p ≡ judge s p (from_condition cs p).fields (from_condition cs p).value
    unfolding R.from_condition
    condition_all cs p =
        agrees_last s p (condition_fields s 0 (total ws) p) _ (condition_agrees s 0 (total ws) p) _ _
        (change_all cs (condition_fields s 0 (total ws) p).value _)

    visible_all : (cs : List Column) (p : ℕ) → R.from_visible s kind changed ws cs p ≡ judge s p (from_visible cs p).fields (from_visible cs p).value
    unfolding R.from_visible judge sizes as_said
    visible_all cs p =
        go (visible_from 0 cs)
        ∙ agrees_last s p (laid (some_visible (visible_from 0 cs) ∷ []) cs) (seen (visible_from 0 cs)) (ap (λ n. cond (some (visible_from 0 cs)) (found cs n) (refused 8 p)) (omega arith))
        (λ cs p. R.from_condition s kind changed ws cs p) (λ cs p. from_condition cs p) (condition_all cs _)
      where
        seen : List ℕ → Outcome (At (List Column))
        seen is = cond (some is) (found cs p) (refused 8 p)

        first : List ℕ → R.Read
        first [] = refused 8 p
        first (i ∷ is) = R.from_condition s kind changed ws cs p

        go : (is : List ℕ) → first is ≡ and_then (seen is) (λ cs p. R.from_condition s kind changed ws cs p)
        go [] = refl
        go (i ∷ is) = refl

    columns_all : (p : ℕ) → R.from_columns s kind changed ws p ≡ judge s p (from_columns p).fields (from_columns p).value
    unfolding R.from_columns
    columns_all p =
        agrees_last s p (runs (λ cs p. column_fields s p) (total ws) [] p) _
        (agrees_many s (λ cs p. R.column_at s p) (λ cs p. column_fields s p) (λ cs p. column_agrees s p) (total ws) [] p)
        (λ cs p. R.from_visible s kind changed ws cs p) (λ cs p. from_visible cs p) (visible_all _ _)

  widths_all : (tables kind changed p : ℕ) → R.from_widths limits s tables kind changed p
      ≡ judge s p (followed p (runs (width_fields s) tables [] p) (λ ws p. from_columns kind changed ws p)).fields (followed p (runs (width_fields s) tables [] p) (λ ws p. from_columns kind changed ws p)).value
  unfolding R.from_widths
  widths_all tables kind changed p =
      agrees_last s p (runs (width_fields s) tables [] p) _ (agrees_many s (R.width_at most_columns s) (width_fields s) (width_agrees s) tables [] p) _ _ (columns_all kind changed _ _)

  -- the fields with a place of their own
  head_all : (rest : Laid Question) → R.from_widths limits s (get_or s 5 0) (get_or s 6 0) (get_or s 7 0) 8 ≡ judge s 8 rest.fields rest.value
      → read_of s ≡ judge s 0 (mark ∷ version ∷ table_count ∷ change_kind ∷ changed_table (get_or s 5 0) ∷ rest.fields) rest.value
  unfolding judge as_said R.read_under R.from_version R.from_tables R.from_kind R.from_changed
  head_all rest h =
      let q = rest.value in
      ap begins
      (field_then s 5 table_count (change_kind ∷ changed_table (get_or s 5 0) ∷ rest.fields) (get_or s 5 0) q _ _ (byte_is s 4 1 (up_to most_tables) 5)
      (field_then s 6 change_kind (changed_table (get_or s 5 0) ∷ rest.fields) (get_or s 6 0) q _ _ (byte_is s 4 1 (up_to 3) 6)
      (field_then s 7 (changed_table (get_or s 5 0)) rest.fields (get_or s 7 0) q _ _ (byte_is s 4 0 (get_or s 5 0) 7) h)))
    where
      begins : Outcome Question → Outcome Question
      begins o =
          cond (leb 3 (length s)) (cond (R.marked s) (cond (leb 5 (length s)) (cond (R.versioned (R.version_in s)) o (refused 3 3)) (refused 1 3)) (refused 2 0)) (refused 1 0)

-- the reader gives the first fault of the fields, or else the question that they make
pub reads_fields : (s : List ℕ) → read_of s ≡ judge s 0 (fields_of s) (question_in s)
unfolding question_fields followed sizes
reads_fields s = head_all s _ (widths_all s (get_or s 5 0) (get_or s 6 0) (get_or s 7 0) 8)
