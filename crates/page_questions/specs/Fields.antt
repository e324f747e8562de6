-- The fields of a question, one after the other, with no test: what stands where, as far as the bytes say. Every byte string has such
-- a list, also one that is no question: a count or a number that isn't as said is followed all the same.
use Rattle.std.specs.Prelude.{ℕ, zero, suc, ◌+◌, ◌-◌, cond, List, [], ◌∷◌, ◌++◌, eqb, length, get_or, ℤ, pos}
use Rattle.page_numbers.specs.Bytes.{int32}
use Rattle.page_meaning.specs.Limits.{most_columns}
use Rattle.page_meaning.specs.Condition.{Token, compare, both, either, negate, Condition}
use Rattle.page_meaning.specs.Contents.{Range, Mode, keep, become, shift, Values, Change, insert, delete, modify, Question}
use Rattle.page_questions.specs.Layout.{Column, ranges_of, total, first_of, table_of, visible_from, version_by, question_from}
use Rattle.page_questions.specs.Reader.{op_of, side_of, height, comparisons}

-- The fields of FORMAT 3, each with what its test depends on. Four are tests with no byte of their own, at the offset that FORMAT 4 gives:
-- none visible, a seventh comparison, a lacking operand, an unfinished condition. The last one is the end
pub data Field : Type 0 where
  mark version table_count change_kind : Field
  -- among so many tables
  changed_table : ℕ → Field
  -- where so many columns are left
  column_count : ℕ → Field
  lo visible : Field
  -- from lo on
  hi : ℤ → Field
  -- the visible columns
  some_visible : List ℕ → Field
  token_count token op constant : Field
  -- after so many comparisons
  seventh : ℕ → Field
  -- so many wanted, of so many values
  operands : ℕ → ℕ → Field
  -- from a number on and below another: the left column of a comparison, the column of mode 2
  column : ℕ → ℕ → Field
  -- the same or none: the right column of a comparison
  right_column : ℕ → ℕ → Field
  finish : Condition → Field
  row_count : Field
  -- of a column with that range
  inserted : Range → Field
  mode : Field
  -- the column byte of modes 0 and 1, keep's constant
  no_column zero_constant : Field
  end : Field

-- how many bytes a field has
abbrev pub size : Field → ℕ
size mark = 3
size version = 2
size table_count = 1
size change_kind = 1
size (changed_table n) = 1
size (column_count n) = 1
size lo = 4
size visible = 1
size (hi k) = 4
size (some_visible is) = 0
size token_count = 1
size token = 1
size op = 1
size constant = 4
size (seventh n) = 0
size (operands m n) = 0
size (column low high) = 1
size (right_column low high) = 1
size (finish ts) = 0
size row_count = 1
size (inserted g) = 4
size mode = 1
size no_column = 1
size zero_constant = 4
size end = 0

-- how many bytes some fields have
unfoldable pub sizes : List Field → ℕ
sizes [] = 0
sizes (f ∷ fs) = size f + sizes fs

-- ---- fields and what they hold

-- some fields in order, and what they hold
pub record Laid (A : Type 0) : Type 0 where
  pub fields : List Field
  pub value : A

-- those fields, holding that
abbrev pub laid : {A : Type 0} → List Field → A → Laid A
laid fs a = record { fields = fs; value = a }

-- the fields of both, holding what the second hold
abbrev before : {A B : Type 0} → Laid A → Laid B → Laid B
before x y = laid (x.fields ++ y.fields) y.value

-- fields that start at p, then those that start where they end
unfoldable pub followed : {A B : Type 0} → ℕ → Laid A → (A → ℕ → Laid B) → Laid B
followed p x f = before x (f x.value (p + sizes x.fields))

-- k runs of fields, each with what those before it hold
unfoldable pub runs : {A : Type 0} → (List A → ℕ → Laid A) → ℕ → List A → ℕ → Laid (List A)
runs f zero done p = laid [] done
runs f (suc k) done p = followed p (f done p) λ a p. runs f k (done ++ (a ∷ [])) p

module _ (s : List ℕ) where
  -- the byte at p, 0 past the end
  abbrev pub byte_at : ℕ → ℕ
  byte_at p = get_or s p 0

  -- ---- columns

  -- a table's column count, after those of other tables
  abbrev pub width_fields : List ℕ → ℕ → Laid ℕ
  width_fields ws p = laid (column_count (most_columns - total ws) ∷ []) (byte_at p)

  -- FORMAT 3.2: lo, hi, visible
  abbrev pub column_fields : ℕ → Laid Column
  column_fields p =
      laid (lo ∷ hi (int32 s p) ∷ visible ∷ []) (record { range = record { lo = int32 s p; hi = int32 s (p + 4) }; shown = eqb (byte_at (p + 4 + 4)) 1 })

  -- ---- conditions; their columns are numbered from low on and below high

  module _ (low high : ℕ) where
    -- FORMAT 3.3: a comparison has six fields, one of them without a byte
    abbrev pub comparison_fields : Condition → ℕ → Laid Token
    comparison_fields ts p =
        laid (seventh (comparisons ts) ∷ token ∷ op ∷ column low high ∷ right_column low high ∷ constant ∷ [])
        (compare (op_of (byte_at (p + 1))) (byte_at (p + 1 + 1)) (side_of (byte_at (p + 1 + 1 + 1)) (int32 s (p + 1 + 1 + 1 + 1))))

    -- FORMAT 3.3: a token, by its first byte
    abbrev pub token_fields : Condition → ℕ → Laid Token
    token_fields ts p =
        cond (eqb (byte_at p) 1) (comparison_fields ts p)
        (cond (eqb (byte_at p) 2) (laid (operands 2 (height ts) ∷ token ∷ []) both)
        (cond (eqb (byte_at p) 3) (laid (operands 2 (height ts) ∷ token ∷ []) either)
        (cond (eqb (byte_at p) 4) (laid (operands 1 (height ts) ∷ token ∷ []) negate)
        (laid (token ∷ []) negate))))

    -- FORMAT 3.3: the token count, the tokens, and the test that one truth is left
    unfoldable pub condition_fields : ℕ → Laid Condition
    condition_fields p =
        followed p (laid (token_count ∷ []) (byte_at p)) λ n p.
        followed p (runs token_fields n [] p) λ ts p.
        laid (finish ts ∷ []) ts

  -- ---- changes; gs are the changed table's ranges, low is its first column's number

  -- an inserted value, after those before it
  abbrev pub value_fields : List Range → Values → ℕ → Laid ℤ
  value_fields gs vs p = laid (inserted (get_or gs (length vs) (record { lo = pos 0; hi = pos 0 })) ∷ []) (int32 s p)

  -- FORMAT 3.4: the row count, and the rows' values
  unfoldable pub insert_fields : List Range → ℕ → Laid Change
  insert_fields gs p =
      followed p (laid (row_count ∷ []) (byte_at p)) λ n p.
      followed p (runs (λ rs p. runs (value_fields gs) (length gs) [] p) n [] p) λ rs p.
      laid [] (insert rs)

  -- FORMAT 3.4: a mode with its column and its constant
  abbrev pub mode_fields : ℕ → ℕ → ℕ → Laid Mode
  mode_fields low high p =
      cond (eqb (byte_at p) 0) (laid (mode ∷ no_column ∷ zero_constant ∷ []) keep)
      (cond (eqb (byte_at p) 1) (laid (mode ∷ no_column ∷ constant ∷ []) (become (int32 s (p + 1 + 1))))
      (laid (mode ∷ column low high ∷ constant ∷ []) (shift (byte_at (p + 1)) (int32 s (p + 1 + 1)))))

  -- FORMAT 3.4: a condition, and a mode for each column of the changed table
  unfoldable pub modify_fields : ℕ → ℕ → ℕ → Laid Change
  modify_fields low width p =
      followed p (condition_fields low (low + width) p) λ d p.
      followed p (runs (λ ms p. mode_fields low (low + width) p) width [] p) λ ms p.
      laid [] (modify d ms)

  -- FORMAT 3.4: a condition
  unfoldable pub delete_fields : ℕ → ℕ → ℕ → Laid Change
  delete_fields low high p = followed p (condition_fields low high p) λ d p. laid [] (delete d)

  -- FORMAT 3.4: the change, by its kind
  abbrev pub change_fields : ℕ → ℕ → List Range → ℕ → Laid Change
  change_fields kind low gs p =
      cond (eqb kind 1) (insert_fields gs p)
      (cond (eqb kind 2) (delete_fields low (low + length gs) p)
      (modify_fields low (length gs) p))

  -- FORMAT 3.2: all fields in order
  unfoldable pub question_fields : Laid Question
  question_fields =
      followed 0 (laid (mark ∷ version ∷ table_count ∷ change_kind ∷ changed_table (byte_at 5) ∷ []) (byte_at 7)) λ changed p.
      followed p (runs width_fields (byte_at 5) [] p) λ ws p.
      followed p (runs (λ cs p. column_fields p) (total ws) [] p) λ cs p.
      followed p (laid (some_visible (visible_from 0 cs) ∷ []) cs) λ cs p.
      followed p (condition_fields 0 (total ws) p) λ c p.
      followed p (change_fields (byte_at 6) (first_of ws changed) (table_of ws changed (ranges_of cs)) p) λ ch p.
      laid (end ∷ []) (question_from (version_by (byte_at 3)) ws changed cs c ch)

-- the fields of a byte string
abbrev pub fields_of : List ℕ → List Field
fields_of s = (question_fields s).fields

-- the question that they make
abbrev pub question_in : List ℕ → Question
question_in s = (question_fields s).value
