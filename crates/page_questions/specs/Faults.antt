-- FORMAT 4.1 and 4.3: the refusals 1 to 9. A field is tested for its length and then for its value; the first fault is the answer, with
-- the offset where that field starts.
use Rattle.std.specs.Prelude.{ℕ, ◌+◌, ◌*◌, ◌≤◌, ◌<◌, ◌≡◌, ◌⊎◌, Bool, true, false, ◌&&◌, ◌||◌, List, [], ◌∷◌, ◌++◌, ltb, leb, eqb, length, get_or, ℤ, pos, neg_ℤ}
use Rattle.std.specs.Int.Signed.{le_z}
use Rattle.page_numbers.specs.Bytes.{int32}
use Rattle.page_meaning.specs.Limits.{most_tables, most_tokens, most_comparisons, most_rows}
use Rattle.page_questions.specs.Reader.{up_to, farthest, largest, none, finished}
use Rattle.page_questions.specs.Fields.{Field, mark, version, table_count, change_kind, changed_table, column_count, lo, visible, hi, some_visible, token_count, token, op, constant, seventh, operands, column, right_column, finish, row_count, inserted, mode, no_column, zero_constant, end, size, sizes, fields_of}

-- from low on and below high
abbrev pub within : ℕ → ℕ → ℕ → Bool
within low high x = leb low x && ltb x high

-- a to b
abbrev pub inside : ℤ → ℤ → ℤ → Bool
inside a b k = le_z a k && le_z k b

-- is there one
abbrev pub some : List ℕ → Bool
some [] = false
some (i ∷ is) = true

module _ (s : List ℕ) where
  -- is the field at p as FORMAT 3 says
  unfoldable pub as_said : Field → ℕ → Bool
  -- FORMAT 3.2: mark and version
  as_said mark p = eqb (get_or s p 0) 86 && eqb (get_or s (p + 1) 0) 85 && eqb (get_or s (p + 2) 0) 81
  as_said version p = within 1 (up_to 2) (get_or s p 0 + 256 * get_or s (p + 1) 0)
  -- FORMAT 3.2: table count, kind, changed table
  as_said table_count p = within 1 (up_to most_tables) (get_or s p 0)
  as_said change_kind p = within 1 (up_to 3) (get_or s p 0)
  as_said (changed_table n) p = within 0 n (get_or s p 0)
  -- FORMAT 3.2: a column count, 1 or more and no more than are left
  as_said (column_count n) p = within 1 (up_to n) (get_or s p 0)
  -- FORMAT 1.2: lo and hi within their bounds, visible 0 or 1, one column or more visible
  as_said lo p = inside (neg_ℤ farthest) farthest (int32 s p)
  as_said (hi k) p = inside k farthest (int32 s p)
  as_said visible p = within 0 (up_to 1) (get_or s p 0)
  as_said (some_visible is) p = some is
  -- FORMAT 2.1: so many tokens, of four sorts, so many comparisons, enough truths
  as_said token_count p = within 0 (up_to most_tokens) (get_or s p 0)
  as_said token p = within 1 (up_to 4) (get_or s p 0)
  as_said (seventh n) p = ltb n most_comparisons
  as_said (operands m n) p = leb m n
  -- FORMAT 3.3: operator, columns, constant
  as_said op p = within 1 (up_to 6) (get_or s p 0)
  as_said (column low high) p = within low high (get_or s p 0)
  as_said (right_column low high) p = eqb (get_or s p 0) none || within low high (get_or s p 0)
  as_said constant p = inside (neg_ℤ largest) largest (int32 s p)
  -- FORMAT 4.2: one truth is left
  as_said (finish ts) p = finished ts
  -- FORMAT 3.4: the row count, and values in range
  as_said row_count p = within 0 (up_to most_rows) (get_or s p 0)
  as_said (inserted g) p = inside g.lo g.hi (int32 s p)
  -- FORMAT 3.4: a mode; no column and the constant 0 where the mode has none
  as_said mode p = within 0 (up_to 2) (get_or s p 0)
  as_said no_column p = within none (up_to none) (get_or s p 0)
  as_said zero_constant p = inside (pos 0) (pos 0) (int32 s p)
  -- FORMAT 3.5: nothing follows
  as_said end p = leb (length s) p

-- the number that a field earns which isn't as said
abbrev pub number_of : Field → ℕ
-- FORMAT 4.3, 2 and 3
number_of mark = 2
number_of version = 3
-- FORMAT 4.3, 4: counts and choices, what keep must have, a seventh comparison
number_of table_count = 4
number_of (column_count n) = 4
number_of token_count = 4
number_of row_count = 4
number_of change_kind = 4
number_of (changed_table n) = 4
number_of mode = 4
number_of visible = 4
number_of zero_constant = 4
number_of no_column = 4
number_of (seventh n) = 4
-- FORMAT 4.3, 5: numbers out of their range
number_of lo = 5
number_of (hi k) = 5
number_of constant = 5
number_of (inserted g) = 5
-- FORMAT 4.3, 6: tokens
number_of token = 6
number_of op = 6
number_of (operands m n) = 6
number_of (finish ts) = 6
-- FORMAT 4.3, 7: columns
number_of (column low high) = 7
number_of (right_column low high) = 7
-- FORMAT 4.3, 8: nothing visible
number_of (some_visible is) = 8
-- FORMAT 4.3, 9: bytes after the end
number_of end = 9

-- the fields from p on end where the bytes do or before, and are as said
abbrev pub AllSaid : List ℕ → ℕ → List Field → Type 0
AllSaid s p [] = Unit {0}
AllSaid s p (f ∷ fs) = (p + size f ≤ length s) × (as_said s f p ≡ true) × AllSaid s (p + size f) fs

-- FORMAT 4.3: 1 if the field goes past the end, or else its own number
abbrev pub Fault : List ℕ → Field → ℕ → ℕ → Type 0
Fault s f p n = ((length s < p + size f) × (n ≡ 1)) ⊎ ((p + size f ≤ length s) × (as_said s f p ≡ false) × (n ≡ number_of f))

-- FORMAT 4.1: f starts at p, and the fields before it are as said
pub record Reached (s : List ℕ) (f : Field) (p : ℕ) : Type 0 where
  pub before : List Field
  pub after : List Field
  pub order : fields_of s ≡ before ++ (f ∷ after)
  pub sound : AllSaid s 0 before
  pub start : p ≡ sizes before

-- FORMAT 4.1: the first fault, with its number and the offset where its field starts
abbrev pub FirstFault : List ℕ → ℕ → ℕ → Type 0
FirstFault s n p = (f : Field) × Reached s f p × Fault s f p n
