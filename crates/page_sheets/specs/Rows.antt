-- The values of a no sheet: those of the first row's columns, then of the second's where the formula has two.
-- Field j is column j of the first row, or column j − n of the second, n columns in all: the value at vertex 1 + j.
use Rattle.std.specs.Prelude.{ℕ, suc, ◌+◌, ◌*◌, ◌-◌, ◌<◌, ◌≡◌, Bool, true, not, ◌&&◌, ◌||◌, cond, List, [], ◌∷◌, ◌++◌, map, length, get_or, replicate, T, ltb, ℤ, pos}
use Rattle.std.proofs.Math.Option.{Option, none, some}
use Rattle.std.specs.Int.{w32}
use Rattle.std.proofs.Common.{of_z}
use Rattle.page_numbers.specs.Bytes.{int32, bytes4}
use Rattle.page_meaning.specs.Condition.{holds, equal}
use Rattle.page_meaning.specs.Contents.{Question, Change, insert, delete, modify, Values, columns, first, in_range}
use Rattle.page_formulas.specs.Program as P
use Rattle.page_formulas.specs.Formulas.{Formula, among, tabulate, second_sight, row_of1, row_of2, put_in, assign}
use Rattle.page_formulas.specs.Vertices.{present}

-- how many columns, and how many fields a formula's rows take
abbrev pub width : Question → ℕ
width q = length (columns q)

abbrev pub fields : Question → Formula → ℕ
fields q F = cond F.pairs (width q + width q) (width q)

-- the inserted row that formula i speaks of
abbrev pub inserted_row : Change → ℕ → Values
inserted_row (insert rows) i = get_or rows i []
inserted_row (delete d) i = []
inserted_row (modify d ms) i = []

-- an inserted row has a value for each column of the changed table
abbrev pub Wide : Question → Change → ℕ → Type 0
Wide q (insert rows) i = length (get_or rows i []) ≡ length q.changed
Wide q (delete d) i = Unit {0}
Wide q (modify d ms) i = Unit {0}

-- ---- written, from the values x at an open leaf

-- FORMAT 7.2: for an insert, the changed table's values are the inserted row's
abbrev pub put_row : Question → Change → ℕ → Values → Values
put_row q (insert rows) i u = put_in q (get_or rows i []) u
put_row q (delete d) i u = u
put_row q (modify d ms) i u = u

-- FORMAT 6.3: the values of the first row
abbrev pub first_row : Question → ℕ → P.Values → Values
first_row q i x = put_row q q.change i (row_of1 q x)

-- FORMAT 6.3: those of the second, where the formula has two
abbrev pub second_row : Question → Formula → P.Values → Values
second_row q F x = cond F.pairs (row_of2 q x) []

-- i32 values
unfoldable pub bytes_of_row : Values → List ℕ
bytes_of_row [] = []
bytes_of_row (z ∷ zs) = bytes4 (of_z w32 z) ++ bytes_of_row zs

-- FORMAT 6.3: the formula's number, then the values
abbrev pub no_bytes : Question → ℕ → Formula → P.Values → List ℕ
no_bytes q i F x = i ∷ bytes_of_row (first_row q i x ++ second_row q F x)

-- the formula has its rows' vertices
pub record Rowed (q : Question) (F : Formula) : Type 0 where
  pub firsts : (c : ℕ) → c < width q → T (present F.ranges (suc c))
  pub seconds : F.pairs ≡ true → (c : ℕ) → c < width q → T (present F.ranges (second_sight q c).vertex)

-- ---- read

-- where field j stands in the sheet, and its value
abbrev pub field_at : ℕ → ℕ
field_at j = 8 + 4 * j

abbrev pub value_at : List ℕ → ℕ → ℤ
value_at s j = int32 s (field_at j)

abbrev pub first_read : Question → List ℕ → Values
first_read q s = tabulate (width q) (value_at s)

abbrev pub second_read : Question → Formula → List ℕ → Values
second_read q F s = cond F.pairs (tabulate (width q) (λ c. value_at s (width q + c))) []

-- what the vertices stand for
abbrev pub read_values : Question → Formula → List ℕ → P.Values
read_values q F s = assign (first_read q s) (second_read q F s)

-- ---- FORMAT 8.3: which value may stand in a field; any other is 15 there

-- is z in column c's range?
abbrev pub in_column : Question → ℕ → ℤ → Bool
in_column q c z = in_range (get_or (columns q) c (record { lo = pos 0; hi = pos 0 })) z

-- the inserted value that column c of formula i's row must have, if any
unfoldable pub fixed : Question → ℕ → ℕ → Option ℤ
fixed q i c = get_or (replicate (first q) none ++ map some (inserted_row q.change i)) c none

-- that value, or z where there is none
abbrev pub or_else : Option ℤ → ℤ → ℤ
or_else none z = z
or_else (some k) z = k

abbrev pub matches : Option ℤ → ℤ → Bool
matches none z = true
matches (some k) z = holds equal z k

-- may z stand in column c of the first row, for formula i? and of the second, where the first is read?
abbrev pub first_ok : Question → ℕ → ℕ → ℤ → Bool
first_ok q i c z = in_column q c z && matches (fixed q i c) z

abbrev pub second_ok : Question → List ℕ → ℕ → ℤ → Bool
second_ok q s c z = in_column q c z && (not (among q.visible c) || holds equal z (value_at s c))

-- and in field j?
abbrev pub field_ok : Question → ℕ → List ℕ → ℕ → ℤ → Bool
field_ok q i s j z = cond (ltb j (width q)) (first_ok q i j z) (second_ok q s (j - width q) z)
