-- A no sheet's rows by the column, and their bytes one value after another.
use Prim.Native.Nat.{ℕ, suc, ◌+◌, ◌-◌, ◌≤◌, ◌<◌}
use mathlib.Core.Path.{◌≡◌, refl, sym, ap, ap₂, ◌∙◌}
use mathlib.Core.Bool.{Bool, true, false, cond}
use mathlib.Core.List.{[], ◌∷◌, ◌++◌, append_assoc}
use native.Mathlib.Numerals.{add-one}
use native.Mathlib.Omega.{arith}
use lib.IntN.{ℤ, pos}
use lib.ListN.{length, get_or, take, drop, length-append, length-drop, drop_of_length-le}
use lib.Seq.{drop-cons, length-take-le}
use mir.Syntax.{w32}
use mir.Val.{of_z}
use Rattle.page_numbers.specs.Bytes.{bytes4}
use Rattle.page_meaning.specs.Contents.{Values, look, columns_of, Change, insert, delete, modify, Question, first}
use Rattle.page_meaning.specs.Limits.{most_vertices}
use Rattle.question.specs.Held.{question_of}
use Rattle.question.specs.declared.types.Question as D
use Rattle.page_formulas.specs.Formulas.{Formula, among, second_sight, row_of1, row_of2}
use Rattle.page_formulas.specs.Program as P
use Rattle.sights.specs.Sights.{Whole, row_sight}
use Rattle.sights.proofs.Shapes.{columns_length}
use Rattle.page_sheets.specs.Rows.{width, put_row, first_row, second_row, bytes_of_row, fixed, Rowed, Wide, or_else}
use Rattle.page_sheets.proofs.AlikeRows.{rows_alike}
use Rattle.page_sheets.proofs.Columns.{first_value, second_value}
use Rattle.page_sheets.proofs.Values.{tabulate_length}
use Rattle.room.specs.Room.{Filling, puts}
use Rattle.writer_rows.specs.Rows.{row_for, rows_for, Carries}
use Rattle.room.proofs.PutBytes.{puts_append}

-- ---- a row's columns

module _ (q : D.Question) (i : ℕ) (whole : Whole q) (s : Wide (question_of q) (question_of q).change i) (x : P.Values) (c : ℕ) (h : c < q.shape.total) where
  inside : c < width (question_of q)
  inside = omega (arith, columns_length q whole)

  -- the vertex is one of the few
  pub vertex_few : (second : Bool) → (row_sight (question_of q) second c).vertex < most_vertices
  vertex_few false = omega (arith, whole.held.shape.few_columns)
  vertex_few true = go (among (question_of q).visible c)
    where
      go : (b : Bool) → cond b (suc c) (suc (width (question_of q) + c)) < most_vertices
      go true = omega (arith, whole.held.shape.few_columns)
      go false = omega (arith, whole.held.shape.few_columns, columns_length q whole)

  pub second_column : (second : Bool) → second ≡ true → x (row_sight (question_of q) second c).vertex ≡ look (row_for (question_of q) i second x) c
  second_column second e = rw e (sym (second_value (question_of q) x c inside))

  pub first_column : (second : Bool) → second ≡ false → or_else (fixed (question_of q) i c) (x (row_sight (question_of q) second c).vertex) ≡ look (row_for (question_of q) i second x) c
  first_column second e = rw e (sym (first_value (question_of q) i x s c inside))

first_length : (q : Question) (i : ℕ) (x : P.Values) → Wide q q.change i → length (first_row q i x) ≡ width q
first_length q i x w = go q.change w
  where
    u : Values
    u = row_of1 q x

    plain : length (row_of1 q x) ≡ width q
    plain = tabulate_length (width q) (λ j. x (suc j))

    parts : first q + (length q.changed + length (columns_of q.back)) ≡ width q
    parts = sym (length-append (columns_of q.front) (q.changed ++ columns_of q.back) ∙ ap (λ k. first q + k) (length-append q.changed (columns_of q.back)))

    go : (ch : Change) → Wide q ch i → length (put_row q ch i (row_of1 q x)) ≡ width q
    go (insert rows) e =
        length-append (take (first q) u) (get_or rows i [] ++ drop (length q.changed) (drop (first q) u))
        ∙ ap₂ ◌+◌ (length-take-le (first q) u (omega (arith, plain, parts))) (length-append (get_or rows i []) (drop (length q.changed) (drop (first q) u)) ∙ ap₂ ◌+◌ e (length-drop (length q.changed) (drop (first q) u) ∙ ap (λ k. k - length q.changed) (length-drop (first q) u)))
        ∙ omega (arith, plain, parts)
    go (delete d) e = plain
    go (modify d ms) e = plain

pub row_length : (q : D.Question) (i : ℕ) → Whole q → Wide (question_of q) (question_of q).change i → (second : Bool) (x : P.Values) → length (row_for (question_of q) i second x) ≡ q.shape.total
row_length q i whole s false x = first_length (question_of q) i x s ∙ columns_length q whole
row_length q i whole s true x = tabulate_length (width (question_of q)) (λ j. x (second_sight (question_of q) j).vertex) ∙ columns_length q whole

-- ---- bytes

pub row_next : (f g : Filling) (row : Values) (c : ℕ) (z : ℤ) → c < length row → z ≡ look row c → g ≡ puts f (bytes4 (of_z w32 z)) → puts g (bytes_of_row (drop (c + 1) row)) ≡ puts f (bytes_of_row (drop c row))
unfolding bytes_of_row
row_next f g row c z h e k = rw (k, e, add-one, drop-cons row c (pos 0) h) (sym (puts_append f (bytes4 (of_z w32 (look row c))) (bytes_of_row (drop (suc c) row))))

pub row_end : (f : Filling) (row : Values) (c : ℕ) → length row ≤ c → puts f (bytes_of_row (drop c row)) ≡ f
unfolding bytes_of_row puts
row_end f row c h = rw (drop_of_length-le row h)

bytes_append : (u v : Values) → bytes_of_row (u ++ v) ≡ bytes_of_row u ++ bytes_of_row v
unfolding bytes_of_row
bytes_append [] v = refl
bytes_append (z ∷ u) v = ap (λ l. bytes4 (of_z w32 z) ++ l) (bytes_append u v) ∙ sym (append_assoc (bytes4 (of_z w32 z)) (bytes_of_row u) (bytes_of_row v))

-- the second row, where there are two
abbrev pub rest_for : Question → Bool → P.Values → Values
rest_for q pairs x = cond pairs (row_of2 q x) []

pub rows_split : (f : Filling) (q : Question) (i : ℕ) (pairs : Bool) (x : P.Values) → puts (puts f (bytes_of_row (first_row q i x))) (bytes_of_row (rest_for q pairs x)) ≡ puts f (bytes_of_row (rows_for q i pairs x))
rows_split f q i pairs x = let u = first_row q i x in
    let v = rest_for q pairs x in
    sym (ap (puts f) (bytes_append u v) ∙ puts_append f (bytes_of_row u) (bytes_of_row v))

-- ---- rows of values that agree

pub rows_shown : (q : Question) (i : ℕ) (F : Formula) (values : Values) (x : P.Values) (pairs : Bool) → F.pairs ≡ pairs → Rowed q F → Carries F.ranges values x → rows_for q i pairs (look values) ≡ first_row q i x ++ second_row q F x
rows_shown q i F values x pairs e w a = let s = rows_alike q F w (look values) x a in rw (← e) (ap₂ (λ u v. put_row q q.change i u ++ v) s.0 s.1)
