-- FORMAT 1: lists, contents and changes, and what the two verdicts mean. Formulas and sheets are proved to agree with this.
use Rattle.std.specs.Prelude.{ℕ, ◌≡◌, ◌↔◌, ◌⊎◌, Bool, true, false, ◌&&◌, cond, List, [], ◌∷◌, ◌++◌, map, length, get_or, replicate, ℤ, pos, ◌+ℤ◌, T}
use Rattle.std.specs.Int.Signed.{le_z}
use Rattle.page_meaning.specs.Condition.{Condition, Row, meets}

-- ---- lists of rows

-- the values of some columns in order: a stored row, a full row, a row of the list
abbrev pub Values : Type 0
Values = List ℤ

-- values as a row, from column 0 on
abbrev pub look : Values → Row
look vs i = get_or vs i (pos 0)

-- FORMAT 1.3: tables are sets, so a list of rows stands for the set of its members
infix 40 ◌∈◌
abbrev pub ◌∈◌ : Values → List Values → Type 0
a ∈ [] = ⊥
a ∈ (b ∷ l) = (a ≡ b) ⊎ (a ∈ l)

-- what g makes of each row, side by side
unfoldable pub each : (Values → List Values) → List Values → List Values
each g [] = []
each g (r ∷ rs) = g r ++ each g rs

-- ---- questions

-- FORMAT 1.2: a column's range
pub record Range : Type 0 where
  pub lo : ℤ
  pub hi : ℤ

-- at most hi, and at least lo
unfoldable pub in_range : Range → ℤ → Bool
in_range g x = le_z x g.hi && le_z g.lo x

-- a table is its columns' ranges
abbrev pub Table : Type 0
Table = List Range

-- FORMAT 1.1: the columns of some tables, counted through
abbrev pub columns_of : List Table → List Range
columns_of [] = []
columns_of (t ∷ ts) = t ++ columns_of ts

-- a value for each column, in its range
abbrev pub fits : List Range → Values → Bool
fits [] [] = true
fits [] (v ∷ vs) = false
fits (g ∷ gs) [] = false
fits (g ∷ gs) (v ∷ vs) = in_range g v && fits gs vs

-- FORMAT 1.5: what a modify does with a column
pub data Mode : Type 0 where
  keep : Mode
  become : ℤ → Mode
  shift : ℕ → ℤ → Mode

-- FORMAT 1.5: the rows; the condition; the condition and a mode for each column of the changed table
pub data Change : Type 0 where
  insert : List Values → Change
  delete : Condition → Change
  modify : Condition → List Mode → Change

-- FORMAT 3.2: by which rule a question is meant. They differ in what a modify does with a row whose new values are not all in range
pub data Version : Type 0 where
  version1 version2 : Version

-- A list definition and a change: the version; the tables before the changed one, the changed one, those after it; the visible
-- columns in order; the condition C; the change. Column numbers run over all tables, also in the change
pub record Question : Type 0 where
  pub version : Version
  pub front : List Table
  pub changed : Table
  pub back : List Table
  pub visible : List ℕ
  pub condition : Condition
  pub change : Change

-- all columns
abbrev pub columns : Question → List Range
columns q = columns_of q.front ++ (q.changed ++ columns_of q.back)

-- the number of the changed table's first column
abbrev pub first : Question → ℕ
first q = length (columns_of q.front)

-- ---- contents

-- FORMAT 1.3: rows for each table
pub record Contents : Type 0 where
  pub front : List (List Values)
  pub changed : List Values
  pub back : List (List Values)

-- FORMAT 1.3: rows of one table, every value in its range
abbrev pub TableFits : Table → List Values → Type 0
TableFits t rows = (r : Values) → r ∈ rows → T (fits t r)

-- rows for each of some tables
abbrev pub TablesFit : List Table → List (List Values) → Type 0
TablesFit [] [] = Unit {0}
TablesFit [] (rs ∷ rss) = ⊥
TablesFit (t ∷ ts) [] = ⊥
TablesFit (t ∷ ts) (rs ∷ rss) = TableFits t rs × TablesFit ts rss

-- contents of the question's tables
pub record Valid (q : Question) (c : Contents) : Type 0 where
  pub front : TablesFit q.front c.front
  pub changed : TableFits q.changed c.changed
  pub back : TablesFit q.back c.back

-- ---- the list

-- one row of each of some tables, side by side
abbrev pub Joined : List (List Values) → Values → Type 0
Joined [] s = s ≡ []
Joined (rs ∷ rss) s = (r : Values) × (t : Values) × (r ∈ rs) × Joined rss t × (s ≡ r ++ t)

-- FORMAT 1.4: a full row, in three parts: before, in and after the changed table
pub record Full : Type 0 where
  pub before : Values
  pub here : Values
  pub after : Values

-- its values, from column 0 on
abbrev pub values : Full → Values
values x = x.before ++ (x.here ++ x.after)

-- as a row
abbrev pub row : Full → Row
row x = look (values x)

-- x is a full row of the contents c
pub record Within (c : Contents) (x : Full) : Type 0 where
  pub before : Joined c.front x.before
  pub here : x.here ∈ c.changed
  pub after : Joined c.back x.after

-- FORMAT 1.4: the visible part
unfoldable pub part : Question → Row → Values
part q r = map r q.visible

-- FORMAT 1.4: a row that meets C shows its visible part
abbrev pub Shows : Question → Row → Values → Type 0
Shows q r v = T (meets q.condition r) × (part q r ≡ v)

-- FORMAT 1.4: the list; v is in it if some full row shows v
abbrev pub Listed : Question → Contents → Values → Type 0
Listed q c v = (x : Full) × Within c x × Shows q (row x) v

-- ---- the change

-- a row of the changed table, at its column numbers
abbrev pub place : Question → Values → Row
place q r = look (replicate (first q) (pos 0) ++ r)

-- FORMAT 1.5: a column's new value, by its mode
abbrev pub new_value : Mode → Row → ℤ → ℤ
new_value keep r old = old
new_value (become k) r old = k
new_value (shift j k) r old = r j +ℤ k

-- a mode for each column of the table
abbrev pub new_values : List Mode → Values → Row → Values
new_values [] vs r = vs
new_values (m ∷ ms) [] r = []
new_values (m ∷ ms) (v ∷ vs) r = new_value m r v ∷ new_values ms vs r

-- FORMAT 1.5: all new values are worked out from the row as it was
abbrev pub new_row : Question → List Mode → Values → Values
new_row q ms r = new_values ms r (place q r)

-- FORMAT 1.5: what a modify leaves of a row that meets its condition and has a new value out of range. In version 1 it stays as it was, in
-- version 2 it is removed
abbrev pub unmoved : Version → Values → List Values
unmoved version1 r = r ∷ []
unmoved version2 r = []

-- FORMAT 1.5: what is left of one row. A delete leaves nothing of a row that meets its condition; a modify leaves the new row of one that
-- meets its condition if all new values are in range
abbrev pub left : Question → Change → Values → List Values
left q (insert new) r = r ∷ []
left q (delete d) r = cond (meets d (place q r)) [] (r ∷ [])
left q (modify d ms) r = cond (meets d (place q r)) (cond (fits q.changed (new_row q ms r)) (new_row q ms r ∷ []) (unmoved q.version r)) (r ∷ [])

-- FORMAT 1.5: the rows that an insert adds
abbrev pub added : Change → List Values
added (insert new) = new
added (delete d) = []
added (modify d ms) = []

-- the other tables stay
abbrev pub after_by : Question → Change → Contents → Contents
after_by q ch c = record { front = c.front; changed = each (left q ch) c.changed ++ added ch; back = c.back }

-- the contents after the question's change
abbrev pub after_change : Question → Contents → Contents
after_change q c = after_by q q.change c

-- ---- the two verdicts

-- equal sets
abbrev pub Same : (Values → Type 0) → (Values → Type 0) → Type 0
Same A B = (v : Values) → A v ↔ B v

-- the list is the same before and after
abbrev pub Unchanged : Question → Contents → Type 0
Unchanged q c = Same (Listed q c) (Listed q (after_change q c))

-- lists equal before are equal after
abbrev pub Alike : Question → Contents → Contents → Type 0
Alike q c d = Same (Listed q c) (Listed q d) → Same (Listed q (after_change q c)) (Listed q (after_change q d))

-- which contents can occur
abbrev pub Family : Type 1
Family = Contents → Type 0

-- the two verdicts, over the contents of a family
abbrev pub IrrelevantIn : Family → Question → Type 0
IrrelevantIn W q = (c : Contents) → W c → Unchanged q c

abbrev pub ComputableIn : Family → Question → Type 0
ComputableIn W q = (c d : Contents) → W c → W d → Alike q c d

-- FORMAT 1.6: whatever the contents, the list is the same before and after
abbrev pub Irrelevant : Question → Type 0
Irrelevant q = IrrelevantIn (Valid q) q

-- FORMAT 1.6: any two contents with equal lists before have equal lists after, so the old list alone tells the new one
abbrev pub Computable : Question → Type 0
Computable q = ComputableIn (Valid q) q
