-- The columns that were read, laid out as tables: what a question consists of, from its parts.
use Rattle.std.specs.Prelude.{ℕ, suc, ◌+◌, Bool, true, false, cond, List, [], ◌∷◌, map, eqb, get_or, take, drop}
use Rattle.page_meaning.specs.Condition.{Condition}
use Rattle.page_meaning.specs.Contents.{Range, Table, Change, Version, version1, version2, Question}

-- FORMAT 3.2: a column's range, and whether it is visible
pub record Column : Type 0 where
  pub range : Range
  pub shown : Bool

abbrev pub ranges_of : List Column → List Range
ranges_of cs = map (λ c. c.range) cs

-- how many columns some tables have, from the column count of each
unfoldable pub total : List ℕ → ℕ
total [] = 0
total (w ∷ ws) = w + total ws

-- the number of table t's first column (FORMAT 1.1)
abbrev pub first_of : List ℕ → ℕ → ℕ
first_of ws t = total (take t ws)

abbrev pub width_of : List ℕ → ℕ → ℕ
width_of ws t = get_or ws t 0

-- columns cut into tables of the given widths
unfoldable pub tables_of : List ℕ → List Range → List Table
tables_of [] gs = []
tables_of (w ∷ ws) gs = take w gs ∷ tables_of ws (drop w gs)

-- the ranges of table t
abbrev pub table_of : List ℕ → ℕ → List Range → Table
table_of ws t gs = take (width_of ws t) (drop (first_of ws t) gs)

-- the numbers of the visible columns, in column order, from number i on
unfoldable pub visible_from : ℕ → List Column → List ℕ
visible_from i [] = []
visible_from i (c ∷ cs) = pick c.shown i (visible_from (suc i) cs)
  where
    pick : Bool → ℕ → List ℕ → List ℕ
    pick true i is = i ∷ is
    pick false i is = is

-- FORMAT 3.2: the version, by the first of its two bytes; the other is 0
abbrev pub version_by : ℕ → Version
version_by b = cond (eqb b 2) version2 version1

-- a question: its version, the widths of its tables, the changed table's number, its columns, its condition C and its change
unfoldable pub question_from : Version → List ℕ → ℕ → List Column → Condition → Change → Question
question_from v ws t cs c ch =
    record {
      version = v;
      front = tables_of (take t ws) (ranges_of cs);
      changed = table_of ws t (ranges_of cs);
      back = tables_of (drop (suc t) ws) (drop (first_of ws t + width_of ws t) (ranges_of cs));
      visible = visible_from 0 cs;
      condition = c;
      change = ch;
    }
