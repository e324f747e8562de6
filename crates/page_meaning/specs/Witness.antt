-- FORMAT 6.4: the contents that the rows of a no sheet stand for.
use Rattle.std.specs.Prelude.{◌≤◌, List, [], ◌∷◌, length, take, drop}
use Rattle.page_meaning.specs.Contents.{Question, Change, insert, delete, modify, Values, Table, first, Contents, Full}

-- values of every column, as a full row
unfoldable pub cut : Question → Values → Full
cut q u = record { before = take (first q) u; here = take (length q.changed) (drop (first q) u); after = drop (length q.changed) (drop (first q) u) }

-- one row in each table, from these values
unfoldable pub alone : List Table → Values → List (List Values)
alone [] s = []
alone (t ∷ ts) s = (take (length t) s ∷ []) ∷ alone ts (drop (length t) s)

-- no row in any table
unfoldable pub none : List Table → List (List Values)
none [] = []
none (t ∷ ts) = [] ∷ none ts

-- the row in the changed table; none for an insert
abbrev pub here_of : Change → Values → List Values
here_of (insert new) r = []
here_of (delete d) r = r ∷ []
here_of (modify d ms) r = r ∷ []

-- some rows in the changed table, one in each other
abbrev pub contents_of : Question → List Values → Full → Contents
contents_of q rows x = record { front = alone q.front x.before; changed = rows; back = alone q.back x.after }

-- the contents that one row stands for
abbrev pub witness : Question → Change → Values → Contents
witness q ch u = contents_of q (here_of ch (cut q u).here) (cut q u)

-- no row in any table
abbrev pub empty : Question → Contents
empty q = record { front = none q.front; changed = []; back = none q.back }

-- at most one row in each of some tables
abbrev pub AtMostOne : List (List Values) → Type 0
AtMostOne [] = Unit {0}
AtMostOne (rs ∷ rss) = (length rs ≤ 1) × AtMostOne rss

-- contents of at most one row a table
pub record Small (c : Contents) : Type 0 where
  pub front : AtMostOne c.front
  pub changed : length c.changed ≤ 1
  pub back : AtMostOne c.back
