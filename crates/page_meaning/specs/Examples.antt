-- FORMAT 9.5: questions on which shortcuts go wrong.
use Rattle.std.specs.Prelude.{ℕ, List, [], ◌∷◌, pos, negsuc}
use Rattle.page_meaning.specs.Condition.{Condition, compare, equal, at_least, more, both, either, constant, column}
use Rattle.page_meaning.specs.Contents.{Values, Table, Mode, keep, become, shift, Change, insert, delete, modify, version1, Question, Contents}

-- FORMAT 9.1: KEY has K and V, CLIENT has N and Q
abbrev pub keys : Table
keys = record { lo = pos 0; hi = pos 9 } ∷ record { lo = pos 0; hi = pos 30 } ∷ []

abbrev pub clients : Table
clients = record { lo = pos 0; hi = pos 9 } ∷ record { lo = pos 0; hi = pos 9 } ∷ []

-- FORMAT 9.1: the list, and a change of KEY
abbrev pub question : Change → Question
question ch = record { version = version1; front = []; changed = keys; back = clients ∷ []; visible = 0 ∷ 2 ∷ []; condition = compare equal 0 (column 3 (pos 0)) ∷ compare at_least 1 (constant (pos 10)) ∷ both ∷ []; change = ch }

-- a row, in the order K, V, N, Q
abbrev pub vals : ℕ → ℕ → ℕ → ℕ → Values
vals k v n q = pos k ∷ pos v ∷ pos n ∷ pos q ∷ []

-- a condition on V
abbrev pub above_v : ℕ → Condition
above_v n = compare at_least 1 (constant (pos n)) ∷ []

-- FORMAT 9.3, b
abbrev pub inserting : Question
inserting = question (insert ((pos 3 ∷ pos 10 ∷ []) ∷ []))

-- some rows in KEY, and the row 9,3 in CLIENT
abbrev pub holding : List Values → Contents
holding rows = record { front = []; changed = rows; back = ((pos 9 ∷ pos 3 ∷ []) ∷ []) ∷ [] }

-- FORMAT 9.3, g
abbrev pub hidden : Question
hidden = question (delete (above_v 5))

-- FORMAT 9.3, k
abbrev pub lower : List Mode
lower = keep ∷ shift 1 (negsuc 39) ∷ []

abbrev pub too_low : Question
too_low = question (modify (above_v 10) lower)

-- delete V > 30, above V's range
abbrev pub too_high : Question
too_high = question (delete (compare more 1 (constant (pos 30)) ∷ []))

-- KEY alone, K visible, C: V ≥ 10; K becomes 5 where K is 3, or K is 5 and V is 20 or more
abbrev pub picked : Condition
picked = compare equal 0 (constant (pos 3)) ∷ compare equal 0 (constant (pos 5)) ∷ compare at_least 1 (constant (pos 20)) ∷ both ∷ either ∷ []

abbrev pub five : List Mode
five = become (pos 5) ∷ keep ∷ []

abbrev pub shortcut : Question
shortcut = record { version = version1; front = []; changed = keys; back = []; visible = 0 ∷ []; condition = above_v 10; change = modify picked five }
