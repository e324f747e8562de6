-- What a question that was read guarantees, as far as the theorem needs it. Nothing is needed of C and of the visible columns:
-- a column that does not exist would read 0 in every full row.
use Rattle.std.specs.Prelude.{ℕ, ◌+◌, ◌≤◌, ◌<◌, ◌≡◌, List, [], ◌∷◌, length}
use Rattle.page_meaning.specs.Condition.{Condition, Token, compare, both, either, negate, Side, constant, column}
use Rattle.page_meaning.specs.Contents.{Question, Change, insert, delete, modify, Mode, keep, become, shift, first, TableFits}

-- i is a column of the changed table
abbrev pub Mine : Question → ℕ → Type 0
Mine q i = (first q ≤ i) × (i < first q + length q.changed)

-- P holds of the column that a right side, a token, a condition names
abbrev pub SideUses : (ℕ → Type 0) → Side → Type 0
SideUses P (constant k) = Unit {0}
SideUses P (column i k) = P i

abbrev pub TokenUses : (ℕ → Type 0) → Token → Type 0
TokenUses P (compare op i s) = P i × SideUses P s
TokenUses P both = Unit {0}
TokenUses P either = Unit {0}
TokenUses P negate = Unit {0}

abbrev pub Uses : (ℕ → Type 0) → Condition → Type 0
Uses P [] = Unit {0}
Uses P (t ∷ ts) = TokenUses P t × Uses P ts

-- P holds of each column that new values come from
abbrev pub Reads : (ℕ → Type 0) → List Mode → Type 0
Reads P [] = Unit {0}
Reads P (keep ∷ ms) = Reads P ms
Reads P (become k ∷ ms) = Reads P ms
Reads P (shift j k ∷ ms) = P j × Reads P ms

-- FORMAT 3.4: inserted values are in range, the change's columns are the changed table's, and each of these has a mode. The reader refuses
-- everything else (FORMAT 4.3, 5 and 7)
abbrev pub ChangeOk : Question → Change → Type 0
ChangeOk q (insert new) = TableFits q.changed new
ChangeOk q (delete d) = Uses (Mine q) d
ChangeOk q (modify d ms) = Uses (Mine q) d × Reads (Mine q) ms × (length ms ≡ length q.changed)

-- the question's change is such
abbrev pub WellFormed : Question → Type 0
WellFormed q = ChangeOk q q.change
