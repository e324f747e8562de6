-- What a sight means: the term that stands for each column.
use Rattle.std.specs.Prelude.{ℕ, suc, ◌+◌, ◌≤◌, ◌<◌, ◌≡◌, Bool, true, false, cond, List, [], ◌∷◌, ◌++◌, map, length, get_or, replicate, pos, neg_ℤ, ◌≤ℤ◌}
use Rattle.page_meaning.specs.Limits.{most_columns}
use Rattle.page_meaning.specs.Contents.{Range, Mode, keep, become, shift}
use Rattle.page_meaning.specs.Contents as M
use Rattle.page_meaning.specs.WellFormed.{Reads}
use Rattle.question.specs.Held.{setting_of, Held}
use Rattle.question.specs.declared.types.Question.{Question}
use Rattle.question.specs.declared.types.Column.{Column}
use Rattle.page_formulas.specs.Compilation as C
use Rattle.page_formulas.specs.Program as P
use Rattle.page_formulas.specs.Formulas.{vertex, first_sight, second_sight, new_term}
use Rattle.program.specs.Meanings.{term_of}
use Rattle.program.specs.declared.types.Term.{Term}
use Rattle.sights.specs.declared.types.Modes.{Modes}
use Rattle.sights.specs.declared.types.Modes.TheVariants.{Row, Settings}
use Rattle.sights.specs.declared.types.Sight.{Sight}

-- ---- a question's columns

abbrev pub row_sight : M.Question → Bool → C.Sight
row_sight q second = cond second (second_sight q) first_sight

-- a column of the question
abbrev pub There : Question → ℕ → Type 0
There q i = i < q.shape.total

-- a question that was read, in arrays as long as declared
pub record Whole (q : Question) : Type 0 where
  pub held : Held q
  pub long : length q.columns ≡ most_columns

-- the machine's column past the end of an array
abbrev pub no_column : Column
no_column = record { lo = pos 0; hi = pos 0; visible = false }

-- a range past the end of a list of them: what a column of zeros means
abbrev pub no_range : Range
no_range = record { lo = pos 0; hi = pos 0 }

-- ---- a sight's

-- a column of the sight
abbrev pub Has : Sight → ℕ → Type 0
Has s i = i < length s.columns.now

-- whether each column is visible, and the numbers of those that are, from number i on
abbrev pub flags_of : Sight → List Bool
flags_of s = map (λ c. c.visible) s.columns.now

unfoldable pub shown_from : ℕ → List Bool → List ℕ
shown_from i [] = []
shown_from i (b ∷ bs) = let rest = shown_from (suc i) bs in cond b (i ∷ rest) rest

abbrev pub visible_of : Sight → List ℕ
visible_of s = shown_from 0 (flags_of s)

-- the vertex of column i of n (FORMAT 5.4)
abbrev pub vertex_of : Bool → Bool → ℕ → ℕ → ℕ
vertex_of second visible n i = cond second (cond visible (suc i) (suc (n + i))) (suc i)

-- the row as it is
abbrev pub row_of : Sight → C.Sight
row_of s i = vertex (vertex_of s.second (get_or (flags_of s) i false) (length s.columns.now) i)

-- the modes of the changed table's columns, and of each column
abbrev pub modes_by : Modes → List Mode
modes_by (Row values) = map become values.now
modes_by (Settings settings) = map setting_of settings.now

abbrev pub modes_of : Sight → List Mode
modes_of s = modes_by s.modes

abbrev pub mode_in : Sight → ℕ → Mode
mode_in s i = cond s.moved (get_or (replicate s.first keep ++ modes_of s) i keep) keep

abbrev pub sight_of : Sight → C.Sight
sight_of s i = new_term (mode_in s i) (row_of s) (row_of s i)

abbrev pub ReadsIf : Bool → (ℕ → Type 0) → List Mode → Type 0
ReadsIf true P ms = Reads P ms
ReadsIf false P ms = Unit {0}

-- its numbers are in order, and its new values come from its columns
pub record Usable (s : Sight) : Type 0 where
  pub inside : s.first + length (modes_of s) ≤ length s.columns.now
  pub few : length s.columns.now ≤ most_columns
  pub reads : ReadsIf s.moved (Has s) (modes_of s)

-- what stands for a column: its offset is an i32
pub record Stands (r : Term) (t : P.Term) : Type 0 where
  pub is : term_of r ≡ t
  pub low : neg_ℤ (pos 2147483648) ≤ℤ r.offset
  pub high : r.offset ≤ℤ pos 2147483648

-- the column that a new value comes from is there
abbrev pub ModeReads : (ℕ → Type 0) → Mode → Type 0
ModeReads P keep = Unit {0}
ModeReads P (become k) = Unit {0}
ModeReads P (shift j k) = P j
