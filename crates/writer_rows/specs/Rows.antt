-- The rows that a no sheet shows, as the writer's code holds them: what it must be given.
use Rattle.std.specs.Prelude.{ℕ, ◌≡◌, Bool, cond, [], ◌++◌, T}
use Rattle.page_meaning.specs.Contents.{Values, look}
use Rattle.page_meaning.specs.Contents as M
use Rattle.page_formulas.specs.Program as P
use Rattle.page_formulas.specs.Formulas.{row_of2}
use Rattle.page_formulas.specs.Vertices.{Ranges, present}
use Rattle.page_sheets.specs.Rows.{first_row}

-- the first or the second row
abbrev pub row_for : M.Question → ℕ → Bool → P.Values → Values
row_for q i second x = cond second (row_of2 q x) (first_row q i x)

-- the value of every column of the first row, then of the second where the formula has two
abbrev pub rows_for : M.Question → ℕ → Bool → P.Values → Values
rows_for q i pairs x = first_row q i x ++ cond pairs (row_of2 q x) []

-- the code's values are those at the formula's vertices
abbrev pub Carries : Ranges → Values → P.Values → Type 0
Carries rs values x = (v : ℕ) → T (present rs v) → look values v ≡ x v
