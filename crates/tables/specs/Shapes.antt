-- What the reader's results for widths and columns mean.
use Rattle.std.specs.Prelude.{ℕ, ◌≤◌, ◌<◌, Bool, true, false, List, [], ◌∷◌, take, get_or}
use Rattle.page_meaning.specs.Limits.{most_tables, most_columns}
use Rattle.page_questions.specs.Layout.{total}

-- the first n widths: of tables with a column each, no more than there may be
pub record Counted (n : ℕ) (widths : List ℕ) : Type 0 where
  pub few : n ≤ most_tables
  pub small : total (take n widths) ≤ most_columns
  pub each : (j : ℕ) → j < n → 1 ≤ get_or widths j 0

-- is there one
abbrev pub some : List ℕ → Bool
some [] = false
some (i ∷ is) = true
