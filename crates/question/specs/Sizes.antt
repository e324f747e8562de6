-- The bounds of a question's own numbers, and what the derived ones are named for.
use Rattle.std.specs.Prelude.{ℕ, ◌+◌, ◌≤◌, ◌<◌, ◌≡◌, List, take}
use Rattle.page_meaning.specs.Limits.{most_tables, most_columns, most_tokens, most_rows}
use Rattle.page_questions.specs.Layout as L
use Rattle.question.specs.declared.types.Shape.{Shape}
use Rattle.question.specs.declared.types.Change.{Change}

abbrev pub widths_of : Shape → List ℕ
widths_of h = take h.tables h.widths

-- the tables: no more than there may be, the changed one among them, and no more columns; the derived numbers are what they are named for
pub record ShapeHeld (h : Shape) : Type 0 where
  pub some_table : 1 ≤ h.tables
  pub few_tables : h.tables ≤ most_tables
  pub changed : h.changed < h.tables
  pub first : h.first ≡ L.first_of (widths_of h) h.changed
  pub width : h.width ≡ L.width_of (widths_of h) h.changed
  pub total : h.total ≡ L.total (widths_of h)
  pub some_column : 1 ≤ h.width
  pub inside : h.first + h.width ≤ h.total
  pub few_columns : h.total ≤ most_columns

pub record ChangeHeld (ch : Change) : Type 0 where
  pub few_rows : ch.count ≤ most_rows
  pub few_tokens : ch.condition.count ≤ most_tokens
