-- How large a question may be. Every limit stands here once; facts are proved over them.
use Rattle.std.specs.Prelude.{ℕ, suc, ◌+◌, ◌*◌}

-- FORMAT 1.1: tables
abbrev pub most_tables : ℕ
most_tables = 6

-- FORMAT 1.1: columns, of all tables together
abbrev pub most_columns : ℕ
most_columns = 12

-- those two together. What is read, written and checked is defined under any limits, so that it can be compared under two (FORMAT 10)
pub record Limits : Type 0 where
  pub tables : ℕ
  pub columns : ℕ

abbrev pub limits : Limits
limits = record { tables = most_tables; columns = most_columns }

-- FORMAT 2.1: tokens of a condition
abbrev pub most_tokens : ℕ
most_tokens = 16

-- FORMAT 2.1: comparisons among them
abbrev pub most_comparisons : ℕ
most_comparisons = 6

-- FORMAT 1.5: inserted rows
abbrev pub most_rows : ℕ
most_rows = 4

-- FORMAT 5.4: zero, and a column of either row
abbrev pub vertices_for : Limits → ℕ
vertices_for l = suc (2 * l.columns)

abbrev pub most_vertices : ℕ
most_vertices = vertices_for limits

-- FORMAT 7.3: six conditions, two range tests and one comparison of rows, two places a comparison
abbrev pub most_decisions : ℕ
most_decisions = 12 * most_comparisons + 6 * most_columns
