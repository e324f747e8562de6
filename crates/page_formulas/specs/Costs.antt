-- How much room a formula takes at most, by its line of the table. No demand rests on it.
use Rattle.std.specs.Prelude.{ℕ, ◌+◌, ◌-◌, ◌*◌, ◌≤◌, false}
use Rattle.page_meaning.specs.Limits.{most_tokens, most_comparisons, most_columns, most_decisions}
use Rattle.page_meaning.specs.Claims.{Claim, Part, Line, single, double, Reading, claims, read_part, read_parts}

pub record Cost : Type 0 where
  pub instructions : ℕ
  pub places : ℕ

-- of a comparison (FORMAT 5.5): two places at most, their and, a not; of a column's range tests, each joined; of a column that may differ, joined
abbrev pub comparison_cost : Cost
comparison_cost = record { instructions = 4; places = 2 }

abbrev pub range_cost : Cost
range_cost = record { instructions = 4; places = 2 }

abbrev pub column_cost : Cost
column_cost = record { instructions = 5; places = 2 }

-- of a condition: an instruction a token, but for the comparisons
abbrev pub condition_cost : Cost
condition_cost = record { instructions = most_tokens + (comparison_cost.instructions - 1) * most_comparisons; places = comparison_cost.places * most_comparisons }

-- of the range tests, which begin with true; of M; of differ, which begins with false
abbrev pub ranged_cost : Cost
ranged_cost = record { instructions = range_cost.instructions * most_columns + 1; places = range_cost.places * most_columns }

abbrev pub moving_cost : Cost
moving_cost = record { instructions = condition_cost.instructions + range_cost.instructions * most_columns; places = condition_cost.places + range_cost.places * most_columns }

abbrev pub differing_cost : Cost
differing_cost = record { instructions = column_cost.instructions * most_columns + 1; places = column_cost.places * most_columns }

-- with a not; of two, with an and or an or
abbrev pub denied_cost : Cost → Cost
denied_cost a = record { instructions = a.instructions + 1; places = a.places }

abbrev pub joined_cost : Cost → Cost → Cost
joined_cost a b = record { instructions = a.instructions + (b.instructions + 1); places = a.places + b.places }

-- a reading of the table like any other: a row takes no room
abbrev pub costs : Reading (Unit {0}) Cost
costs = record { F = λ w. w; C = λ w. condition_cost; D = λ w. condition_cost; ranged = λ w. ranged_cost; M = λ w. moving_cost; differ = λ w v. differing_cost; deny = denied_cost; both = joined_cost; either = joined_cost }

abbrev pub claim_cost : Claim → Cost
claim_cost c = claims costs (λ i. tt) c false

abbrev pub part_cost : Part → Cost
part_cost p = read_part costs (λ i. tt) p

abbrev pub line_cost : Line → Cost
line_cost (single p ps) = read_parts costs (λ i. tt) p ps
line_cost (double p ps) = read_parts costs (λ i. tt) p ps

-- the room of the longest line: six conditions, the range tests of two rows, one comparison of rows, and what joins them. Its places are
-- `most_decisions`
abbrev pub most_instructions : ℕ
most_instructions = 6 * condition_cost.instructions + (2 * range_cost.instructions + column_cost.instructions) * most_columns + 7

-- a line that finds room
pub record Fits (l : Line) : Type 0 where
  pub instructions : (line_cost l).instructions ≤ most_instructions
  pub places : (line_cost l).places ≤ most_decisions
