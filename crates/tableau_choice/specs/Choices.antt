-- A goal taken out of those that wait, and its two operands.
use Rattle.std.specs.Prelude.{ℕ, ◌-◌, ◌≤◌, ◌<◌, ◌≡◌, ◌⊎◌, Option, Some, None, length, get_or, set}
use Rattle.page_formulas.specs.Costs.{most_instructions}
use Rattle.program_tree.specs.declared.types.Tree.{Tree}
use Rattle.program_tree.specs.Nodes.{first_at}
use Rattle.goals.specs.declared.types.Goal.{Goal}
use Rattle.goals.specs.declared.types.State.{State}
use Rattle.goals.specs.Goals.{no_goal}

-- the goals that wait are of instructions that there is room for
pub record InTree (s : State) : Type 0 where
  pub few : s.count ≤ most_instructions
  pub each : (k : ℕ) → k < s.count → (get_or s.goals k no_goal).at < most_instructions

-- g was one of those that waited, and the last of them stands in its place
pub record Out (s : State) (g : Goal) (left : State) : Type 0 where
  pub at : ℕ
  pub there : at < s.count
  pub is : g ≡ get_or s.goals at no_goal
  pub left_is : left.goals ≡ set s.goals at (get_or s.goals (s.count - 1) no_goal)
  pub count_is : left.count ≡ s.count - 1
  pub near_is : left.near.rows ≡ s.near.rows
  pub long : length s.goals ≡ most_instructions

-- one is taken out; none waited
abbrev pub TakenOut : State → Option Goal → State → Type 0
TakenOut s (Some g) left = Out s g left
TakenOut s None left = (s.count ≡ 0) × (left ≡ s)

-- a and b are the operands of instruction j, in some order
abbrev pub Operands : Tree → ℕ → ℕ → ℕ → Type 0
Operands t j a b = ((a ≡ first_at t j) × (b ≡ j - 1)) ⊎ ((a ≡ j - 1) × (b ≡ first_at t j))
