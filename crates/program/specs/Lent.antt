-- A compiled formula lent part by part: its instructions, its places, and what its vertices range over.
use Rattle.std.specs.Prelude.{ℕ, ◌≤◌, ◌<◌, ◌≡◌, List, Option, None, is_some, map, length, get_or}
use Rattle.page_meaning.specs.Limits.{most_vertices, most_decisions}
use Rattle.page_walks.specs.Sizes.{least_weight, Bounded}
use Rattle.page_formulas.specs.Program as P
use Rattle.page_formulas.specs.Kinds.{kinds_of}
use Rattle.page_formulas.specs.Vertices.{Ranges, present}
use Rattle.page_formulas.specs.Costs.{most_instructions}
use Rattle.program.specs.Meanings.{number_of, place_of, no_place}
use Rattle.program.specs.declared.types.Instruction.{Instruction}
use Rattle.program.specs.declared.types.Place.{Place}
use Rattle.program.specs.declared.types.Range.{Range}

-- which vertices the formula has
pub record Flagged (ranges : List (Option Range)) (rs : Ranges) : Type 0 where
  pub agree : (v : ℕ) → is_some (get_or ranges v None) ≡ present rs v

-- what the code may take for granted of its places: they are few, between vertices of the grid, and their weights are small
pub record Places (ps : List Place) : Type 0 where
  pub few : length ps ≤ most_decisions
  pub left_below : (i : ℕ) → i < length ps → (get_or ps i no_place).left < most_vertices
  pub right_below : (i : ℕ) → i < length ps → (get_or ps i no_place).right < most_vertices
  pub small : (i : ℕ) → i < length ps → Bounded least_weight (get_or ps i no_place).most

-- and of all of it
pub record Lendable (ks : List Instruction) (ps : List Place) (ranges : List (Option Range)) : Type 0 where
  pub short : length ks ≤ most_instructions
  pub places : Places ps
  pub few : length ranges ≤ most_vertices

-- they are a program's instructions and places
pub record Lent (p : P.Program) (ks : List Instruction) (ps : List Place) : Type 0 where
  pub instructions : map number_of ks ≡ kinds_of p
  pub places : map place_of ps ≡ P.places p

-- place i
abbrev pub place_at : List Place → ℕ → P.Place
place_at ps i = place_of (get_or ps i no_place)
