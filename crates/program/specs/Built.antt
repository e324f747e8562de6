-- What a compiled program means, and what a step that builds it adds.
use Rattle.std.specs.Prelude.{ℕ, ◌+◌, ◌≤◌, ◌≡◌, ◌++◌, map, length}
use Rattle.page_meaning.specs.Limits.{most_decisions}
use Rattle.page_formulas.specs.Program as P
use Rattle.page_formulas.specs.Kinds.{kinds_of}
use Rattle.page_formulas.specs.Costs.{most_instructions}
use Rattle.program.specs.Meanings.{number_of, place_of, instructions_of, places_of}
use Rattle.program.specs.declared.types.Program.{Program}

-- its arrays are as long as declared
pub record Long (p : Program) : Type 0 where
  pub instructions : length p.instructions ≡ most_instructions
  pub places : length p.places ≡ most_decisions

-- so many instructions and places more fit
pub record Room (p : Program) (n m : ℕ) : Type 0 where
  pub long : Long p
  pub instructions : p.length + n ≤ most_instructions
  pub places : p.decisions + m ≤ most_decisions

-- r is p with the instructions x after it
pub record Emits (p r : Program) (x : P.Program) : Type 0 where
  pub instructions : map number_of (instructions_of r) ≡ map number_of (instructions_of p) ++ kinds_of x
  pub places : map place_of (places_of r) ≡ map place_of (places_of p) ++ P.places x
  pub counted : r.length ≡ p.length + length x
  pub decided : r.decisions ≡ p.decisions + length (P.places x)

-- r is p with x after it, which is so many instructions and places at most
pub record Builds (p r : Program) (n m : ℕ) (x : P.Program) : Type 0 where
  pub long : Long r
  pub emits : Emits p r x
  pub few : r.length ≤ p.length + n
  pub few_places : r.decisions ≤ p.decisions + m

-- it is compiled: its used parts are the program's, and that is all of it
pub record Means (r : Program) (x : P.Program) : Type 0 where
  pub instructions : map number_of (instructions_of r) ≡ kinds_of x
  pub places : map place_of (places_of r) ≡ P.places x
  pub counted : r.length ≡ length x
  pub decided : r.decisions ≡ length (P.places x)
