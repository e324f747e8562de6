-- A program's places, as the writer's code takes them for granted.
use Rattle.std.specs.Prelude.{ℕ, ◌≤◌, ◌<◌, Bool, List, length}
use Rattle.page_meaning.specs.Limits.{most_vertices, most_decisions}
use Rattle.page_sheets.specs.Facts.{taken}
use Rattle.grid.specs.Edges.{Fact}
use Rattle.program.specs.Lent.{place_at}
use Rattle.program.specs.declared.types.Place.{Place}

-- places between vertices up to the last, with small constants
pub record Placing (last : ℕ) (ps : List Place) : Type 0 where
  pub few : last < most_vertices
  pub few_places : length ps ≤ most_decisions
  pub facts : (i : ℕ) → i < length ps → (d : Bool) → Fact last (taken (place_at ps i) d).right (taken (place_at ps i) d).left (taken (place_at ps i) d).most
