-- What a sheet leaves in the room before the rest is cleared.
use Rattle.std.specs.Prelude.{ℕ, ◌≤◌, ◌<◌, ◌≡◌, Bool, true, false, List, length, take}
use Rattle.page_meaning.specs.Contents.{Question}
use Rattle.outcome.specs.Answers.{verdict_of}
use Rattle.outcome.specs.declared.Verdict.{Verdict}
use Rattle.page_sheets.specs.Sheet.{sheet_for, verdict_for}
use Rattle.page_sheets.specs.Trees.{Finding}
use Rattle.room.specs.Room.{Filling}

-- the sheet stands at the start of the room and ends at this place; or it is longer than the room
abbrev pub StandsIf : Bool → List ℕ → List ℕ → ℕ → Type 0
StandsIf true sheet room at = length room < length sheet
StandsIf false sheet room at = (at ≡ length sheet) × (at ≤ length room) × (take at room ≡ sheet)

-- for what the writer finds: its verdict, and its sheet in a room as long as it was
pub record Lays (old : List ℕ) (q : Question) (asked : ℕ) (f : Finding) (v : Verdict) (end : Filling) : Type 0 where
  pub says : verdict_of v ≡ verdict_for f
  pub long : length end.bytes ≡ length old
  pub stands : StandsIf end.over (sheet_for q asked f) end.bytes end.at
