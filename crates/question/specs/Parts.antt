-- A part of the columns.
use Rattle.std.specs.Prelude.{ℕ, List, map, take, drop}
use Rattle.page_meaning.specs.Contents as M
use Rattle.page_questions.specs.Layout as L
use Rattle.question.specs.Held.{column_of}
use Rattle.question.specs.declared.types.Column.{Column}

-- the ranges of the columns from number `first` on
abbrev pub ranges_at : List Column → ℕ → ℕ → List M.Range
ranges_at cs first width = take width (drop first (L.ranges_of (map column_of cs)))
