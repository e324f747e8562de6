-- Changes as the code reads them.
use Rattle.std.specs.Prelude.{List, map}
use Rattle.page_meaning.specs.Contents as M
use Rattle.page_questions.specs.Layout as L
use Rattle.question.specs.Held.{column_of}
use Rattle.question.specs.declared.types.Column.{Column}

-- the ranges of a table's columns
abbrev pub ranges_in : List Column → List M.Range
ranges_in cs = L.ranges_of (map column_of cs)
