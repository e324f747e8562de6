-- What the fields after a sheet's version come to.
use Rattle.std.specs.Prelude.{ℕ, List, get_or, eqb, leb}
use Rattle.page_meaning.specs.Limits.{limits}
use Rattle.page_meaning.specs.Contents.{Question}
use Rattle.page_sheets.specs.Sheet.{Answer, field, check_body}

-- FORMAT 8.1: asked as the caller asked, then the verdict
abbrev pub from_asked : Question → ℕ → List ℕ → Answer
from_asked q a s =
    field s 5 1 (eqb (get_or s 5 0) a) 14
    (field s 6 1 (leb (get_or s 6 0) 1) 14
    (check_body limits q a s (get_or s 6 0)))
