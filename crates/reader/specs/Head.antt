-- FORMAT 3.2: the mark and the version, and what is read after them.
use Rattle.std.specs.Prelude.{ℕ, List, cond, leb, length, get_or}
use Rattle.page_numbers.specs.Outcome.{Outcome, good, refused}
use Rattle.page_meaning.specs.Contents.{Version}
use Rattle.page_questions.specs.Layout.{version_by}
use Rattle.page_questions.specs.Reader.{marked, versioned, version_in}

unfoldable pub version_at : List ℕ → Outcome Version
version_at s = cond (leb 5 (length s)) (cond (versioned (version_in s)) (good (version_by (get_or s 3 0))) (refused 3 3)) (refused 1 3)

-- the four tests of both: the mark's, then these
unfoldable pub head : List ℕ → Outcome Version
head s =
    cond (leb 3 (length s))
    (cond (marked s)
    (cond (leb 5 (length s)) (cond (versioned (version_in s)) (good (version_by (get_or s 3 0))) (refused 3 3)) (refused 1 3))
    (refused 2 0))
    (refused 1 0)
