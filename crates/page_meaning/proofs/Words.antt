-- The words of the table as tests of a row, by their names.
use mathlib.Core.Path.{◌≡◌, refl}
use mathlib.Core.Bool.{Bool, false}
use mathlib.Core.List.{List, [], map}
use Rattle.page_meaning.specs.Condition.{Condition, Row}
use Rattle.page_meaning.specs.Contents.{Version, version1, version2, Question, Mode, become, Values}
use Rattle.page_meaning.specs.Claims.{staying, leaving, claims}
use Rattle.page_meaning.specs.Trouble.{tests, moved}

module _ (q : Question) where
  abbrev pub C : Row → Bool
  C = (tests q [] []).C

  module _ (d : Condition) (ms : List Mode) where
    abbrev pub moves : Row → Bool
    moves = (tests q d ms).M

    abbrev pub S : Version → Row → Bool
    S v r = claims (tests q d ms) (λ i. r) (staying v) false

    abbrev pub leaves : Version → Row → Bool
    leaves v r = claims (tests q d ms) (λ i. r) (leaving v) false

    -- of either of two rows
    pub staying_of : (v : Version) (w : Bool → Row) (i : Bool) → claims (tests q d ms) w (staying v) i ≡ S v (w i)
    staying_of version1 w i = refl
    staying_of version2 w i = refl

    pub leaving_of : (v : Version) (w : Bool → Row) (i : Bool) → claims (tests q d ms) w (leaving v) i ≡ leaves v (w i)
    leaving_of version1 w i = refl
    leaving_of version2 w i = refl

  abbrev pub differ : List Mode → Row → Row → Bool
  differ ms = (tests q [] ms).differ

  -- a full row with an inserted row's values put in
  abbrev pub put : Values → Row → Row
  put new = moved q (map become new)
