-- FORMAT 10: what stays where the limits are raised, as statements. Their proofs stand in proofs/RaisedLimits.antt.
use Rattle.std.specs.Prelude.{ℕ, ◌≤◌, ◌<◌, ◌≡◌, ◌⊎◌, List, get_or}
use Rattle.page_numbers.specs.Outcome.{Outcome, good, refused}
use Rattle.page_meaning.specs.Contents.{Question}
use Rattle.page_meaning.specs.Limits.{Limits, limits, vertices_for}
use Rattle.page_questions.specs.Reader.{read_under}
use Rattle.page_sheets.specs.Answers.{verdict_under, check_under, write_under}
use Rattle.page_sheets.specs.Sheet.{Verdict, sheet_under}

-- FORMAT 10.1: the limits that there were
abbrev pub former_limits : Limits
former_limits = record { tables = 4; columns = 8 }

-- from the limits l to the limits m
module _ (l m : Limits) where
  -- FORMAT 10.3: refused with 14 for a cycle that has more vertices than l lets it have, and no more than m does
  abbrev pub LongerCycle : {A : Type 0} → List ℕ → Outcome A → Type 0
  LongerCycle sheet x = (o : ℕ) × (x ≡ refused 14 o) × (vertices_for l < get_or sheet o 0) × (get_or sheet o 0 ≤ vertices_for m)

  -- of byte strings that were a question
  pub record BytesStay (s : List ℕ) (q : Question) : Type 0 where
    -- FORMAT 10.2: the same question, and for either thing asked the same verdict, the same sheet, and the same bytes in every room
    pub question : read_under m s ≡ good q
    pub verdict : (a : ℕ) → verdict_under m a s ≡ verdict_under l a s
    pub sheet : (a : ℕ) → sheet_under m q a ≡ sheet_under l q a
    pub room : (a : ℕ) (room : List ℕ) → write_under m a s room ≡ write_under l a s room
    -- FORMAT 10.3: a sheet that passed passes with its verdict; and one is answered as before, or was refused for a longer cycle
    pub passed : (a : ℕ) (sheet : List ℕ) (v : Verdict) → check_under l a s sheet ≡ good v → check_under m a s sheet ≡ good v
    pub checked : (a : ℕ) (sheet : List ℕ) → (check_under l a s sheet ≡ check_under m a s sheet) ⊎ LongerCycle sheet (check_under l a s sheet)
    -- no sheet that passes now says what was not the verdict
    pub agrees : (a : ℕ) (sheet : List ℕ) (v : Verdict) → check_under m a s sheet ≡ good v → verdict_under l a s ≡ good v

abbrev pub PresentBytesStay : Type 0
PresentBytesStay = (s : List ℕ) (q : Question) → read_under former_limits s ≡ good q → BytesStay former_limits limits s q
