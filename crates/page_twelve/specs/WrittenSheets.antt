-- Each sheet of the table of cases (`Twelve` in page_sheets) is the one that is written.
use Rattle.std.specs.Prelude.{ℕ, ◌≡◌, List}
use Rattle.page_numbers.specs.Outcome.{good}
use Rattle.page_meaning.specs.Contents.{Question}
use Rattle.page_questions.specs.Guarantees.{Every}
use Rattle.page_questions.specs.Reader.{read_of}
use Rattle.page_sheets.specs.Sheet.{sheet_of}
use Rattle.page_sheets.specs.Twelve.{Claim, sheet_in, Case, twelve, retired}

-- the question is read, and the sheet that shows the claim is the writer's
pub record Written (a : ℕ) (s : List ℕ) (c : Claim) : Type 0 where
  pub question : Question
  pub reads : read_of s ≡ good question
  pub sheet : sheet_of question a ≡ sheet_in a c

abbrev pub AllWritten : List Case → Type 0
AllWritten cs = Every (λ c. Written 1 c.question c.irrelevant × Written 2 c.question c.computable) cs

abbrev pub TwelveWritten : Type 0
TwelveWritten = AllWritten twelve

abbrev pub RetiredWritten : Type 0
RetiredWritten = AllWritten retired
