-- What the declared question means: its used fields as the lists that `page_meaning` speaks of, and the bounds of its own numbers.
use Rattle.std.specs.Prelude.{ℕ, ◌≤◌, ◌≡◌, List, map, take, Result}
use Rattle.page_meaning.specs.Limits.{most_tokens}
use Rattle.page_meaning.specs.Contents as M
use Rattle.page_questions.specs.Layout as L
use Rattle.page_questions.specs.Reader.{Read}
use Rattle.refusal.specs.Outcomes.{outcome_of, IfValue}
use Rattle.refusal.specs.declared.Refusal.{Refusal}
pub use Rattle.question.specs.Sizes.{widths_of, ShapeHeld, ChangeHeld}
pub use Rattle.question.specs.Meanings.{op_of, side_of, kind_of, token_of, condition_of, column_of, mode_of, setting_of, row_of, verb_number, change_by, change_of, version_of, question_with}
use Rattle.question.specs.declared.types.Question.{Question}
use Rattle.question.specs.declared.types.Asked.{Asked}
use Rattle.question.specs.declared.types.Asked.TheVariants.{Irrelevant, Computable}

-- the first `total` columns
abbrev pub columns_of : Question → List L.Column
columns_of q = map column_of (take q.shape.total q.columns)

abbrev pub ranges_of : Question → List M.Range
ranges_of q = L.ranges_of (columns_of q)

unfoldable pub question_of : Question → M.Question
question_of q =
    L.question_from (version_of q.version) (widths_of q.shape) q.shape.changed (columns_of q) (condition_of q.condition) (change_of q.shape.width q.change)

-- what the code may take for granted of a question that was read
pub record Held (q : Question) : Type 0 where
  pub shape : ShapeHeld q.shape
  pub few_tokens : q.condition.count ≤ most_tokens
  pub change : ChangeHeld q.change

-- what is asked, by its number
abbrev pub asked_of : Asked → ℕ
asked_of Irrelevant = 1
asked_of Computable = 2

-- ---- the answer

-- the question, or the number and the place of the refusal (FORMAT 4.3)
abbrev pub meant : Result Question Refusal → Read
meant r = outcome_of question_of r

-- what the reader promises of its result, where the definition gives the answer o
pub record Reads (r : Result Question Refusal) (o : Read) : Type 0 where
  pub meaning : meant r ≡ o
  pub held : IfValue r Held
