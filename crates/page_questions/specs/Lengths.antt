-- FORMAT 3.5: how long a question can be, and what becomes of an input that is longer.
use Rattle.std.specs.Prelude.{ℕ, suc, ◌+◌, ◌*◌, ◌≤◌, ◌≡◌, List, length, take}
use Rattle.page_numbers.specs.Outcome.{good}
use Rattle.page_meaning.specs.Limits.{most_columns, most_tokens, most_comparisons, most_rows}
use Rattle.page_meaning.specs.Contents.{Question}
use Rattle.page_questions.specs.Reader.{read_of}

-- a condition: its count, a byte a token, and seven more a comparison
abbrev pub longest_condition : ℕ
longest_condition = 1 + most_tokens + 7 * most_comparisons

-- one table with every column, nine bytes each; the longest condition; and an insert of every row, four bytes a value
abbrev pub longest : ℕ
longest = 8 + 1 + 9 * most_columns + longest_condition + 1 + 4 * most_rows * most_columns

abbrev pub NoneLonger : Type 0
NoneLonger = (s : List ℕ) (q : Question) → read_of s ≡ good q → length s ≤ longest

abbrev pub OneAsLong : Type 0
OneAsLong = (s : List ℕ) × (q : Question) × (read_of s ≡ good q) × (length s ≡ longest)

-- one byte more than a question can have settles the answer
abbrev pub FirstBytesTell : Type 0
FirstBytesTell = (s : List ℕ) → suc longest ≤ length s → read_of s ≡ read_of (take (suc longest) s)
