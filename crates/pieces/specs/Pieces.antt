-- A part that is built piece by piece: what is emitted so far and what is left make the whole, and there is room for what is left.
use Rattle.std.specs.Prelude.{ℕ, ◌+◌, ◌≤◌, ◌≡◌, false, cond, List, [], ◌∷◌, ◌++◌, map, length, get_or, drop}
use Rattle.page_meaning.specs.Limits.{most_tokens, most_comparisons}
use Rattle.page_meaning.specs.Condition.{compare, both, either, negate}
use Rattle.page_meaning.specs.Condition as M
use Rattle.page_meaning.specs.Contents.{Range, keep}
use Rattle.page_meaning.specs.WellFormed.{Uses}
use Rattle.page_questions.specs.Reader.{comparisons}
use Rattle.question.specs.Held.{token_of, column_of}
use Rattle.question.specs.declared.types.Column.{Column}
use Rattle.question.specs.declared.types.Token.{Token}
use Rattle.page_formulas.specs.Program as P
use Rattle.program.specs.Built.{Long, Emits}
use Rattle.sights.specs.Sights.{flags_of, modes_of, mode_in, row_of, sight_of}
use Rattle.program.specs.declared.types.Program.{Program}
use Rattle.sights.specs.declared.types.Sight.{Sight}
use Rattle.page_formulas.specs.Formulas.{bounded_new, differs_new}

-- of n instructions and m places, what is left takes a and b at most
pub record Partway (n m : ℕ) (p now : Program) (a b : ℕ) (left all : P.Program) : Type 0 where
  pub long : Long now
  pub done : P.Program
  pub emits : Emits p now done
  pub whole : done ++ left ≡ all
  pub few : now.length + a ≤ p.length + n
  pub few_places : now.decisions + b ≤ p.decisions + m

-- how many instructions and places a token makes at most
abbrev pub cost : M.Token → ℕ
cost (compare op i s) = 4
cost both = 1
cost either = 1
cost negate = 1

abbrev pub pairs : M.Token → ℕ
pairs (compare op i s) = 2
pairs both = 0
pairs either = 0
pairs negate = 0

unfoldable pub costs : M.Condition → ℕ
costs [] = 0
costs (t ∷ ts) = cost t + costs ts

unfoldable pub pairs_of : M.Condition → ℕ
pairs_of [] = 0
pairs_of (t ∷ ts) = pairs t + pairs_of ts

-- the condition that the tokens are
abbrev pub tokens_of : List Token → M.Condition
tokens_of ts = map token_of ts

-- a condition over columns that are there, as large as FORMAT 2 lets it be
pub record Compilable (P : ℕ → Type 0) (ts : List Token) : Type 0 where
  pub few : length ts ≤ most_tokens
  pub uses : Uses P (tokens_of ts)
  pub few_comparisons : comparisons (tokens_of ts) ≤ most_comparisons

-- what the columns from number k on range over
abbrev pub table_from : ℕ → List Column → List Range
table_from k cs = map (λ c. (column_of c).range) (drop k cs)

-- the range test of the changed table's column j, which ranges over g
abbrev pub bounded_at : Sight → ℕ → Range → P.Program
bounded_at s j g = bounded_new (get_or (modes_of s) j keep) (row_of s) g

-- what the rows show differently in column i, where it is visible and not kept
abbrev pub differs_at : Sight → Sight → ℕ → P.Program
differs_at a b i = cond (get_or (flags_of a) i false) (differs_new (mode_in a i) (sight_of a i) (sight_of b i)) []
