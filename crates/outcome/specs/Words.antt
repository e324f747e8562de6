-- Verdicts and sheets as text (FORMAT 9.4).
use Rattle.std.specs.Prelude.{ℕ, List, ◌++◌, codes, decimal}
use Rattle.outcome.specs.declared.Verdict.{Verdict}
use Rattle.outcome.specs.declared.Verdict.TheVariants.{Yes, No}
use Rattle.outcome.specs.declared.Sheet.{Sheet}

abbrev pub word_of : Verdict → List ℕ
word_of Yes = codes "yes"
word_of No = codes "no"

-- the verdict, and how many bytes
abbrev pub text_of : Sheet → List ℕ
text_of s = word_of s.verdict ++ (codes " " ++ decimal s.length)
