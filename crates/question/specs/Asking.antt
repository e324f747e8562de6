-- The word for what is asked (FORMAT 9.4).
use Rattle.std.specs.Prelude.{ℕ, List, codes}
use Rattle.question.specs.declared.types.Asked.{Asked}
use Rattle.question.specs.declared.types.Asked.TheVariants.{Irrelevant, Computable}

abbrev pub word_of : Asked → List ℕ
word_of Irrelevant = codes "irrelevant"
word_of Computable = codes "computable"
