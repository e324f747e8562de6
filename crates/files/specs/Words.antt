-- The words for what is asked, in bytes.
use Rattle.std.specs.Prelude.{ℕ, ◌≡◌, ◌⊎◌, List, [], ◌∷◌, Option, Some, None}
use Rattle.question.specs.declared.types.Asked.{Asked}
use Rattle.question.specs.declared.types.Asked.TheVariants.{Irrelevant, Computable}

abbrev pub irrelevant : List ℕ
irrelevant = 105 ∷ 114 ∷ 114 ∷ 101 ∷ 108 ∷ 101 ∷ 118 ∷ 97 ∷ 110 ∷ 116 ∷ []

abbrev pub computable : List ℕ
computable = 99 ∷ 111 ∷ 109 ∷ 112 ∷ 117 ∷ 116 ∷ 97 ∷ 98 ∷ 108 ∷ 101 ∷ []

-- each word asks for its own; no other word asks anything
abbrev pub AsksFor : List ℕ → Option Asked → Type 0
AsksFor word a =
    ((word ≡ irrelevant) × (a ≡ Some Irrelevant)) ⊎ ((word ≡ computable) × (a ≡ Some Computable)) ⊎ ((¬ (word ≡ irrelevant)) × (¬ (word ≡ computable)) × (a ≡ None))
