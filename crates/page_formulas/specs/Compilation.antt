-- FORMAT 5.5: comparisons and conditions as programs. A sight says which term stands for a column.
use Rattle.std.specs.Prelude.{ℕ, [], ◌∷◌, ◌++◌, ℤ, negsuc, ◌+ℤ◌, ◌-ℤ◌}
use Rattle.page_meaning.specs.Condition.{Op, less, at_most, equal, at_least, more, unequal, Side, constant, column, Token, compare, both, either, negate, Condition}
use Rattle.page_formulas.specs.Program.{Term, Place, place, and_i, or_i, not_i, Program}

-- FORMAT 5.5: l ≤ r as a place; l < r too, with one less
abbrev pub at_most_place : Term → Term → Place
at_most_place l r = record { left = l.vertex; right = r.vertex; most = r.offset -ℤ l.offset }

abbrev pub below_place : Term → Term → Place
below_place l r = record { left = l.vertex; right = r.vertex; most = (r.offset -ℤ l.offset) +ℤ negsuc 0 }

-- FORMAT 5.5: = is ≤ and then ≥, ≠ is not =
abbrev pub comparison : Op → Term → Term → Program
comparison less l r = place (below_place l r) ∷ []
comparison at_most l r = place (at_most_place l r) ∷ []
comparison equal l r = place (at_most_place l r) ∷ place (at_most_place r l) ∷ and_i ∷ []
comparison at_least l r = place (at_most_place r l) ∷ []
comparison more l r = place (below_place r l) ∷ []
comparison unequal l r = place (at_most_place l r) ∷ place (at_most_place r l) ∷ and_i ∷ not_i ∷ []

abbrev pub Sight : Type 0
Sight = ℕ → Term

-- FORMAT 5.5: a constant is vertex 0 plus it
abbrev pub constant_term : ℤ → Term
constant_term k = record { vertex = 0; offset = k }

abbrev pub plus : Term → ℤ → Term
plus t k = record { vertex = t.vertex; offset = t.offset +ℤ k }

abbrev pub side_term : Sight → Side → Term
side_term σ (constant k) = constant_term k
side_term σ (column i k) = plus (σ i) k

abbrev pub token : Sight → Token → Program
token σ (compare op i s) = comparison op (σ i) (side_term σ s)
token σ both = and_i ∷ []
token σ either = or_i ∷ []
token σ negate = not_i ∷ []

unfoldable pub compile : Sight → Condition → Program
compile σ [] = []
compile σ (t ∷ ts) = token σ t ++ compile σ ts
