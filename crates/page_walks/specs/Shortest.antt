-- What the search and the greatest solution are held to, said without them (FORMAT 7.1, 7.2).
use Rattle.std.specs.Prelude.{◌≡◌, ◌⊎◌, List, [], ◌∷◌, ℕ, suc, ◌≤◌, ◌<◌, length, ℤ, pos, ◌≤ℤ◌, ◌<ℤ◌}
use Rattle.std.proofs.Math.Option.{Option, none, some}
use Rattle.page_walks.specs.Walk.{Below, closed, Sat}

-- a list before another, or the same
abbrev pub Lex : List ℕ → List ℕ → Type 0
Lex [] q = Unit {0}
Lex (x ∷ p) [] = ⊥
Lex (x ∷ p) (y ∷ q) = (x < y) ⊎ ((x ≡ y) × Lex p q)

-- no closed walk of 1 .. N vertices is negative
abbrev pub NoNeg : (ℕ → ℕ → ℤ) → ℕ → Type 0
NoNeg w N = (c : List ℕ) → 0 < length c → length c ≤ N → Below N c → pos 0 ≤ℤ closed w c

-- x is 0 at vertex 0, meets every fact, and is the greatest that does, at all vertices at once
pub record Greatest (w : ℕ → ℕ → ℤ) (N : ℕ) (x : ℕ → ℤ) : Type 0 where
  pub at_zero : x 0 ≡ pos 0
  pub meets : Sat w N x
  pub most : (y : ℕ → ℤ) → y 0 ≡ pos 0 → Sat w N y → (v : ℕ) → v < N → y v ≤ℤ x v

-- n + 1 vertices
module _ (w : ℕ → ℕ → ℤ) (n : ℕ) where
  -- a negative closed walk; none has fewer vertices, and of those with as many its list is the least
  pub record Shortest (c : List ℕ) : Type 0 where
    pub some_vertex : 0 < length c
    pub short : length c ≤ suc n
    pub below : Below (suc n) c
    pub negative : closed w c <ℤ pos 0
    pub no_shorter : (q : List ℕ) → 0 < length q → Below (suc n) q → closed w q <ℤ pos 0 → length c ≤ length q
    pub lex_least : (q : List ℕ) → length q ≡ length c → Below (suc n) q → closed w q <ℤ pos 0 → Lex c q

  -- a found list is the shortest, then least; and where none is found there is none
  abbrev pub Answer : Option (List ℕ) → Type 0
  Answer (some c) = Shortest c
  Answer none = NoNeg w (suc n)
