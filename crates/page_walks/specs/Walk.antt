-- Walks along edges, closed walks, and the assignments that meet every edge as a fact.
use Rattle.std.specs.Prelude.{List, [], ◌∷◌, ℕ, ◌<◌, ℤ, pos, ◌+ℤ◌, ◌≤ℤ◌}

-- every vertex of the list is one of 0 .. N − 1
abbrev pub Below : ℕ → List ℕ → Type 0
Below N [] = Unit {0}
Below N (x ∷ l) = (x < N) × Below N l

-- w u v is the weight of the edge from u to v
module _ (w : ℕ → ℕ → ℤ) where
  -- the sum of the walk from u through p to t: one edge more than p has vertices
  abbrev pub from : ℕ → List ℕ → ℕ → ℤ
  from u [] t = w u t
  from u (x ∷ p) t = w u x +ℤ from x p t

  -- FORMAT 6.2: from each vertex to the next, and back to the first
  abbrev pub closed : List ℕ → ℤ
  closed [] = pos 0
  closed (v ∷ p) = from v p v

  -- x meets each fact x v − x u ≤ w u v between vertices below N
  unfoldable pub Sat : ℕ → (ℕ → ℤ) → Type 0
  Sat N x = (u v : ℕ) → u < N → v < N → x v ≤ℤ (x u +ℤ w u v)
