-- The least sums of all walks, kept as facts come in: one sum tells whether a new fact closes a negative cycle.
use Rattle.std.specs.Prelude.{ℕ, ◌<◌, ◌≡◌, ℤ, pos, ◌+ℤ◌, ◌≤ℤ◌}
use Rattle.page_numbers.specs.Numbers.{min_z}

-- a weight for each edge
abbrev pub Weights : Type 0
Weights = ℕ → ℕ → ℤ

-- the way round by a new edge from b to a of weight k
abbrev pub via : Weights → ℕ → ℕ → ℤ → Weights
via near b a k u v = (near u b +ℤ k) +ℤ near a v

-- the least sums with the new edge
unfoldable pub relax : Weights → ℕ → ℕ → ℤ → Weights
relax near b a k u v = min_z (near u v) (via near b a k u v)

module _ (N : ℕ) where
  -- no way round is less
  abbrev pub Triangle : Weights → Type 0
  Triangle near = (u v x : ℕ) → u < N → v < N → x < N → near u x ≤ℤ (near u v +ℤ near v x)

  -- least sums: 0 from each vertex to itself, and no way round is less
  pub record Least (near : Weights) : Type 0 where
    pub itself : (u : ℕ) → u < N → near u u ≡ pos 0
    pub triangle : Triangle near
