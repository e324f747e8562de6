-- FORMAT 7.1 and 7.2: the search for the negative closed walk with the fewest edges, and of those with the least list; the greatest solution.
use Rattle.std.specs.Prelude.{Bool, cond, List, [], ◌∷◌, ℕ, zero, suc, ◌-◌, ℤ, pos, ◌+ℤ◌, ltb}
use Rattle.std.proofs.Math.Option.{Option, none, some}
use Rattle.std.specs.Int.Signed.{lt_z}
use Rattle.page_numbers.specs.Numbers.{min_z}

-- the least of f 0 .. f n
unfoldable pub least : (ℕ → ℤ) → ℕ → ℤ
least f zero = f zero
least f (suc n) = min_z (least f n) (f (suc n))

-- the first i below n that passes the test, or n
unfoldable pub first : (ℕ → Bool) → ℕ → ℕ
first f zero = zero
first f (suc n) = let r = suc (first (λ i. f (suc i)) n) in cond (f zero) zero r

-- n + 1 vertices
module _ (w : ℕ → ℕ → ℤ) (n : ℕ) where
  -- the least sum of the walks with k + 1 edges from v to s
  unfoldable pub best : ℕ → ℕ → ℕ → ℤ
  best zero s v = w v s
  best (suc k) s v = least (λ u. w v u +ℤ best k s u) n

  -- is the sum so far, and the best way on from u in k + 1 edges, negative?
  unfoldable pub test : ℕ → ℕ → ℤ → ℕ → ℕ → Bool
  test k s acc c u = lt_z ((acc +ℤ w c u) +ℤ best k s u) (pos 0)

  -- the vertices after c, each the least that can still close below zero, where k + 1 edges are left
  unfoldable pub greedy : ℕ → ℕ → ℤ → ℕ → List ℕ
  greedy zero s acc c = []
  greedy (suc k) s acc c = let u = first (test k s acc c) (suc n) in u ∷ greedy k s (acc +ℤ w c u) u

  -- the first vertex on a negative closed walk with k + 1 vertices, or n + 1
  unfoldable pub start : ℕ → ℕ
  start k = first (λ s. lt_z (best k s s) (pos 0)) (suc n)

  -- one less than the fewest vertices of a negative closed walk, or n + 1
  unfoldable pub fewest : ℕ
  fewest = first (λ k. ltb (start k) (suc n)) (suc n)

  -- the least list of k + 1 vertices that closes below zero, where there is one
  unfoldable pub walk : ℕ → List ℕ
  walk k = start k ∷ greedy k (start k) (pos 0) (start k)

  -- FORMAT 7.1: the shortest and then least negative closed walk, if there is one
  unfoldable pub search : Option (List ℕ)
  search = cond (ltb fewest (suc n)) (some (walk fewest)) none

  -- the least sums of the walks with 1 .. n edges from 0; at 0 the walk with none
  unfoldable pub dist : ℕ → ℤ
  dist zero = pos 0
  dist (suc v) = least (λ k. best k (suc v) 0) (n - 1)
