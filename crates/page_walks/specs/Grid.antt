-- Facts as a grid of edge weights, rows of the edge's first vertex.
use Rattle.std.specs.Prelude.{ℕ, List, [], get_or, set, replicate, ℤ, pos}
use Rattle.page_numbers.specs.Numbers.{min_z}

-- A missing edge weighs 2^40. Every assignment in range has x − y ≤ 2^40, so the weight says nothing false;
-- and no closed walk below zero uses a missing edge (`negative_real`): a few least weights do not outweigh it.
abbrev pub far_n : ℕ
far_n = 1099511627776

-- the weight of a missing edge
abbrev pub far : ℤ
far = pos far_n

-- the weights, row by row
abbrev pub Grid : Type 0
Grid = List (List ℤ)

-- the edges that start at u
abbrev pub row : Grid → ℕ → List ℤ
row g u = get_or g u []

-- the weight of the edge from u to v
abbrev pub weight : Grid → ℕ → ℕ → ℤ
weight g u v = get_or (row g u) v far

-- FORMAT 5.6: one more fact x v − x u ≤ k; of several the least counts
unfoldable pub tighten : Grid → ℕ → ℕ → ℤ → Grid
tighten g u v k = set g u (set (row g u) v (min_z (weight g u v) k))

-- no fact at all between N vertices
unfoldable pub blank : ℕ → Grid
blank N = replicate N (replicate N far)
