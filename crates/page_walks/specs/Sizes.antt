-- How large grids and their weights are, and arrays written anew, as code's contracts say it. No demand rests on it.
use Rattle.std.specs.Prelude.{ℕ, zero, suc, ◌≤◌, ◌<◌, ◌≡◌, List, length, get_or, set, ℤ, pos}
use Rattle.page_numbers.specs.Numbers.{up, dn}
use Rattle.page_walks.specs.Grid.{Grid, row, weight}

-- no fact is below −6,000,000,001: two values in range and two constants apart, and one for a denied place
abbrev pub least_weight : ℕ
least_weight = 6000000001

-- N rows of N weights
pub record Sized (N : ℕ) (g : Grid) : Type 0 where
  pub rows : length g ≡ N
  pub columns : (u : ℕ) → u < N → length (row g u) ≡ N

-- the list with its first n entries written anew: entry i is f i
unfoldable pub filled : {A : Type 0} → (ℕ → A) → ℕ → List A → List A
filled f zero l = l
filled f (suc n) l = set (filled f n l) n (f n)

-- the grid with the weights between vertices below n written anew, the others as they are
unfoldable pub tabled : (ℕ → ℕ → ℤ) → ℕ → Grid → Grid
tabled f n g = filled (λ u. filled (f u) n (row g u)) n g

-- within ±b
pub record Bounded (b : ℕ) (z : ℤ) : Type 0 where
  pub high : up z ≤ b
  pub low : dn z ≤ b

-- of a row, the entries below n are within ±b
pub record RowWithin (b n : ℕ) (l : List ℤ) : Type 0 where
  pub entry : (v : ℕ) → v < n → Bounded b (get_or l v (pos 0))

-- of a grid, the weights between vertices below n are within ±b
pub record AllWithin (b n : ℕ) (g : Grid) : Type 0 where
  pub entry : (u v : ℕ) → u < n → v < n → Bounded b (weight g u v)

-- three numbers within ±2^60 have an exact sum in 64 bits; every sum of the search is far within
abbrev pub wide : ℕ
wide = 1152921504606846976
