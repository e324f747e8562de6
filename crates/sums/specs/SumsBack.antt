-- A row of least sums: what is handed on of the walks back to a vertex.
use Rattle.std.specs.Prelude.{◌≡◌, List, ℕ, ◌-◌, ◌<◌, length, get_or, ℤ, pos}
use Rattle.page_meaning.specs.Limits.{most_vertices}
use Rattle.page_walks.specs.Grid.{Grid, weight}
use Rattle.page_walks.specs.Search.{best}

-- entry v is the least sum of the walks with edges + 1 edges from v to s
pub record Back (g : Grid) (n s edges : ℕ) (row : List ℤ) : Type 0 where
  pub long : length row ≡ most_vertices
  pub sum_is : (v : ℕ) → v < n → get_or row v (pos 0) ≡ best (weight g) (n - 1) edges s v
