-- What the code asks of a grid of facts, and of a fact that enters it.
use Rattle.std.specs.Prelude.{ℕ, suc, ◌≤◌, ◌<◌, ℤ, ◌≤ℤ◌}
use Rattle.page_numbers.specs.Numbers.{up, dn}
use Rattle.page_meaning.specs.Limits.{most_vertices}
use Rattle.page_walks.specs.Grid.{Grid, weight, far, far_n}
use Rattle.page_walks.specs.Sizes.{least_weight, Sized, AllWithin}

-- a fact between vertices up to the last, with a small weight
pub record Fact (last from to : ℕ) (k : ℤ) : Type 0 where
  pub from_is : from < suc last
  pub to_is : to < suc last
  pub high : up k ≤ least_weight
  pub low : dn k ≤ least_weight

-- no weight is above a missing edge's, none below the least
pub record Kept (g : Grid) : Type 0 where
  pub sized : Sized most_vertices g
  pub ceiling : (u v : ℕ) → weight g u v ≤ℤ far
  pub floor : (u v : ℕ) → dn (weight g u v) ≤ least_weight

-- the weights between the first n vertices are so small that sums along walks are exact
pub record Summable (n : ℕ) (g : Grid) : Type 0 where
  pub some : 0 < n
  pub few : n ≤ most_vertices
  pub within : AllWithin far_n n g
