-- What the parts of the search hand on to each other, and what its answer stands for.
use Rattle.std.specs.Prelude.{◌≡◌, List, ℕ, suc, ◌<◌, take, ℤ, Option, Some, None}
use Rattle.std.proofs.Math.Option as page
use Rattle.cycles.specs.declared.Opening.{Opening}
use Rattle.cycles.specs.declared.walk.Cycle.{Cycle}
use Rattle.page_walks.specs.Search.{start, fewest}

-- the list that a found walk stands for
abbrev pub walk_of : Option Cycle → page.Option (List ℕ)
walk_of None = page.none
walk_of (Some c) = page.some (take c.count c.vertices)

-- the shortest negative closed walk has count vertices, and s is its first
pub record Shortest (w : ℕ → ℕ → ℤ) (n count s : ℕ) : Type 0 where
  pub some : fewest w n < suc n
  pub count_is : count ≡ suc (fewest w n)
  pub start_is : s ≡ start w n (fewest w n)

-- there is no such walk, or it is that
abbrev pub Opens : (ℕ → ℕ → ℤ) → ℕ → Option Opening → Type 0
Opens w n None = fewest w n ≡ suc n
Opens w n (Some o) = Shortest w n o.count o.start
