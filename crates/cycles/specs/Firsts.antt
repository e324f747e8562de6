-- The first that passes a test, if there is one.
use Rattle.std.specs.Prelude.{◌≡◌, Bool, ℕ, ◌<◌, Option, Some, None}
use Rattle.page_walks.specs.Search.{first}

abbrev pub FirstIs : (ℕ → Bool) → ℕ → Option ℕ → Type 0
FirstIs f n None = n ≡ first f n
FirstIs f n (Some i) = (i < n) × (i ≡ first f n)
