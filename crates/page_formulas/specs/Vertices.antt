-- FORMAT 5.4: the vertices of a formula and their ranges. Vertex 0 is zero; a vertex of a column has the column's range.
use Rattle.std.specs.Prelude.{ℕ, zero, suc, ◌≡◌, Bool, true, false, List, [], ◌∷◌, get_or, pos, ◌≤ℤ◌}
use Rattle.std.proofs.Math.Option.{Option, none, some}
use Rattle.page_meaning.specs.Contents.{Range}
use Rattle.page_formulas.specs.Program.{Values}

-- of vertices 1, 2, ..; none at a number that the formula lacks
abbrev pub Ranges : Type 0
Ranges = List (Option Range)

abbrev pub is_some : Option Range → Bool
is_some none = false
is_some (some r) = true

abbrev pub present : Ranges → ℕ → Bool
present rs zero = true
present rs (suc v) = is_some (get_or rs v none)

-- the ranges are those of vertices v, v + 1, ..
abbrev pub Inside : Values → ℕ → Ranges → Type 0
Inside ρ v [] = Unit {0}
Inside ρ v (none ∷ rs) = Inside ρ (suc v) rs
Inside ρ v (some r ∷ rs) = (r.lo ≤ℤ ρ v) × (ρ v ≤ℤ r.hi) × Inside ρ (suc v) rs

pub record InRange (rs : Ranges) (ρ : Values) : Type 0 where
  pub at_zero : ρ 0 ≡ pos 0
  pub within : Inside ρ 1 rs
