-- The closure of the ranges' facts in closed form: v is above u by no more than v's highest value and u's lowest are apart.
use Rattle.std.specs.Prelude.{ℕ, zero, suc, cond, List, Option, None, unwrap_or, eqb, get_or, ℤ, pos, ◌-ℤ◌}
use Rattle.program.specs.Meanings.{zero_range}
use Rattle.program.specs.declared.types.Range.{Range}

-- what a vertex ranges over; 0 alone at vertex 0, and where there is no vertex
abbrev pub span : List (Option Range) → ℕ → Range
span ranges zero = zero_range
span ranges (suc v) = unwrap_or (get_or ranges (suc v) None) zero_range

-- from v's highest value and u's lowest
abbrev pub apart : ℤ → ℤ → ℕ → ℕ → ℤ
apart high low u v = cond (eqb u v) (pos 0) (high -ℤ low)

abbrev pub spread : List (Option Range) → ℕ → ℕ → ℤ
spread ranges u v = apart (span ranges v).hi (span ranges u).lo u v
