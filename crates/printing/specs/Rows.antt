-- The rows of a no sheet (FORMAT 6).
use Rattle.std.specs.Prelude.{ℕ, ◌-◌, ◌/◌, List, drop, length}
use Rattle.std.specs.Simd.{first_chunks}

-- its values begin at byte 8, four bytes each
abbrev pub values_of : List ℕ → List (List ℕ)
values_of s = first_chunks 4 ((length s - 8) / 4) (drop 8 s)
