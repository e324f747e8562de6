-- A whole number as the difference of two natural ones, and the lesser of two.
use Rattle.std.specs.Prelude.{ℕ, suc, cond, ℤ, pos, negsuc}
use Rattle.std.specs.Int.Signed.{lt_z}

-- how far it is above zero, and how far below: one of them is 0
abbrev pub up : ℤ → ℕ
up (pos n) = n
up (negsuc n) = 0

abbrev pub dn : ℤ → ℕ
dn (pos n) = 0
dn (negsuc n) = suc n

-- the least of two
unfoldable pub min_z : ℤ → ℤ → ℤ
min_z a b = cond (lt_z b a) b a
