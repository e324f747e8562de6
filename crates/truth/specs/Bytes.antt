-- Bytes for decisions.
use Rattle.std.specs.Prelude.{ℕ, zero, suc, Bool, true, false}

-- a decision: 0 false, else true
abbrev pub bit : ℕ → Bool
bit zero = false
bit (suc n) = true
