-- FORMAT 4.1: what every routine hands back, a value or a refusal.
use Rattle.std.specs.Prelude.{ℕ}

-- what was asked for; or the number that says no, and its place
pub data Outcome (A : Type 0) : Type 0 where
  good : A → Outcome A
  refused : ℕ → ℕ → Outcome A
