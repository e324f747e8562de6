-- Tests as facts.
use mathlib.Core.Path.{◌≡◌}
use mathlib.Core.Logic.{◌⊎◌, inl, inr, ◌≢◌}
use mathlib.Core.Bool.{Bool, true, false, not, ◌&&◌, ◌||◌}
use lib.IntN.{ℤ}
use lib.Signed.{le_z}
use lib.Dec.{T, T_not}
use native.Mathlib.Omega.{arith}
use Rattle.page_numbers.proofs.Bridge.{from_le_z, to_le_z, eq_in, eq_out}
use Rattle.page_meaning.specs.Condition.{holds, unequal}

pub and_l : (a b : Bool) → T (a && b) → T a
and_l true b t = tt
and_l false b t = t

pub and_r : (a b : Bool) → T (a && b) → T b
and_r true b t = t
and_r false b t = absurd t

pub and_in : (a b : Bool) → T a → T b → T (a && b)
and_in true b s t = t
and_in false b s t = s

pub or_cases : (a b : Bool) → T (a || b) → T a ⊎ T b
or_cases true b t = inl t
or_cases false b t = inr t

pub or_l : (a b : Bool) → T a → T (a || b)
or_l true b t = tt
or_l false b t = absurd t

pub or_r : (a b : Bool) → T b → T (a || b)
or_r true b t = tt
or_r false b t = t

pub test : (b : Bool) → T b ⊎ T (not b)
test true = inl tt
test false = inr tt

-- what a conjunction says, part by part
pub ruleset parts = (and_l, and_r)

-- ---- the test of two numbers

pub not_unequal : (a b : ℤ) → ¬ T (holds unequal a b) → a ≡ b
not_unequal a b f = elim (test (le_z a b && le_z b a)) [ inl t ↦ eq_in a b (omega (arith, from_le_z a b (search parts), from_le_z b a (search parts))) | inr t ↦ absurd (f t) ]

pub unequal_not : (a b : ℤ) → T (holds unequal a b) → a ≢ b
unequal_not a b t e = T_not (le_z a b && le_z b a) t (and_in (le_z a b) (le_z b a) (to_le_z a b (omega (arith, eq_out e))) (to_le_z b a (omega (arith, eq_out e))))
