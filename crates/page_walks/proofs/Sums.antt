-- Bounds of sums, and that a bounded number is exact in 64 bits.
use Prim.Native.Nat.{ℕ, ◌+◌, ◌≤◌}
use native.Mathlib.Omega.{arith}
use lib.IntN.{ℤ, ◌+ℤ◌}
use mir.Syntax.{w64}
use mir.Val.{SFits}
use Rattle.page_numbers.proofs.Bridge.{+up, +dn}
use Rattle.page_numbers.proofs.Machine.{machine}
use Rattle.page_walks.specs.Sizes.{Bounded, wide}

pub bounded_more : (x y : ℕ) (a : ℤ) → x ≤ y → Bounded x a → Bounded y a
bounded_more x y a h p = record { high = omega arith; low = omega arith }

pub bounded_plus : (x y : ℕ) (a b : ℤ) → Bounded x a → Bounded y b → Bounded (x + y) (a +ℤ b)
bounded_plus x y a b p q = record { high = omega (arith, +up a b); low = omega (arith, +dn a b) }

-- a number within ±wide, and the sum of two or three
exact : (b : ℕ) (z : ℤ) → b ≤ wide + wide + wide → Bounded b z → SFits w64 z
exact b z h p = omega (arith, machine)

pub exact_wide : (z : ℤ) → Bounded wide z → SFits w64 z
exact_wide z p = exact wide z (omega arith) p

pub exact_two : (a b : ℤ) → Bounded wide a → Bounded wide b → SFits w64 (a +ℤ b)
exact_two a b p q = exact (wide + wide) (a +ℤ b) (omega arith) (bounded_plus wide wide a b p q)

pub exact_three : (a b d : ℤ) → Bounded wide a → Bounded wide b → Bounded wide d → SFits w64 ((a +ℤ b) +ℤ d)
exact_three a b d p q r = exact (wide + wide + wide) ((a +ℤ b) +ℤ d) (omega arith) (bounded_plus (wide + wide) wide (a +ℤ b) d (bounded_plus wide wide a b p q) r)
