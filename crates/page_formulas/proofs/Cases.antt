-- Instructions by kind: those with two operands (1 and, 2 or), and constants (4 true, 5 false).
use Prim.Native.Nat.{ℕ, zero, suc, ◌≤◌, ◌<◌}
use native.Mathlib.Omega.{arith}

pub joint_case : (P : ℕ → Type 0) → P 1 → P 2 → (k : ℕ) → 0 < k → k < 3 → P k
joint_case P a b zero l m = absurd (omega arith)
joint_case P a b (suc zero) l m = a
joint_case P a b (suc (suc zero)) l m = b
joint_case P a b (suc (suc (suc k))) l m = absurd (omega arith)

pub constant_case : (P : ℕ → Type 0) → P 4 → ((k : ℕ) → P (suc (suc (suc (suc (suc k)))))) → (k : ℕ) → 4 ≤ k → P k
constant_case P a b zero l = absurd (omega arith)
constant_case P a b (suc zero) l = absurd (omega arith)
constant_case P a b (suc (suc zero)) l = absurd (omega arith)
constant_case P a b (suc (suc (suc zero))) l = absurd (omega arith)
constant_case P a b (suc (suc (suc (suc zero)))) l = a
constant_case P a b (suc (suc (suc (suc (suc k))))) l = b k
