-- Sums of widths.
use mathlib.Core.Path.{◌≡◌}
use mathlib.Core.List.{List, [], ◌∷◌, ◌++◌}
use Prim.Native.Nat.{ℕ, zero, suc, ◌+◌, ◌≤◌, ◌<◌}
use native.Mathlib.Omega.{arith}
use native.Mathlib.Numerals.{add-one}
use lib.ListN.{length, take, get_or, set}
use lib.Seq.{take-suc, take-suc-set}
use Rattle.page_questions.specs.Layout.{total}

pub total_snoc : (ws : List ℕ) (w : ℕ) → total (ws ++ (w ∷ [])) ≡ total ws + w
unfolding total
total_snoc [] w = omega arith
total_snoc (v ∷ ws) w = omega (arith, total_snoc ws w)

pub total_more : (ws : List ℕ) (i : ℕ) → i < length ws → total (take (i + 1) ws) ≡ total (take i ws) + get_or ws i 0
total_more ws i h = rw (add-one, take-suc ws i 0 h) (total_snoc (take i ws) (get_or ws i 0))

pub total_set : (ws : List ℕ) (i w : ℕ) → i < length ws → total (take (i + 1) (set ws i w)) ≡ total (take i ws) + w
total_set ws i w h = rw (add-one, take-suc-set ws i w h) (total_snoc (take i ws) w)

-- fewer tables have no more columns
pub total_le : (ws : List ℕ) (i n : ℕ) → i ≤ n → total (take i ws) ≤ total (take n ws)
unfolding total
total_le [] zero n h = omega arith
total_le [] (suc i) zero h = omega arith
total_le [] (suc i) (suc n) h = omega arith
total_le (w ∷ ws) zero n h = omega arith
total_le (w ∷ ws) (suc i) zero h = absurd (omega arith)
total_le (w ∷ ws) (suc i) (suc n) h = omega (arith, total_le ws i n (omega arith))

-- the changed table lies inside
pub inside : (ws : List ℕ) (i n : ℕ) → i < n → i < length ws → total (take i ws) + get_or ws i 0 ≤ total (take n ws)
inside ws i n l h = omega (arith, total_more ws i h, total_le ws (i + 1) n (omega arith))
