-- What one token more does to the two counts, and the end of a condition.
use mathlib.Core.Path.{◌≡◌, refl}
use mathlib.Core.Bool.{cond}
use mathlib.Core.List.{[], ◌∷◌}
use Prim.Native.Nat.{ℕ, ◌+◌, ◌≤◌, ◌<◌}
use native.Mathlib.Omega.{arith}
use lib.Dec.{eqb}
use lib.ListN.{length}
use Rattle.page_numbers.specs.Outcome.{refused}
use Rattle.page_meaning.specs.Condition as C
use Rattle.page_questions.specs.Reader.{found, height, counted, after, finish}

pub counted_le : (n : ℕ) (t : C.Token) → counted n t ≤ n + 1
counted_le n (C.compare op i s) = omega arith
counted_le n C.both = omega arith
counted_le n C.either = omega arith
counted_le n C.negate = omega arith

pub after_le : (h : ℕ) (t : C.Token) → after h t ≤ h + 1
after_le h (C.compare op i s) = omega arith
after_le h C.both = omega arith
after_le h C.either = omega arith
after_le h C.negate = omega arith

-- a condition that has tokens leaves one truth (FORMAT 4.2)
pub finish_some : (ts : C.Condition) (p : ℕ) → 0 < length ts → finish ts p ≡ cond (eqb (height ts) 1) (found ts p) (refused 6 p)
finish_some [] p l = absurd (omega arith)
finish_some (t ∷ ts) p l = refl
