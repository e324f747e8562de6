-- A function of the C interface returns 0 only where there is a verdict.
use Prim.Native.Nat.{ℕ, ◌≤◌}
use mathlib.Core.Path.{◌≡◌, refl, ap, subst}
use mathlib.Core.Logic.{inl, inr}
use mathlib.Core.Bool.{Bool, true, false, ◌||◌, cond}
use mathlib.Core.List.{List}
use native.Mathlib.Omega.{arith}
use lib.ListN.{length}
use lib.Dec.{eqb, leb}
use Rattle.page_meaning.specs.Limits.{limits}
use Rattle.page_numbers.specs.Outcome.{good, refused}
use Rattle.page_questions.specs.Reader.{Read, read_of}
use Rattle.page_questions.proofs.Refusals.{refused_bounds}
use Rattle.page_sheets.specs.Sheet.{Verdict, Answer, sheet_of}
use Rattle.page_sheets.specs.Answers.{Written, Done, judge, verdict_under, verdict_of, check_of, write_for, write_under, write_of}
use Rattle.page_sheets.proofs.Numbers.{Given, check_given}
use Rattle.capi.specs.Returns.{answer, writing, done}

abbrev Above : Answer → Type 0
Above (good v) = Unit {0}
Above (refused n p) = 1 ≤ n

-- a verdict is given
abbrev pub Said : Answer → Type 0
Said x = (v : Verdict) × (x ≡ good v)

said : (x : Answer) → Above x → (answer x).number ≡ 0 → Said x
said (good v) h e = (v, refl)
said (refused n p) h e = absurd (omega (arith, h, e))

-- the numbers before the sheet or the room is looked at
asked_above : {A : Type 0} (P : A → Type 0) (a : ℕ) (s : List ℕ) (f : Read → A) → ((r : Read) → ((n p : ℕ) → r ≡ refused n p → 1 ≤ n) → P (f r)) → P (f (cond (eqb a 1 || eqb a 2) (read_of s) (refused 20 0)))
asked_above P a s f k = go (eqb a 1 || eqb a 2)
  where
    code : Read → ℕ
    code (good q) = 20
    code (refused n p) = n

    go : (b : Bool) → P (f (cond b (read_of s) (refused 20 0)))
    go true = k (read_of s) (λ n p e. (refused_bounds s n p e).0)
    go false = k (refused 20 0) (λ n p e. subst (λ m. 1 ≤ m) (ap code e) (omega arith))

pub verdict_zero : (a : ℕ) (s : List ℕ) → (answer (verdict_of a s)).number ≡ 0 → Said (verdict_of a s)
unfolding verdict_under
verdict_zero a s = said (verdict_of a s) (asked_above Above a s (judge limits a) each)
  where
    each : (r : Read) → ((n p : ℕ) → r ≡ refused n p → 1 ≤ n) → Above (judge limits a r)
    each (good q) h = tt
    each (refused n p) h = h n p refl

pub check_zero : (a : ℕ) (s sheet : List ℕ) → (answer (check_of a s sheet)).number ≡ 0 → Said (check_of a s sheet)
check_zero a s sheet = said (check_of a s sheet) (each (check_of a s sheet) (check_given a s sheet))
  where
    each : (x : Answer) → ((n p : ℕ) → x ≡ refused n p → Given n) → Above x
    each (good v) h = tt
    each (refused n p) h = elim (h n p refl) [
      | inl e ↦ omega (arith, e)
      | inr (inl b) ↦ b.0
      | inr (inr b) ↦ omega (arith, b.0)
    ]

-- of a sheet written
abbrev pub WroteOne : Written → Type 0
WroteOne w = (v : Verdict) × (n : ℕ) × (w ≡ good (v, n))

abbrev AboveOne : Written → Type 0
AboveOne (good (v, n)) = Unit {0}
AboveOne (refused n p) = 1 ≤ n

wrote_one : (w : Written) → AboveOne w → (writing w).number ≡ 0 → WroteOne w
wrote_one (good (v, n)) h e = (v, n, refl)
wrote_one (refused n p) h e = absurd (omega (arith, h, e))

-- of two rooms with their answers, either
either_above : (x y : Done) → AboveOne x.answer → AboveOne y.answer → (b : Bool) → AboveOne (cond b x y).answer
either_above x y h k true = h
either_above x y h k false = k

pub write_zero : (a : ℕ) (s room : List ℕ) → (done (write_of a s room)).returned.number ≡ 0 → WroteOne (write_of a s room).answer
unfolding write_under
write_zero a s room = wrote_one (write_of a s room).answer (asked_above (λ (d : Done). AboveOne d.answer) a s (write_for limits a room) each)
  where
    each : (r : Read) → ((n p : ℕ) → r ≡ refused n p → 1 ≤ n) → AboveOne (write_for limits a room r).answer
    each (good q) h = either_above _ _ tt (omega arith) (leb (length (sheet_of q a)) (length room))
    each (refused n p) h = h n p refl
