-- What a function of the C interface leaves on each outcome: its result, and what stands behind its pointers (include/slushtrowel.h).
use Rattle.std.specs.Prelude.{ℕ, List}
use Rattle.page_numbers.specs.Outcome.{good, refused}
use Rattle.page_sheets.specs.Sheet.{Answer, verdict_byte}
use Rattle.page_sheets.specs.Answers.{Done, Written}

-- the result, *verdict, and *place or *length_or_place
pub record Returned : Type 0 where
  pub number : ℕ
  pub verdict : ℕ
  pub place : ℕ

abbrev pub leaves : ℕ → ℕ → ℕ → Returned
leaves number verdict place = record { number = number; verdict = verdict; place = place }

-- 0 with the verdict's byte and place 0; or the refusal's number, VU_NO_VERDICT and its place
abbrev pub answer : Answer → Returned
answer (good v) = leaves 0 (verdict_byte v) 0
answer (refused n p) = leaves n 255 p

-- the same, and the room
pub record Filled : Type 0 where
  pub returned : Returned
  pub room : List ℕ

abbrev pub leaves_room : ℕ → ℕ → ℕ → List ℕ → Filled
leaves_room number verdict place room = record { returned = leaves number verdict place; room = room }

-- the same, with the sheet's length where there is one
abbrev pub writing : Written → Returned
writing (good (v, n)) = leaves 0 (verdict_byte v) n
writing (refused n p) = leaves n 255 p

abbrev pub done : Done → Filled
done d = record { returned = writing d.answer; room = d.room }
