-- FORMAT 4.4, 4.5 and 8.5: the answers of the three public routines, from the bytes.
use Rattle.std.specs.Prelude.{ℕ, ◌-◌, ◌||◌, cond, List, ◌++◌, length, replicate, eqb, leb}
use Rattle.page_numbers.specs.Outcome.{Outcome, good, refused}
use Rattle.page_meaning.specs.Limits.{Limits, limits}
use Rattle.page_questions.specs.Reader.{Read, read_under}
use Rattle.page_sheets.specs.Sheet.{Verdict, Answer, verdict_for, finding_under, sheet_under, check_sheet_under}

-- of a sheet asked for: the verdict and the sheet's length
abbrev pub Written : Type 0
Written = Outcome (Verdict × ℕ)

-- the answer, and the room as it is then
pub record Done : Type 0 where
  pub answer : Written
  pub room : List ℕ

-- FORMAT 4.5: the sheet and then zeros; where it is longer than the room 21, no verdict, and zeros only
abbrev pub placed : Verdict → List ℕ → List ℕ → Done
placed v sheet room =
    cond (leb (length sheet) (length room))
    (record { answer = good (v, length sheet); room = sheet ++ replicate (length room - length sheet) 0 })
    (record { answer = refused 21 0; room = replicate (length room) 0 })

module _ (l : Limits) (a : ℕ) where
  -- FORMAT 4.4: 20 first, then the question
  abbrev pub asked_under : List ℕ → Read
  asked_under s = cond (eqb a 1 || eqb a 2) (read_under l s) (refused 20 0)

  abbrev pub judge : Read → Answer
  judge (good q) = good (verdict_for (finding_under l q a))
  judge (refused n o) = refused n o

  unfoldable pub verdict_under : List ℕ → Answer
  verdict_under s = judge (asked_under s)

  abbrev pub check_for : List ℕ → Read → Answer
  check_for sheet (good q) = check_sheet_under l q a sheet
  check_for sheet (refused n o) = refused n o

  unfoldable pub check_under : List ℕ → List ℕ → Answer
  check_under s sheet = check_for sheet (asked_under s)

  -- FORMAT 4.5: 1 to 20 leave the room as it came
  abbrev pub write_for : List ℕ → Read → Done
  write_for room (good q) = placed (verdict_for (finding_under l q a)) (sheet_under l q a) room
  write_for room (refused n o) = record { answer = refused n o; room = room }

  unfoldable pub write_under : List ℕ → List ℕ → Done
  write_under s room = write_for room (asked_under s)

abbrev pub asked_of : ℕ → List ℕ → Read
asked_of a s = asked_under limits a s

-- verdict(asked, question)
abbrev pub verdict_of : ℕ → List ℕ → Answer
verdict_of a s = verdict_under limits a s

-- check(asked, question, sheet)
abbrev pub check_of : ℕ → List ℕ → List ℕ → Answer
check_of a s sheet = check_under limits a s sheet

-- write(asked, question, room), from the room as it came
abbrev pub write_of : ℕ → List ℕ → List ℕ → Done
write_of a s room = write_under limits a s room
