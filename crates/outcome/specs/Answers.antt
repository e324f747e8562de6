-- What each result means in the pages' words (FORMAT 4.4, 4.5).
use Rattle.std.specs.Prelude.{ℕ, List, Result}
use Rattle.outcome.specs.declared.Verdict.{Verdict}
use Rattle.outcome.specs.declared.Verdict.TheVariants.{Yes, No}
use Rattle.outcome.specs.declared.Sheet.{Sheet}
use Rattle.page_sheets.specs.Sheet.{say_yes, say_no, Answer}
use Rattle.page_sheets.specs.Sheet as sheet
use Rattle.page_sheets.specs.Answers.{Written, Done}
use Rattle.refusal.specs.Outcomes.{outcome_of}
use Rattle.refusal.specs.declared.Refusal.{Refusal}

abbrev pub verdict_of : Verdict → sheet.Verdict
verdict_of Yes = say_yes
verdict_of No = say_no

-- of a verdict asked for, or a sheet checked
abbrev pub judged_of : Result Verdict Refusal → Answer
judged_of r = outcome_of verdict_of r

-- of a sheet asked for
abbrev pub written_of : Result Sheet Refusal → Written
written_of r = outcome_of (λ s. (verdict_of s.verdict, s.length)) r

-- and the room as it is then
abbrev pub done_of : Result Sheet Refusal → List ℕ → Done
done_of r room = record { answer = written_of r; room = room }
