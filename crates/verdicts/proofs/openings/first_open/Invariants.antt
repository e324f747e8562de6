use Rattle.question.specs.Held.{asked_of, question_of}
use Rattle.page_questions.specs.Guarantees.{Accepted}
use Rattle.verdicts.proofs.Findings.{Passed}
use Rattle.verdicts.proofs.openings.first_open.Given as goal

-- The formulas before the next are shut.
abbrev pub invariant-loop-i : goal.invariant-loop-i
invariant-loop-i l = (ok : Accepted (question_of l.q)) → Passed (question_of l.q) ok (asked_of l.asked) l.i
