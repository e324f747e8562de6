use Rattle.std.proofs.Common.{◌≡◌, ◌≤◌, length}
use Rattle.page_meaning.specs.Limits.{most_vertices}
use Rattle.page_formulas.specs.Formulas.{formulas}
use Rattle.page_sheets.specs.Sheet.{check_yes}
use Rattle.question.specs.Held.{question_of, asked_of}
use Rattle.checker_yes.proofs.TreeRun.{left}
use Rattle.checker_yes.proofs.yes_sheet.Given as goal

-- The trees of the formulas before the next hold; what the rest comes to is what the whole does.
abbrev pub invariant-loop-i : goal.invariant-loop-i
invariant-loop-i l = (l.at ≤ length l.sheet) × left (formulas (question_of l.q) (asked_of l.asked)) l.sheet l.i l.at ≡ check_yes most_vertices (formulas (question_of l.q) (asked_of l.asked)) l.sheet
