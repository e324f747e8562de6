use mathlib.Core.Path.{ap, ◌∙◌}
use Rattle.std.proofs.lemmas.Result.{err_from_is_err_and}
use Rattle.page_meaning.specs.Limits.{limits}
use Rattle.page_sheets.specs.Answers.{check_for, check_under}
use Rattle.answers.proofs.check.Goals as goal

pub returns-in_err-question : goal.returns-in_err-question
unfolding check_under
returns-in_err-question c =
    let p = err_from_is_err_and c.from_residual.result c.from_residual.ensures.1 in
    rw (p.1, p.2) (ap (check_for limits c.args.asked c.args.sheet.now) c.in_err-question.ensures.meaning)

pub returns : goal.returns
unfolding check_under
returns c = c.from_mark.ensures ∙ ap (check_for limits c.args.asked c.args.sheet.now) c.in_ok-question.ensures.meaning
