use mathlib.Core.Path.{ap, ◌∙◌}
use Rattle.std.proofs.lemmas.Result.{err_from_is_err_and}
use Rattle.page_numbers.specs.Outcome.{good}
use Rattle.page_meaning.specs.Limits.{limits}
use Rattle.page_sheets.specs.Answers.{judge, verdict_under}
use Rattle.answers.proofs.verdict.Goals as goal

pub returns-in_err-question : goal.returns-in_err-question
unfolding verdict_under
returns-in_err-question c =
    let p = err_from_is_err_and c.from_residual.result c.from_residual.ensures.1 in
    rw (p.1, p.2) (ap (judge limits c.args.asked) c.in_err-question.ensures.meaning)

pub returns : goal.returns
unfolding verdict_under
returns c = ap good c.judge.ensures ∙ ap (judge limits c.args.asked) c.in_ok-question.ensures.meaning
