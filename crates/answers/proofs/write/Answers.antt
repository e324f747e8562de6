use mathlib.Core.Path.{ap, ◌∙◌}
use Rattle.std.proofs.lemmas.Result.{err_from_is_err_and}
use Rattle.page_meaning.specs.Limits.{limits}
use Rattle.page_sheets.specs.Answers.{write_for, write_under}
use Rattle.answers.proofs.write.Goals as goal

pub returns-in_err-read-clause-done : goal.returns-in_err-read-clause-done
unfolding write_under
returns-in_err-read-clause-done c =
    let p = err_from_is_err_and c.from_residual.result c.from_residual.ensures.1 in
    rw (p.1, p.2) (ap (write_for limits c.args.asked c.args.room.now) c.in_err-read.ensures.meaning)

pub returns-clause-done : goal.returns-clause-done
unfolding write_under
returns-clause-done c = c.finish.ensures ∙ ap (write_for limits c.args.asked c.args.room.now) c.in_ok-read.ensures.meaning
