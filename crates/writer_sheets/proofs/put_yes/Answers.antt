use mathlib.Core.Path.{◌∙◌}
use Rattle.question.specs.Held.{question_of, asked_of}
use Rattle.formula.proofs.AskedAlike.{finding_alike}
use Rattle.page_sheets.specs.Sheet.{say_yes}
use Rattle.writer_sheets.proofs.Sheets.{yes_parts, header_over, header_then}
use Rattle.writer_sheets.proofs.put_yes.Goals as goal

pub returns-in_err-put_header-clause-filled : goal.returns-in_err-put_header-clause-filled
returns-in_err-put_header-clause-filled c = let q = question_of c.args.q.now in
    let a = c.args.asked in
    header_over q a say_yes _ (yes_parts q a c.requires) _ c.put_header.new.sink c.from_residual.result c.from_residual.ensures.0 c.in_err-put_header.ensures.filled

-- every formula of what is asked is shut, as those of its number are
pub put_trees-requires : goal.put_trees-requires
put_trees-requires c = (c.requires.0, finding_alike (question_of c.args.q.now) (asked_of c.from.result) c.args.asked c.from.ensures ∙ c.requires.1)

pub returns-clause-filled : goal.returns-clause-filled
returns-clause-filled c = let q = question_of c.args.q.now in
    let a = c.args.asked in
    let all = c.requires in
    header_then q a say_yes _ (yes_parts q a all) _ _ _ c.in_ok-put_header.ensures.filled (c.put_trees.ensures.filled all.0 (finding_alike q (asked_of c.from.result) a c.from.ensures ∙ all.1))
