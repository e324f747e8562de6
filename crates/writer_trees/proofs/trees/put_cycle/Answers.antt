use mathlib.Core.Path.{ap, ◌∙◌}
use Rattle.page_sheets.specs.Tree.{bytes_of}
use Rattle.room.specs.Room.{Filling, puts}
use Rattle.room.proofs.PutBytes.{stops}
use Rattle.writer_trees.proofs.trees.put_cycle.Goals as goal

pub returns-in_err-put_all-clause-filled : goal.returns-in_err-put_all-clause-filled
unfolding puts bytes_of
returns-in_err-put_all-clause-filled c = stops c.put_all.new.self c.from_residual.result _ c.args.walk.now c.from_residual.ensures.0 c.in_err-put_all.ensures.filled

pub returns-clause-filled : goal.returns-clause-filled
unfolding puts bytes_of
returns-clause-filled c = c.put_all-2.ensures.filled ∙ ap (λ (f : Filling). puts f c.args.walk.now) c.in_ok-put_all.ensures.filled
