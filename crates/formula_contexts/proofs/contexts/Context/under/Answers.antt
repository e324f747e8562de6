use Rattle.std.proofs.Common.{refl, arith}
use Rattle.formula_contexts.proofs.Grounds.{grounds_done}
use Rattle.formula_contexts.proofs.contexts.Context.under.Goals as goal

pub returns : goal.returns
returns c = λ v ch.
    let r = c.requires in
    grounds_done v c.args.shape.now c.args.columns.now c.args.listed.now ch r.list.0 (omega arith) r.list.2 _ refl refl refl r.change.0 refl r.change.1 r.change.2
