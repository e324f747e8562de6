use mathlib.Core.Path.{sym, ap, ◌∙◌}
use mathlib.Core.Option.{none, some}
use mathlib.Core.List.{◌++◌, map}
use lib.ListN.{get_or, replicate}
use Rattle.inserted.proofs.FixedValues.{fixed_insert, fixed_none, fixed_other}
use Rattle.inserted.proofs.fixed_at.Goals as goal

pub returns-then-count-i : goal.returns-then-count-i
returns-then-count-i c = λ v cs d l. fixed_none v c.args.shape.now cs d c.args.change.now c.requires.0 l c.args.i c.args.c c.in-Insert.is c.if-count-i.true

pub returns-else-count-i : goal.returns-else-count-i
returns-else-count-i c = λ v cs d l.
    let h = c.args.shape.now in
    c.row_value.ensures
    ∙ ap (λ l. get_or (replicate h.first none ++ map some l) c.args.c none) (c.row_at-row.ensures h.width)
    ∙ sym (fixed_insert v h cs d c.args.change.now c.requires.0 l c.args.i c.args.c c.in-Insert.is)

pub returns-in-Delete : goal.returns-in-Delete
returns-in-Delete c = λ v cs d l. fixed_other v c.args.shape.now cs d c.args.change.now c.requires.0 l c.args.i c.args.c c.in-Delete.is
