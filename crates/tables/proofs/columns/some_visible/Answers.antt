use Rattle.std.proofs.Common.{◌∙◌, rules}
use Rattle.std.proofs.lemmas.Iterator.{YieldsList-from_slice}
use Rattle.std.proofs.lemmas.Iterator.Search.{any_from_yields_List}
use Rattle.question.specs.declared.types.Column.{Column}
use Rattle.tables.proofs.VisibleColumns.{some_shown}
use Rattle.tables.proofs.columns.some_visible.Goals as goal

pub returns : goal.returns
returns c = any_from_yields_List (λ (x : Column). x.visible) _ _ _ c.any.ensures.ran (YieldsList-from_slice c.args.columns.now c.iter.ensures.rest) (λ x b q k. search rules) ∙ some_shown 0 c.args.columns.now
