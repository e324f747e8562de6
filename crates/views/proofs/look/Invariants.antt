use Rattle.std.proofs.Common.{◌≡◌, length}
use Rattle.page_formulas.specs.Costs.{most_instructions}
use Rattle.views.specs.Views.{Sees}
use Rattle.views.proofs.look.Given as goal

abbrev pub invariant-loop-i : goal.invariant-loop-i
invariant-loop-i l = Sees l.tree l.near.rows l.i l.seen × (length l.seen ≡ most_instructions)
