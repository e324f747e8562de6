use Rattle.std.proofs.lemmas.Iterator.{YieldsList-from_slice}
use Rattle.std.proofs.lemmas.Iterator.Consumers.{sum_from_yields_List, fits_from_yields_list}
use native.Mathlib.Omega.{arith}
use mathlib.Core.Path.{◌∙◌}
use Rattle.tables.proofs.Totals.{total_sum}
use Rattle.tables.proofs.widths.total.Goals as goal

pub sum-requires-clause-fits : goal.sum-requires-clause-fits
sum-requires-clause-fits c = fits_from_yields_list _ _ (YieldsList-from_slice c.args.widths.now c.iter.ensures.rest) (omega (arith, total_sum c.args.widths.now))

pub returns : goal.returns
returns c = sum_from_yields_List _ _ c.sum.ensures.ran (YieldsList-from_slice c.args.widths.now c.iter.ensures.rest) ∙ total_sum c.args.widths.now
