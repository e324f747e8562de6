-- The answer as the pages write it.
use Rattle.std.specs.Prelude.{Option, None, Some, ℤ}
use Rattle.std.proofs.Math.Option as page

abbrev pub option_of : Option ℤ → page.Option ℤ
option_of None = page.none
option_of (Some z) = page.some z
