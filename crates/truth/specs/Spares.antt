-- The cells of an array of truths: those so far, then false.
use Rattle.std.specs.Prelude.{◌-◌, ◌++◌, Bool, false, List, length, replicate}
use Rattle.page_meaning.specs.Limits.{most_decisions}

abbrev pub padded : List Bool → List Bool
padded ts = ts ++ replicate (most_decisions - length ts) false
