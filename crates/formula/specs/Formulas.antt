-- A question's formulas by number.
use Rattle.std.specs.Prelude.{ℕ, List, get_or}
use Rattle.page_formulas.specs.Formulas as F
use Rattle.page_formulas.specs.Formulas.{no_formula}

abbrev pub formula_at : List F.Formula → ℕ → F.Formula
formula_at l i = get_or l i no_formula
