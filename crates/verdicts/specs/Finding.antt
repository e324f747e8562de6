-- What is found of a question's formulas.
use Rattle.std.specs.Prelude.{ℕ, ◌≡◌, Option, Some, None}
use Rattle.page_meaning.specs.Contents.{Question}
use Rattle.page_formulas.specs.Formulas.{formulas}
use Rattle.page_sheets.specs.Trees.{Finding, all_shut, first_open}
use Rattle.formula.specs.Formulas.{formula_at}
use Rattle.goals.specs.Goals.{held, TrueAt}
use Rattle.verdicts.specs.declared.openings.Found.{Found}

-- no formula is open; or the first one's number
abbrev pub Finds : Finding → Option Found → Type 0
Finds (all_shut ts) None = Unit {0}
Finds (all_shut ts) (Some r) = ⊥
Finds (first_open i F x) None = ⊥
Finds (first_open i F x) (Some r) = r.number ≡ i

-- the values show it
abbrev pub Shown : Question → ℕ → Option Found → Type 0
Shown q asked None = Unit {0}
Shown q asked (Some r) = TrueAt (formula_at (formulas q asked) r.number) (held r.values)
