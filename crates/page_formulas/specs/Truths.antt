-- What is known, set against truths.
use Rattle.std.specs.Prelude.{◌≡◌, Bool, true, false, List, [], ◌∷◌}
use Rattle.page_formulas.specs.Program.{Values, Place, test}
use Rattle.page_formulas.specs.Knowledge.{Three, fails, passes, open?}

-- the values give each decided place its decision
abbrev pub Agrees : Values → List Place → List Bool → Type 0
Agrees ρ [] ds = Unit {0}
Agrees ρ (p ∷ ps) [] = Unit {0}
Agrees ρ (p ∷ ps) (d ∷ ds) = (test ρ p ≡ d) × Agrees ρ ps ds

-- what is known is so
abbrev pub Says : Three → Bool → Type 0
Says fails b = b ≡ false
Says passes b = b ≡ true
Says open? b = Unit {0}

-- it is known
abbrev pub Sure : Three → Type 0
Sure fails = Unit {0}
Sure passes = Unit {0}
Sure open? = ⊥
