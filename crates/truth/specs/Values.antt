-- Which of Kleene's values the code's stand for, alone and on a stack.
use Rattle.std.specs.Prelude.{ℕ, zero, suc, Bool, List, [], ◌∷◌, drop, get_or}
use Rattle.page_formulas.specs.Knowledge.{Three, fails, passes, open?, next}
use Rattle.truth.specs.declared.truths.Truth.{Truth}
use Rattle.truth.specs.declared.truths.Truth.TheVariants.{Fails, Open, Passes}

abbrev pub three_of : Truth → Three
three_of Fails = fails
three_of Open = open?
three_of Passes = passes

-- what place n pushes
abbrev pub decided_of : List Bool → ℕ → Three
decided_of truths n = next (drop n truths)

-- what a kind from 4 on pushes
abbrev pub constant_of : ℕ → Three
constant_of (suc (suc (suc (suc zero)))) = passes
constant_of k = fails

-- those in cells h, .., 1
abbrev pub below : List Truth → ℕ → List Three
below cells zero = []
below cells (suc h) = three_of (get_or cells (suc h) Fails) ∷ below cells h

-- h values, the top above those in cells
abbrev pub values : List Truth → Truth → ℕ → List Three
values cells top zero = []
values cells top (suc h) = three_of top ∷ below cells h
