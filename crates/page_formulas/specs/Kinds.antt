-- A program as code keeps it: instructions by their numbers, places apart. No demand rests on it.
use Rattle.std.specs.Prelude.{ℕ, zero, suc, Bool, List, [], ◌∷◌, pos}
use Rattle.page_formulas.specs.Program.{Place, Instr, place, and_i, or_i, not_i, true_i, false_i, Program, two, one}
use Rattle.page_formulas.specs.Knowledge.{Three, fails, passes, and3, or3, not3, next, later, top3}

-- which instruction it is, by a number: all that the three-valued run needs to know of it
abbrev pub kind_of : Instr → ℕ
kind_of (place p) = 0
kind_of and_i = 1
kind_of or_i = 2
kind_of not_i = 3
kind_of true_i = 4
kind_of false_i = 5

unfoldable pub kinds_of : Program → List ℕ
kinds_of [] = []
kinds_of (i ∷ is) = kind_of i ∷ kinds_of is

-- past the end of a list of places
abbrev pub nowhere : Place
nowhere = record { left = 0; right = 0; most = pos 0 }

-- ---- the three-valued run over the kinds alone

abbrev pub kind_step : ℕ → List Bool → List Three → List Three
kind_step zero ds st = next ds ∷ st
kind_step (suc zero) ds st = two and3 st
kind_step (suc (suc zero)) ds st = two or3 st
kind_step (suc (suc (suc zero))) ds st = one not3 st
kind_step (suc (suc (suc (suc zero)))) ds st = passes ∷ st
kind_step (suc (suc (suc (suc (suc k))))) ds st = fails ∷ st

abbrev pub kind_later : ℕ → List Bool → List Bool
kind_later zero ds = later ds
kind_later (suc k) ds = ds

unfoldable pub run_kinds : List Bool → List ℕ → List Three → List Three
run_kinds ds [] st = st
run_kinds ds (k ∷ ks) st = run_kinds (kind_later k ds) ks (kind_step k ds st)

abbrev pub known_kinds : List ℕ → List Bool → Three
known_kinds ks ds = top3 (run_kinds ds ks [])
