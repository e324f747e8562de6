-- Programs worked out by computation, of the list of FORMAT 9.1.
use Prim.Native.Nat.{ℕ}
use mathlib.Core.Path.{◌≡◌, refl}
use mathlib.Core.Bool.{false}
use mathlib.Core.Option.{some}
use mathlib.Core.List.{List, [], ◌∷◌}
use lib.ListN.{get_or}
use lib.IntN.{ℤ, pos, negsuc}
use Rattle.page_meaning.specs.Condition.{Condition, compare, both, equal, at_least, constant, column}
use Rattle.page_meaning.specs.Contents.{Version, version1, version2, Question, Change, insert, modify, Mode, keep, shift, Range}
use Rattle.page_meaning.specs.Claims.{staying, claims}
use Rattle.page_formulas.specs.Program.{Instr, place, and_i, or_i, not_i, true_i, false_i}
use Rattle.page_formulas.specs.Compilation.{compile}
use Rattle.page_formulas.specs.Formulas.{first_sight, second_sight, among, after, bounded_all, differs_over, programs, formulas, no_formula}

abbrev up_to : ℕ → Range
up_to top = record { lo = pos 0; hi = pos top }

abbrev asking : Version → Change → Question
asking v ch = record {
  version = v;
  front = [];
  changed = up_to 9 ∷ up_to 30 ∷ [];
  back = (up_to 9 ∷ up_to 9 ∷ []) ∷ [];
  visible = 0 ∷ 2 ∷ [];
  condition = compare equal 0 (column 3 (pos 0)) ∷ compare at_least 1 (constant (pos 10)) ∷ both ∷ [];
  change = ch;
}

-- left − right ≤ most
abbrev at : ℕ → ℕ → ℤ → Instr
at left right most = place (record { left = left; right = right; most = most })

-- case a, insert (3,9): two constant sides give a place from 0 to 0
case_a_lem : formulas (asking version1 (insert ((pos 3 ∷ pos 9 ∷ []) ∷ []))) 1
    ≡ record { ranges = some (up_to 9) ∷ some (up_to 30) ∷ some (up_to 9) ∷ some (up_to 9) ∷ []; pairs = false; program = at 0 4 (negsuc 2) ∷ at 4 0 (pos 3) ∷ and_i ∷ at 0 0 (negsuc 0) ∷ and_i ∷ [] } ∷ []
unfolding compile after
case_a_lem = refl

-- case j, V := V−8 where V ≥ 10: the condition, then both range tests of the one column that isn't kept
abbrev where10 : Condition
where10 = compare at_least 1 (constant (pos 10)) ∷ []

abbrev less8 : List Mode
less8 = keep ∷ shift 1 (negsuc 7) ∷ []

case_j_M : (programs (asking version1 (modify where10 less8)) where10 less8).M first_sight ≡ at 0 2 (negsuc 9) ∷ at 2 0 (pos 38) ∷ and_i ∷ at 0 2 (negsuc 7) ∷ and_i ∷ []
unfolding compile bounded_all
case_j_M = refl

-- C of the second row: its hidden V and Q are vertices 6 and 8, its K is the first row's
case_j_C2 : (programs (asking version1 (modify where10 less8)) where10 less8).C (second_sight (asking version1 (modify where10 less8))) ≡ at 1 8 (pos 0) ∷ at 8 1 (pos 0) ∷ and_i ∷ at 0 6 (negsuc 9) ∷ and_i ∷ []
unfolding compile among
case_j_C2 = refl

-- in version 2, a fourth formula: the condition, C, and not the range tests
abbrev retiring : Question
retiring = asking version2 (modify where10 less8)

case_j_4 : (get_or (formulas retiring 1) 3 no_formula).program
    ≡ at 0 2 (negsuc 9) ∷ at 1 4 (pos 0) ∷ at 4 1 (pos 0) ∷ and_i ∷ at 0 2 (negsuc 9) ∷ and_i ∷ and_i
    ∷ true_i ∷ at 2 0 (pos 38) ∷ and_i ∷ at 0 2 (negsuc 7) ∷ and_i ∷ not_i ∷ and_i ∷ []
unfolding compile bounded_all
case_j_4 = refl

-- and S: not the condition, or the range tests and C(F)
case_j_S : claims (programs retiring where10 less8) (λ i. first_sight) (staying version2) false
    ≡ at 0 2 (negsuc 9) ∷ not_i
    ∷ true_i ∷ at 2 0 (pos 38) ∷ and_i ∷ at 0 2 (negsuc 7) ∷ and_i ∷ at 1 4 (pos 0) ∷ at 4 1 (pos 0) ∷ and_i ∷ at 0 2 (negsuc 17) ∷ and_i ∷ and_i ∷ or_i ∷ []
unfolding compile after bounded_all
case_j_S = refl

-- and the last formula for asked 2: of the second row, not the condition; its hidden V and Q are vertices 6 and 8. No visible column changes
case_j_last : (get_or (formulas retiring 2) 3 no_formula).program
    ≡ at 1 4 (pos 0) ∷ at 4 1 (pos 0) ∷ and_i ∷ at 0 2 (negsuc 9) ∷ and_i
    ∷ at 1 8 (pos 0) ∷ at 8 1 (pos 0) ∷ and_i ∷ at 0 6 (negsuc 9) ∷ and_i ∷ and_i
    ∷ at 0 2 (negsuc 9) ∷ at 2 0 (pos 38) ∷ and_i ∷ at 0 2 (negsuc 7) ∷ and_i ∷ and_i
    ∷ at 0 6 (negsuc 9) ∷ not_i ∷ and_i
    ∷ at 1 4 (pos 0) ∷ at 4 1 (pos 0) ∷ and_i ∷ at 0 2 (negsuc 17) ∷ and_i ∷ and_i
    ∷ false_i ∷ and_i ∷ []
unfolding compile among after bounded_all differs_over
case_j_last = refl
