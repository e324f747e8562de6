-- A program in postfix order as a tree: an instruction's last operand ends right before it, the one before that where the last starts.
use Rattle.std.specs.Prelude.{ℕ, zero, suc, ◌+◌, ◌-◌, Bool, true, false, not, ◌&&◌, ◌||◌, List, [], get_or, take}
use Rattle.page_formulas.specs.Program.{Values, Program, run, top}

-- what stands on top after the instruction
abbrev pub value_at : Program → Values → ℕ → Bool
value_at p x i = top (run x (take (suc i) p) [])

-- the truth that an instruction pushes, by its kind, from its place's and its operands'
abbrev pub says : ℕ → Bool → Bool → Bool → Bool
says zero t a b = t
says (suc zero) t a b = a && b
says (suc (suc zero)) t a b = a || b
says (suc (suc (suc zero))) t a b = not b
says (suc (suc (suc (suc zero)))) t a b = true
says (suc (suc (suc (suc (suc k))))) t a b = false

-- ---- how the tables are filled

-- how many instructions there are in it and its operands, from theirs
abbrev pub size_by : ℕ → ℕ → ℕ → ℕ
size_by zero a b = 1
size_by (suc zero) a b = a + b + 1
size_by (suc (suc zero)) a b = a + b + 1
size_by (suc (suc (suc zero))) a b = b + 1
size_by (suc (suc (suc (suc k)))) a b = 1

-- where the first of two operands ends
abbrev pub first_of : List ℕ → ℕ → ℕ
first_of sizes j = j - 1 - get_or sizes (j - 1) 0

abbrev pub size_of : List ℕ → List ℕ → ℕ → ℕ
size_of kinds sizes j = size_by (get_or kinds j 0) (get_or sizes (first_of sizes j) 0) (get_or sizes (j - 1) 0)

-- how many places there are with one instruction more; in all
abbrev pub counted : ℕ → ℕ → ℕ
counted zero n = n + 1
counted (suc k) n = n

unfoldable pub places_in : List ℕ → ℕ → ℕ
places_in kinds zero = 0
places_in kinds (suc n) = counted (get_or kinds n 0) (places_in kinds n)
