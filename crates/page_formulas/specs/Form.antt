-- Well-formed programs: no instruction lacks an operand, and one value is left.
use Rattle.std.specs.Prelude.{ℕ, zero, suc, ◌-◌, ◌≤◌, ◌≡◌, List, [], ◌∷◌}
use Rattle.page_formulas.specs.Program.{Program}
use Rattle.page_formulas.specs.Kinds.{kinds_of}

-- how many values an instruction takes from the stack, by its kind; it leaves one
abbrev pub arity : ℕ → ℕ
arity zero = 0
arity (suc zero) = 2
arity (suc (suc zero)) = 2
arity (suc (suc (suc zero))) = 1
arity (suc (suc (suc (suc k)))) = 0

-- instructions of these kinds find their operands where h values are on the stack, and leave g
unfoldable pub Rises : ℕ → List ℕ → ℕ → Type 0
Rises h [] g = h ≡ g
Rises h (k ∷ ks) g = (arity k ≤ h) × Rises (suc (h - arity k)) ks g

abbrev pub Formed : Program → Type 0
Formed p = Rises 0 (kinds_of p) 1
