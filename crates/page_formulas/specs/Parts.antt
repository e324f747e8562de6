-- Parts of a formula, each a program that pushes one truth, and how they are joined: a part is appended, then the instruction that joins it.
use Rattle.std.specs.Prelude.{[], ◌∷◌, ◌++◌}
use Rattle.page_meaning.specs.Condition.{Condition}
use Rattle.page_formulas.specs.Program.{Program, Instr, not_i, true_i}
use Rattle.page_formulas.specs.Compilation.{Sight, compile}

-- by and, or by or
abbrev pub joined : Instr → Program → Program → Program
joined i p r = p ++ (r ++ (i ∷ []))

abbrev pub denied : Program → Program
denied p = p ++ (not_i ∷ [])

-- without tokens it is true (FORMAT 2.1)
abbrev pub condition_program : Sight → Condition → Program
condition_program σ [] = true_i ∷ []
condition_program σ (t ∷ ts) = compile σ (t ∷ ts)
