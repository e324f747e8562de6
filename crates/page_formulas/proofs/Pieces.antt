-- Parts push one truth each, and joined parts the joined truth.
use Prim.Native.Nat.{ℕ}
use mathlib.Core.Path.{◌≡◌, refl, sym, ap, ◌∙◌}
use mathlib.Core.Bool.{Bool, not, ◌&&◌, ◌||◌}
use mathlib.Core.List.{List, [], ◌∷◌, ◌++◌}
use lib.ListN.{length}
use lib.Dec.{T}
use lib.IntN.{pos}
use Rattle.page_meaning.specs.Condition.{compare, both, either, negate, Condition, Row, holds, side_of}
use Rattle.page_meaning.specs.Condition as C
use Rattle.page_meaning.specs.WellFormed.{Uses}
use Rattle.page_questions.specs.Guarantees.{leaves_one, Shaped}
use Rattle.page_formulas.specs.Program.{Values, and_i, or_i, not_i, Program, run, top, truth}
use Rattle.page_formulas.specs.Compilation.{Sight}
use Rattle.page_formulas.specs.Parts.{joined, denied, condition_program}
use Rattle.page_formulas.proofs.Compilation.{run_append, Sees, compile_is}

pub record Pushes (ρ : Values) (p : Program) (b : Bool) : Type 0 where
  pub runs : (st : List Bool) → run ρ p st ≡ b ∷ st

module _ (ρ : Values) where
  pub pushes_truth : {p : Program} {b : Bool} → Pushes ρ p b → truth ρ p ≡ b
  pushes_truth p = ap top (p.runs [])

  -- two parts, then what joins them
  two_run : (p r e : Program) {a b : Bool} → Pushes ρ p a → Pushes ρ r b → (st : List Bool) → run ρ (p ++ (r ++ e)) st ≡ run ρ e (b ∷ (a ∷ st))
  two_run p r e {a} x y st = run_append ρ p (r ++ e) st ∙ ap (run ρ (r ++ e)) (x.runs st) ∙ run_append ρ r e (a ∷ st) ∙ ap (run ρ e) (y.runs (a ∷ st))

  pub pushes_and : {p r : Program} {a b : Bool} → Pushes ρ p a → Pushes ρ r b → Pushes ρ (joined and_i p r) (a && b)
  unfolding run
  pushes_and {p} {r} x y = record { runs = two_run p r (and_i ∷ []) x y }

  pub pushes_or : {p r : Program} {a b : Bool} → Pushes ρ p a → Pushes ρ r b → Pushes ρ (joined or_i p r) (a || b)
  unfolding run
  pushes_or {p} {r} x y = record { runs = two_run p r (or_i ∷ []) x y }

  pub pushes_not : {p : Program} {a : Bool} → Pushes ρ p a → Pushes ρ (denied p) (not a)
  unfolding run
  pushes_not {p} x = record { runs = λ st. run_append ρ p (not_i ∷ []) st ∙ ap (run ρ (not_i ∷ [])) (x.runs st) }

-- it leaves what lies under it alone
frame : (r : Row) (c : Condition) (st under : List Bool) → T (leaves_one (length st) c) → (b : Bool) × (C.run r c st ≡ b ∷ []) × (C.run r c (st ++ under) ≡ b ∷ under)
unfolding leaves_one C.run
frame r [] [] under w = absurd w
frame r [] (a ∷ []) under w = (a, refl, refl)
frame r [] (b ∷ (a ∷ st)) under w = absurd w
frame r (compare op i s ∷ ts) st under w = frame r ts (holds op (r i) (side_of s r) ∷ st) under w
frame r (both ∷ ts) [] under w = absurd w
frame r (both ∷ ts) (a ∷ []) under w = absurd w
frame r (both ∷ ts) (b ∷ (a ∷ st)) under w = frame r ts ((a && b) ∷ st) under w
frame r (either ∷ ts) [] under w = absurd w
frame r (either ∷ ts) (a ∷ []) under w = absurd w
frame r (either ∷ ts) (b ∷ (a ∷ st)) under w = frame r ts ((a || b) ∷ st) under w
frame r (negate ∷ ts) [] under w = absurd w
frame r (negate ∷ ts) (a ∷ st) under w = frame r ts (not a ∷ st) under w

pub pushes_condition : (P : ℕ → Type 0) (ρ : Values) → ρ 0 ≡ pos 0 → (σ : Sight) (r : Row) → Sees P ρ σ r → (c : Condition) → Uses P c → Shaped c → Pushes ρ (condition_program σ c) (C.meets c r)
unfolding run C.run C.meets
pushes_condition P ρ z σ r sees [] u w = record { runs = λ st. refl }
pushes_condition P ρ z σ r sees (t ∷ ts) u w = record { runs = λ st. compile_is P ρ z σ r sees (t ∷ ts) u st ∙ whole st }
  where
    whole : (st : List Bool) → C.run r (t ∷ ts) st ≡ C.meets (t ∷ ts) r ∷ st
    whole st = let f = frame r (t ∷ ts) [] st w in f.2 ∙ ap (λ b. b ∷ st) (sym (ap C.top f.1))
