-- Every part of a formula pushes one value, whatever stands below it.
use Prim.Native.Nat.{ℕ, zero, suc, ◌+◌, ◌-◌}
use mathlib.Core.Path.{◌≡◌, refl}
use mathlib.Core.Bool.{Bool, true, false, cond}
use mathlib.Core.List.{List, [], ◌∷◌, ◌++◌}
use native.Mathlib.Omega.{arith}
use lib.Dec.{T}
use Rattle.page_meaning.specs.Condition.{Op, less, at_most, equal, at_least, more, unequal, compare, both, either, negate, Condition}
use Rattle.page_meaning.specs.Contents.{Table, Mode, keep, become, shift}
use Rattle.page_meaning.specs.Claims.{kept}
use Rattle.page_questions.specs.Guarantees.{leaves_one, ConditionOk}
use Rattle.page_formulas.specs.Program.{Program, Instr, Term, or_i, true_i, false_i}
use Rattle.page_formulas.specs.Kinds.{kind_of, kinds_of}
use Rattle.page_formulas.specs.Compilation.{Sight, comparison, constant_term, plus, side_term, compile}
use Rattle.page_formulas.specs.Parts.{joined, denied, condition_program}
use Rattle.page_formulas.specs.Formulas.{bounded, bounded_all, differs_new, differs_over}
use Rattle.page_formulas.specs.Form.{arity, Rises}

-- from h values to g
abbrev Lifts : ℕ → Program → ℕ → Type 0
Lifts h p g = Rises h (kinds_of p) g

-- one value more
pub record Pushes (p : Program) : Type 0 where
  pub on : (h : ℕ) → Lifts h p (suc h)

-- a part that joins something to the value on top
pub record Keeps (p : Program) : Type 0 where
  pub on : (h : ℕ) → Lifts (suc h) p (suc h)

lifts_then : (h k g : ℕ) (p r : Program) → Lifts h p k → Lifts k r g → Lifts h (p ++ r) g
unfolding Rises kinds_of
lifts_then h k g [] r x y = rw x y
lifts_then h k g (i ∷ p) r x y = (x.0, lifts_then (suc (h - arity (kind_of i))) k g p r x.1 y)

pub pushes_joined : (i : Instr) → arity (kind_of i) ≡ 2 → {p r : Program} → Pushes p → Pushes r → Pushes (joined i p r)
unfolding Rises kinds_of
pushes_joined i e {p} {r} x y = record { on = λ h. lifts_then h (suc h) (suc h) p _ (x.on h) (lifts_then (suc h) (suc (suc h)) (suc h) r _ (y.on (suc h)) (omega arith, omega arith)) }

pub pushes_not : {p : Program} → Pushes p → Pushes (denied p)
unfolding Rises kinds_of
pushes_not {p} x = record { on = λ h. lifts_then h (suc h) (suc h) p _ (x.on h) (omega arith, omega arith) }

pub pushes_true : Pushes (true_i ∷ [])
unfolding Rises kinds_of
pushes_true = record { on = λ h. (omega arith, omega arith) }

pub pushes_more : {p r : Program} → Pushes p → Keeps r → Pushes (p ++ r)
pushes_more {p} {r} x y = record { on = λ h. lifts_then h (suc h) (suc h) p r (x.on h) (y.on h) }

comparison_pushes : (op : Op) (l r : Term) (h : ℕ) → Lifts h (comparison op l r) (suc h)
unfolding Rises kinds_of
comparison_pushes less l r h = (omega arith, omega arith)
comparison_pushes at_most l r h = (omega arith, omega arith)
comparison_pushes equal l r h = (omega arith, (omega arith, (omega arith, omega arith)))
comparison_pushes at_least l r h = (omega arith, omega arith)
comparison_pushes more l r h = (omega arith, omega arith)
comparison_pushes unequal l r h = (omega arith, (omega arith, (omega arith, (omega arith, omega arith))))

-- in the end one truth is left (FORMAT 2.1)
compile_lifts : (σ : Sight) (c : Condition) (a h k : ℕ) → k ≡ a + h → T (leaves_one a c) → Lifts k (compile σ c) (suc h)
unfolding Rises kinds_of compile leaves_one
compile_lifts σ [] zero h k e t = absurd t
compile_lifts σ [] (suc zero) h k e t = omega arith
compile_lifts σ [] (suc (suc a)) h k e t = absurd t
compile_lifts σ (compare op i s ∷ c) a h k e t = lifts_then k (suc k) (suc h) (comparison op (σ i) (side_term σ s)) (compile σ c) (comparison_pushes op (σ i) (side_term σ s) k) (compile_lifts σ c (suc a) h (suc k) (omega arith) t)
compile_lifts σ (both ∷ c) zero h k e t = absurd t
compile_lifts σ (both ∷ c) (suc zero) h k e t = absurd t
compile_lifts σ (both ∷ c) (suc (suc a)) h k e t = (omega arith, compile_lifts σ c (suc a) h (suc (k - 2)) (omega arith) t)
compile_lifts σ (either ∷ c) zero h k e t = absurd t
compile_lifts σ (either ∷ c) (suc zero) h k e t = absurd t
compile_lifts σ (either ∷ c) (suc (suc a)) h k e t = (omega arith, compile_lifts σ c (suc a) h (suc (k - 2)) (omega arith) t)
compile_lifts σ (negate ∷ c) zero h k e t = absurd t
compile_lifts σ (negate ∷ c) (suc a) h k e t = (omega arith, compile_lifts σ c (suc a) h (suc (k - 1)) (omega arith) t)

pub condition_pushes : (σ : Sight) (c : Condition) → ConditionOk c → Pushes (condition_program σ c)
unfolding Rises kinds_of
condition_pushes σ [] o = pushes_true
condition_pushes σ (t ∷ ts) o = record { on = λ h. compile_lifts σ (t ∷ ts) 0 h h (omega arith) o.shaped }

-- ---- range tests and comparisons of rows, each joined to what stands before it

bounded_lifts : (σ : Sight) (h : ℕ) (gs : Table) (ms : List Mode) → Lifts (suc h) (bounded_all σ gs ms) (suc h)
unfolding Rises kinds_of bounded_all
bounded_lifts σ h [] ms = refl
bounded_lifts σ h (g ∷ gs) [] = refl
bounded_lifts σ h (g ∷ gs) (keep ∷ ms) = bounded_lifts σ h gs ms
bounded_lifts σ h (g ∷ gs) (become k ∷ ms) = lifts_then (suc h) (suc h) (suc h) (bounded (constant_term k) g) (bounded_all σ gs ms) (omega arith, (omega arith, (omega arith, (omega arith, omega arith)))) (bounded_lifts σ h gs ms)
bounded_lifts σ h (g ∷ gs) (shift j k ∷ ms) = lifts_then (suc h) (suc h) (suc h) (bounded (plus (σ j) k) g) (bounded_all σ gs ms) (omega arith, (omega arith, (omega arith, (omega arith, omega arith)))) (bounded_lifts σ h gs ms)

pub keeps_bounded : (σ : Sight) (gs : Table) (ms : List Mode) → Keeps (bounded_all σ gs ms)
keeps_bounded σ gs ms = record { on = λ h. bounded_lifts σ h gs ms }

differs_lifts : (a b : Term) (h : ℕ) (k : Bool) → Lifts (suc h) (cond k [] (comparison unequal a b ++ (or_i ∷ []))) (suc h)
unfolding Rises kinds_of
differs_lifts a b h true = refl
differs_lifts a b h false = (omega arith, (omega arith, (omega arith, (omega arith, (omega arith, omega arith)))))

over_lifts : (mode : ℕ → Mode) (σ τ : Sight) (h : ℕ) (is : List ℕ) → Lifts (suc h) (differs_over mode σ τ is) (suc h)
unfolding Rises kinds_of differs_over
over_lifts mode σ τ h [] = refl
over_lifts mode σ τ h (i ∷ is) = lifts_then (suc h) (suc h) (suc h) (differs_new (mode i) (σ i) (τ i)) (differs_over mode σ τ is) (differs_lifts (σ i) (τ i) h (kept (mode i))) (over_lifts mode σ τ h is)

-- false if no column may differ
pub pushes_differs : (mode : ℕ → Mode) (σ τ : Sight) (is : List ℕ) → Pushes (false_i ∷ differs_over mode σ τ is)
unfolding Rises kinds_of
pushes_differs mode σ τ is = record { on = λ h. lifts_then h (suc h) (suc h) (false_i ∷ []) (differs_over mode σ τ is) (omega arith, omega arith) (over_lifts mode σ τ h is) }
