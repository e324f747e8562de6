-- The stack of a well-formed program as a chain of instructions: each value is an instruction's, and its operands start where the value under it ends.
use Prim.Native.Nat.{ℕ, zero, suc, ◌+◌, ◌-◌, ◌≤◌, ◌<◌}
use mathlib.Core.Path.{◌≡◌, sym, ap, subst}
use mathlib.Core.Bool.{Bool}
use mathlib.Core.List.{List, [], ◌∷◌}
use native.Mathlib.Omega.{arith}
use lib.ListN.{get_or}

module _ (sizes : List ℕ) where
  abbrev pub size : ℕ → ℕ
  size j = get_or sizes j 0

  -- h values, the top one instruction i - 1's
  abbrev pub Chain : ℕ → ℕ → Type 0
  Chain zero zero = Unit {0}
  Chain (suc i) zero = ⊥
  Chain zero (suc h) = ⊥
  Chain (suc i) (suc h) = (0 < size i) × (size i ≤ suc i) × Chain (suc i - size i) h

  abbrev pub stack : (ℕ → Bool) → ℕ → ℕ → List Bool
  stack v i zero = []
  stack v zero (suc h) = []
  stack v (suc i) (suc h) = v i ∷ stack v (suc i - size i) h

  -- the top one, and where the others end
  pub record Top (i h : ℕ) : Type 0 where
    pub rest : ℕ
    pub chain : Chain rest h
    pub some : 0 < i
    pub positive : 0 < size (i - 1)
    pub sum : i ≡ rest + size (i - 1)
    pub stacked : (v : ℕ → Bool) → stack v i (suc h) ≡ v (i - 1) ∷ stack v rest h

  pub the_top : (i h : ℕ) → Chain i (suc h) → Top i h
  the_top zero h c = absurd c
  the_top (suc j) h c =
      let d : suc j - 1 ≡ j = omega arith in let z : size (suc j - 1) ≡ size j = ap size d in
      record { rest = suc j - size j; chain = c.2; some = omega arith; positive = omega (arith, z, c.0); sum = omega (arith, z, c.1); stacked = λ v. ap (λ m. v m ∷ stack v (suc j - size j) h) (sym d) }

  -- one more on top
  pub on_top : (i r h : ℕ) → 0 < size i → suc i ≡ r + size i → Chain r h → Chain (suc i) (suc h)
  on_top i r h z e c = (z, omega arith, subst (λ m. Chain m h) (omega arith) c)

  pub on_stack : (v : ℕ → Bool) (i r h : ℕ) → suc i ≡ r + size i → stack v (suc i) (suc h) ≡ v i ∷ stack v r h
  on_stack v i r h e = ap (λ m. v i ∷ stack v m h) (omega arith)
