-- Comparisons and conditions as programs mean what they say: one law over the operator and the vertices.
use Prim.Native.Nat.{ℕ, ◌+◌}
use mathlib.Core.Path.{◌≡◌, refl, ap, ap₂, ◌∙◌}
use mathlib.Core.Bool.{Bool, true, false, not, ◌&&◌}
use mathlib.Core.List.{List, [], ◌∷◌, ◌++◌}
use native.Mathlib.Omega.{arith}
use lib.Dec.{T}
use lib.IntN.{ℤ, pos, negsuc, ◌+ℤ◌, ◌-ℤ◌, neg_ℤ}
use lib.Signed.{le_z, lt_z}
use Rattle.page_numbers.specs.Numbers.{up, dn}
use Rattle.page_numbers.proofs.Bridge.{ints, +law, neg_up, neg_dn, from_le_z, to_le_z, from_lt_z, to_lt_z}
use Rattle.page_meaning.specs.Condition.{Op, less, at_most, equal, at_least, more, unequal, Side, constant, column, Token, compare, both, either, negate, Condition, Row, holds, side_of}
use Rattle.page_meaning.specs.Condition as C
use Rattle.page_meaning.specs.WellFormed.{SideUses, TokenUses, Uses}
use Rattle.page_formulas.specs.Program.{Values, Term, value, test, Program, run}
use Rattle.page_formulas.specs.Compilation.{Sight, at_most_place, below_place, comparison, constant_term, plus, side_term, token, compile}

pub run_append : (ρ : Values) (p r : Program) (st : List Bool) → run ρ (p ++ r) st ≡ run ρ r (run ρ p st)
unfolding run
run_append ρ [] r st = refl
run_append ρ (i ∷ p) r st = run_append ρ p r (run ρ (i ∷ []) st)

same : (b c : Bool) → (T b → T c) → (T c → T b) → b ≡ c
same true true f g = refl
same true false f g = absurd (f tt)
same false true f g = absurd (g tt)
same false false f g = refl

-- tests of equal differences agree
le_le : (a b c d : ℤ) → up c + dn d + (up b + dn a) ≡ up d + dn c + (up a + dn b) → le_z a b ≡ le_z c d
le_le a b c d e = same (le_z a b) (le_z c d) (λ t. to_le_z c d (omega (arith, from_le_z a b t))) (λ t. to_le_z a b (omega (arith, from_le_z c d t)))

le_lt : (a b c d : ℤ) → up c + dn d + (up b + dn a) + 1 ≡ up d + dn c + (up a + dn b) → le_z a b ≡ lt_z c d
le_lt a b c d e = same (le_z a b) (lt_z c d) (λ t. to_lt_z c d (omega (arith, from_le_z a b t))) (λ t. to_le_z a b (omega (arith, from_lt_z c d t)))

-- an offset moves to the other side
at_most_shift : (a b l r : ℤ) → le_z a (b +ℤ (r -ℤ l)) ≡ le_z (a +ℤ l) (b +ℤ r)
at_most_shift a b l r = le_le a (b +ℤ (r -ℤ l)) (a +ℤ l) (b +ℤ r) (omega (arith, neg_up l, neg_dn l, +law r (neg_ℤ l), +law b (r -ℤ l), +law a l, +law b r))

below_shift : (a b l r : ℤ) → le_z a (b +ℤ ((r -ℤ l) +ℤ negsuc 0)) ≡ lt_z (a +ℤ l) (b +ℤ r)
below_shift a b l r = le_lt a (b +ℤ ((r -ℤ l) +ℤ negsuc 0)) (a +ℤ l) (b +ℤ r) (omega (arith, neg_up l, neg_dn l, +law r (neg_ℤ l), +law (r -ℤ l) (negsuc 0), +law b ((r -ℤ l) +ℤ negsuc 0), +law a l, +law b r))

-- the comparison's instructions push its truth: for every operator, vertices and stack
pub comparison_is : (ρ : Values) (op : Op) (l r : Term) (st : List Bool) → run ρ (comparison op l r) st ≡ holds op (value ρ l) (value ρ r) ∷ st
unfolding run
comparison_is ρ op l r st = go op
  where
    le : (s t : Term) → test ρ (at_most_place s t) ≡ le_z (value ρ s) (value ρ t)
    le s t = at_most_shift (ρ s.vertex) (ρ t.vertex) s.offset t.offset

    lt : (s t : Term) → test ρ (below_place s t) ≡ lt_z (value ρ s) (value ρ t)
    lt s t = below_shift (ρ s.vertex) (ρ t.vertex) s.offset t.offset

    push : {b c : Bool} → b ≡ c → b ∷ st ≡ c ∷ st
    push e = ap (λ b. b ∷ st) e

    go : (op : Op) → run ρ (comparison op l r) st ≡ holds op (value ρ l) (value ρ r) ∷ st
    go less = push (lt l r)
    go at_most = push (le l r)
    go equal = push (ap₂ ◌&&◌ (le l r) (le r l))
    go at_least = push (le r l)
    go more = push (lt r l)
    go unequal = push (ap₂ (λ a b. not (a && b)) (le l r) (le r l))

pub constant_is : (ρ : Values) → ρ 0 ≡ pos 0 → (k : ℤ) → value ρ (constant_term k) ≡ k
constant_is ρ z k = omega (ints, ap up z, ap dn z, +law (ρ 0) k)

pub plus_is : (ρ : Values) (t : Term) (k : ℤ) → value ρ (plus t k) ≡ value ρ t +ℤ k
plus_is ρ t k = let v = ρ t.vertex in let o = t.offset in omega (ints, +law o k, +law v (o +ℤ k), +law v o, +law (v +ℤ o) k)

-- under ρ the sight shows the row, in the columns that P holds of
abbrev pub Sees : (ℕ → Type 0) → Values → Sight → Row → Type 0
Sees P ρ σ r = (i : ℕ) → P i → value ρ (σ i) ≡ r i

module _ (P : ℕ → Type 0) (ρ : Values) (z : ρ 0 ≡ pos 0) (σ : Sight) (r : Row) (sees : Sees P ρ σ r) where
  side_is : (s : Side) → SideUses P s → value ρ (side_term σ s) ≡ side_of s r
  side_is (constant k) u = constant_is ρ z k
  side_is (column i k) u = plus_is ρ (σ i) k ∙ ap (λ x. x +ℤ k) (sees i u)

  token_is : (t : Token) → TokenUses P t → (st : List Bool) → run ρ (token σ t) st ≡ C.step r t st
  unfolding run
  token_is (compare op i s) u st = comparison_is ρ op (σ i) (side_term σ s) st ∙ ap₂ (λ a b. holds op a b ∷ st) (sees i u.0) (side_is s u.1)
  token_is both u [] = refl
  token_is both u (a ∷ []) = refl
  token_is both u (b ∷ (a ∷ st)) = refl
  token_is either u [] = refl
  token_is either u (a ∷ []) = refl
  token_is either u (b ∷ (a ∷ st)) = refl
  token_is negate u [] = refl
  token_is negate u (a ∷ st) = refl

  -- a condition runs on the stack as it does on its row
  pub compile_is : (c : Condition) → Uses P c → (st : List Bool) → run ρ (compile σ c) st ≡ C.run r c st
  unfolding compile C.run run
  compile_is [] u st = refl
  compile_is (t ∷ ts) u st = run_append ρ (token σ t) (compile σ ts) st ∙ ap (run ρ (compile σ ts)) (token_is t u.0 st) ∙ compile_is ts u.1 (C.step r t st)
