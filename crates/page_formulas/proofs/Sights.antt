-- The parts of formulas push the trouble lists' truths, on any row that a sight shows.
use Prim.Native.Nat.{ℕ}
use mathlib.Core.Path.{◌≡◌, refl, sym, ap, ap₂, ◌∙◌}
use mathlib.Core.Bool.{Bool, true, false, not, ◌&&◌, ◌||◌, cond, and-true, or-false, and_assoc, or_assoc}
use mathlib.Core.List.{List, [], ◌∷◌, ◌++◌}
use lib.IntN.{ℤ, pos, ◌+ℤ◌}
use lib.Signed.{le_z}
use Rattle.page_meaning.specs.Condition.{Row, holds, unequal, at_most, at_least}
use Rattle.page_meaning.specs.Contents.{Question, Mode, keep, become, shift, Range, Table, first, in_range, new_value}
use Rattle.page_meaning.specs.WellFormed.{Reads}
use Rattle.page_meaning.specs.Claims.{mode_at, kept}
use Rattle.page_meaning.specs.Trouble.{moved, new_fits, differ_over}
use Rattle.page_questions.specs.Guarantees.{Every}
use Rattle.page_formulas.specs.Program.{Values, Term, value, Program, and_i, or_i, run}
use Rattle.page_formulas.specs.Compilation.{Sight, comparison, constant_term, plus}
use Rattle.page_formulas.specs.Formulas.{new_term, after, bounded, bounded_all, differs_over}
use Rattle.page_formulas.proofs.Compilation.{run_append, comparison_is, constant_is, plus_is, Sees}
use Rattle.page_formulas.proofs.Usability.{reads_at}

module _ (P : ℕ → Type 0) (ρ : Values) (z : ρ 0 ≡ pos 0) where
  module _ (σ : Sight) (r : Row) (sees : Sees P ρ σ r) where
    -- the mode of a column reads what the modes read
    new_sees : (m : Mode) (i : ℕ) → P i → Reads P (m ∷ []) → value ρ (new_term m σ (σ i)) ≡ new_value m r (r i)
    new_sees keep i p u = sees i p
    new_sees (become k) i p u = constant_is ρ z k
    new_sees (shift j k) i p u = plus_is ρ (σ j) k ∙ ap (λ x. x +ℤ k) (sees j u.0)

    pub after_sees : (q : Question) (ms : List Mode) → Reads P ms → Sees P ρ (after q ms σ) (moved q ms r)
    unfolding after moved
    after_sees q ms u i p = new_sees (mode_at q ms i) i p (reads_at P (first q) ms u i)

    -- a range test, joined to what stands before it
    bounded_is : (t : Term) (x : ℤ) → value ρ t ≡ x → (g : Range) (b : Bool) (st : List Bool) → run ρ (bounded t g) (b ∷ st) ≡ (b && in_range g x) ∷ st
    unfolding run in_range
    bounded_is t x e g b st =
        run_append ρ (comparison at_most t (constant_term g.hi)) (and_i ∷ (comparison at_least t (constant_term g.lo) ++ (and_i ∷ []))) (b ∷ st)
        ∙ ap (run ρ (and_i ∷ (comparison at_least t (constant_term g.lo) ++ (and_i ∷ [])))) (comparison_is ρ at_most t (constant_term g.hi) (b ∷ st))
        ∙ run_append ρ (comparison at_least t (constant_term g.lo)) (and_i ∷ []) ((b && high) ∷ st)
        ∙ ap (run ρ (and_i ∷ [])) (comparison_is ρ at_least t (constant_term g.lo) ((b && high) ∷ st))
        ∙ ap (λ c. c ∷ st) (and_assoc b high low ∙ ap (λ c. b && c) (ap₂ ◌&&◌ (ap₂ le_z e (constant_is ρ z g.hi)) (ap₂ le_z (constant_is ρ z g.lo) e)))
      where
        high : Bool
        high = le_z (value ρ t) (value ρ (constant_term g.hi))

        low : Bool
        low = le_z (value ρ (constant_term g.lo)) (value ρ t)

    one_more : (g : Range) (t : Term) (x : ℤ) → value ρ t ≡ x → (p : Program) (f : Bool) → ((c : Bool) (st : List Bool) → run ρ p (c ∷ st) ≡ (c && f) ∷ st) → (b : Bool) (st : List Bool) → run ρ (bounded t g ++ p) (b ∷ st) ≡ (b && (in_range g x && f)) ∷ st
    one_more g t x e p f rest b st = run_append ρ (bounded t g) p (b ∷ st) ∙ ap (run ρ p) (bounded_is t x e g b st) ∙ rest (b && in_range g x) st ∙ ap (λ c. c ∷ st) (and_assoc b (in_range g x) f)

    -- no modes are left: the columns left are kept
    all_kept : (gs : Table) → new_fits gs [] r ≡ true
    unfolding new_fits
    all_kept [] = refl
    all_kept (g ∷ gs) = all_kept gs

    pub bounded_all_is : (gs : Table) (ms : List Mode) → Reads P ms → (b : Bool) (st : List Bool) → run ρ (bounded_all σ gs ms) (b ∷ st) ≡ (b && new_fits gs ms r) ∷ st
    unfolding run bounded_all new_fits
    bounded_all_is [] ms u b st = ap (λ c. c ∷ st) (sym (and-true b))
    bounded_all_is (g ∷ gs) [] u b st = ap (λ c. c ∷ st) (sym (ap (λ c. b && c) (all_kept gs) ∙ and-true b))
    bounded_all_is (g ∷ gs) (keep ∷ ms) u b st = bounded_all_is gs ms u b st
    bounded_all_is (g ∷ gs) (become k ∷ ms) u b st = one_more g (constant_term k) k (constant_is ρ z k) (bounded_all σ gs ms) (new_fits gs ms r) (bounded_all_is gs ms u) b st
    bounded_all_is (g ∷ gs) (shift j k ∷ ms) u b st =
        one_more g (plus (σ j) k) (r j +ℤ k) (plus_is ρ (σ j) k ∙ ap (λ x. x +ℤ k) (sees j u.0)) (bounded_all σ gs ms) (new_fits gs ms r) (bounded_all_is gs ms u.1) b st

  -- columns of two rows that differ, joined to what stands before them
  module _ (σ τ : Sight) (r s : Row) (sees : Sees P ρ σ r) (seesToo : Sees P ρ τ s) (mode : ℕ → Mode) where
    pub differs_over_is : (is : List ℕ) → Every P is → (b : Bool) (st : List Bool) → run ρ (differs_over mode σ τ is) (b ∷ st) ≡ (b || differ_over mode is r s) ∷ st
    unfolding run differs_over
    differs_over_is [] u b st = ap (λ c. c ∷ st) (sym (or-false b))
    differs_over_is (i ∷ is) u b st = go (kept (mode i)) (differs_over_is is u.1)
      where
        rest : Program
        rest = differs_over mode σ τ is

        d : Bool
        d = differ_over mode is r s

        go : (k : Bool) → ((c : Bool) (st : List Bool) → run ρ rest (c ∷ st) ≡ (c || d) ∷ st)
            → run ρ (cond k [] (comparison unequal (σ i) (τ i) ++ (or_i ∷ [])) ++ rest) (b ∷ st) ≡ (b || ((not k && holds unequal (r i) (s i)) || d)) ∷ st
        go true f = f b st
        go false f =
            run_append ρ (comparison unequal (σ i) (τ i) ++ (or_i ∷ [])) rest (b ∷ st)
            ∙ ap (run ρ rest) (run_append ρ (comparison unequal (σ i) (τ i)) (or_i ∷ []) (b ∷ st) ∙ ap (run ρ (or_i ∷ [])) (comparison_is ρ unequal (σ i) (τ i) (b ∷ st) ∙ ap₂ (λ x y. holds unequal x y ∷ (b ∷ st)) (sees i u.0) (seesToo i u.0)))
            ∙ f (b || holds unequal (r i) (s i)) st
            ∙ ap (λ c. c ∷ st) (or_assoc b (holds unequal (r i) (s i)) d)
