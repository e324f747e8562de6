-- Steps of a reader: what a field gave decides how the fields that follow are read.
use mathlib.Core.Path.{◌≡◌, ap, subst, ◌∙◌}
use Prim.Native.Nat.{ℕ}
use Rattle.page_numbers.specs.Outcome.{Outcome, good, refused}
use Rattle.page_questions.specs.Reader.{At, found, and_then}

module _ {A B : Type 0} (f : A → ℕ → Outcome B) where
  -- the fields before were found, and t is what follows them
  pub on_good : {o : Outcome (At A)} {a : A} {q : ℕ} {t : Outcome B} → found a q ≡ o → t ≡ f a q → t ≡ and_then o f
  on_good e h = h ∙ ap (λ o. and_then o f) e

  -- they were refused
  pub on_bad : {o : Outcome (At A)} {n p : ℕ} → refused n p ≡ o → refused n p ≡ and_then o f
  on_bad e = ap (λ o. and_then o f) e

abbrev value_or : {A : Type 0} → A → Outcome (At A) → A
value_or d (good a) = a.value
value_or d (refused n p) = d

abbrev next_or : {A : Type 0} → ℕ → Outcome (At A) → ℕ
next_or d (good a) = a.next
next_or d (refused n p) = d

-- what was found was found at one place
pub same_found : {A : Type 0} {x y : A} {q r : ℕ} → found x q ≡ found y r → (x ≡ y) × (q ≡ r)
same_found {x = x} {q = q} e = (ap (value_or x) e, ap (next_or q) e)

-- and was not refused
abbrev Found : {A : Type 0} → Outcome A → Type 0
Found (good a) = Unit {0}
Found (refused n p) = ⊥

pub not_both : {A : Type 0} {a : A} {n p : ℕ} → good a ≡ refused n p → ⊥
not_both e = subst Found e tt

-- what follows the fields that were found
pub then_good : {A B : Type 0} (f : A → ℕ → Outcome B) {o : Outcome (At A)} {a : A} {q : ℕ} → found a q ≡ o → f a q ≡ and_then o f
then_good f e = ap (λ o. and_then o f) e
