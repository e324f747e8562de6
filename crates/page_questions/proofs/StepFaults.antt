-- The reader's steps beside the fields: what a step gives is the first fault of its fields, or else what they hold.
use mathlib.Core.Path.{◌≡◌, refl, sym, ap, ◌∙◌}
use mathlib.Core.Bool.{Bool, true, false, cond}
use mathlib.Core.List.{List, [], ◌∷◌, ◌++◌}
use Prim.Native.Nat.{ℕ, zero, suc, ◌+◌}
use native.Mathlib.Omega.{arith}
use native.Mathlib.Numerals.{add-one}
use lib.Dec.{leb}
use lib.ListN.{length, get_or}
use Rattle.page_numbers.specs.Outcome.{Outcome, good, refused}
use Rattle.page_questions.specs.Reader.{At, found, and_then, many, byte}
use Rattle.page_questions.specs.Fields.{Field, size, sizes, Laid, followed, runs}
use Rattle.page_questions.specs.Faults.{as_said, number_of, within}

-- n bytes from p on are there; no bytes always are
abbrev pub whole : List ℕ → ℕ → ℕ → Bool
whole s p zero = true
whole s p (suc n) = leb (p + suc n) (length s)

-- the first fault of the fields from p on, or else a
unfoldable pub judge : {A : Type 0} → List ℕ → ℕ → List Field → A → Outcome A
judge s p [] a = good a
judge s p (f ∷ fs) a = cond (whole s p (size f)) (cond (as_said s f p) (judge s (p + size f) fs a) (refused (number_of f) p)) (refused 1 p)

abbrev pub at : {A : Type 0} → A → ℕ → At A
at a q = record { value = a; next = q }

-- what a step gives is what its fields give
abbrev pub Agrees : {A : Type 0} → List ℕ → ℕ → Laid A → Outcome (At A) → Type 0
Agrees s p x o = o ≡ judge s p x.fields (at x.value (p + sizes x.fields))

-- two steps, one after the other
pub judge_then : {A B : Type 0} (s : List ℕ) (k : A → ℕ → Outcome B) (fs gs : List Field) (p q : ℕ) (a : A) (b : B)
    → k a q ≡ judge s (p + sizes fs) gs b → and_then (judge s p fs (at a q)) k ≡ judge s p (fs ++ gs) b
unfolding judge sizes
judge_then s k [] gs p q a b e = e ∙ ap (λ n. judge s n gs b) (omega arith)
judge_then s k (f ∷ fs) gs p q a b e =
    go (whole s p (size f)) (as_said s f p) (judge_then s k fs gs (p + size f) q a b (e ∙ ap (λ n. judge s n gs b) (omega arith)))
  where
    go : (w t : Bool) → and_then (judge s (p + size f) fs (at a q)) k ≡ judge s (p + size f) (fs ++ gs) b
        → and_then (cond w (cond t (judge s (p + size f) fs (at a q)) (refused (number_of f) p)) (refused 1 p)) k
        ≡ cond w (cond t (judge s (p + size f) (fs ++ gs) b) (refused (number_of f) p)) (refused 1 p)
    go true true h = h
    go true false h = refl
    go false t h = refl

sizes_append : (fs gs : List Field) → sizes (fs ++ gs) ≡ sizes fs + sizes gs
unfolding sizes
sizes_append [] gs = omega arith
sizes_append (f ∷ fs) gs = omega (arith, sizes_append fs gs)

module _ {A B : Type 0} (s : List ℕ) (p : ℕ) (x : Laid A) (o : Outcome (At A)) (agree : Agrees s p x o) where
  -- the last step of all
  pub agrees_last : (k : A → ℕ → Outcome B) (g : A → ℕ → Laid B)
      → k x.value (p + sizes x.fields) ≡ judge s (p + sizes x.fields) (g x.value (p + sizes x.fields)).fields (g x.value (p + sizes x.fields)).value
      → and_then o k ≡ judge s p (followed p x g).fields (followed p x g).value
  unfolding followed
  agrees_last k g h = ap (λ o. and_then o k) agree ∙ judge_then s k x.fields _ p _ x.value _ h

  pub agrees_then : (k : A → ℕ → Outcome (At B)) (g : A → ℕ → Laid B)
      → Agrees s (p + sizes x.fields) (g x.value (p + sizes x.fields)) (k x.value (p + sizes x.fields))
      → Agrees s p (followed p x g) (and_then o k)
  unfolding followed
  agrees_then k g h =
      let fs = x.fields in
      let gs = (g x.value (p + sizes fs)).fields in
      ap (λ o. and_then o k) agree
      ∙ judge_then s k fs gs p (p + sizes fs) x.value _ h
      ∙ ap (λ n. judge s p (fs ++ gs) (at (g x.value (p + sizes fs)).value n)) (omega (arith, sizes_append fs gs))

-- runs of fields of one sort
pub agrees_many : {A : Type 0} (s : List ℕ) (f : List A → ℕ → Outcome (At A)) (g : List A → ℕ → Laid A) → ((done : List A) (p : ℕ) → Agrees s p (g done p) (f done p))
    → (k : ℕ) (done : List A) (p : ℕ) → Agrees s p (runs g k done p) (many f k done p)
unfolding many runs judge sizes
agrees_many s f g each zero done p = ap (λ n. found done n) (omega arith)
agrees_many s f g each (suc k) done p =
    agrees_then s p (g done p) (f done p) (each done p) (λ a q. many f k (done ++ (a ∷ [])) q) (λ a q. runs g k (done ++ (a ∷ [])) q)
    (agrees_many s f g each k (done ++ ((g done p).value ∷ [])) (p + sizes (g done p).fields))

-- one field, then others that were laid with it
pub field_then : {A B : Type 0} (s : List ℕ) (p : ℕ) (f : Field) (gs : List Field) (a : A) (b : B) (o : Outcome (At A)) (k : A → ℕ → Outcome B)
    → o ≡ judge s p (f ∷ []) (at a (p + size f)) → k a (p + size f) ≡ judge s (p + size f) gs b → and_then o k ≡ judge s p (f ∷ gs) b
unfolding sizes
field_then s p f gs a b o k e h =
    ap (λ o. and_then o k) e ∙ judge_then s k (f ∷ []) gs p (p + size f) a b (h ∙ ap (λ n. judge s n gs b) (omega arith))

-- a test with no byte
pub test_first : {A : Type 0} (s : List ℕ) (p : ℕ) (f : Field) (gs : List Field) (a : A) → size f ≡ 0
    → judge s p (f ∷ gs) a ≡ cond (as_said s f p) (judge s p gs a) (refused (number_of f) p)
unfolding judge
test_first s p f gs a e =
    ap (λ n. cond (whole s p n) (cond (as_said s f p) (judge s (p + n) gs a) (refused (number_of f) p)) (refused 1 p)) e
    ∙ ap (λ q. cond (as_said s f p) (judge s q gs a) (refused (number_of f) p)) (omega arith)

-- ---- the two sorts of field

pub byte_is : (s : List ℕ) (n low high p : ℕ)
    → byte s n low high p ≡ cond (leb (p + 1) (length s)) (cond (within low high (get_or s p 0)) (found (get_or s p 0) (p + 1)) (refused n p)) (refused 1 p)
unfolding byte
byte_is s n low high p = ap (λ m. cond (leb m (length s)) (cond (within low high (get_or s p 0)) (found (get_or s p 0) (p + 1)) (refused n p)) (refused 1 p)) (sym (add-one p))
