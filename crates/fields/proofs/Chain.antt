-- Fields one after another: a fault ends the reading, a value goes on to what follows. These laws serve every `?` on a cursor.
use Rattle.std.specs.Prelude.{ℕ, List, ◌≡◌, Result, Ok, Err}
use Rattle.std.specs.Result.{IsErrAnd}
use Rattle.std.proofs.lemmas.Result.{err_from_is_err_and}
use mathlib.Core.Path.{refl}
use Rattle.page_numbers.specs.Outcome.{Outcome}
use Rattle.refusal.specs.Outcomes.{outcome_of}
use Rattle.page_questions.specs.Reader.{At, found, and_then}
use Rattle.refusal.specs.declared.Refusal.{Refusal}
use Rattle.fields.specs.Steps.{Steps}
use Rattle.fields.specs.declared.cursor.Cursor.{Cursor}

module _ {A B C D : Type 0} {f : A → B} {g : C → D} {o : List ℕ → ℕ → Outcome (At B)} (k : List ℕ → B → ℕ → Outcome (At D)) {old : Cursor} where
  -- what follows a field that was read, in the same bytes
  pub after : {mid new : Cursor} {a : A} {r : Result C Refusal} → Steps f o old (Ok a) mid → Steps g (λ s q. k s (f a) q) mid r new → Steps g (λ s q. and_then (o s q) (k s)) old r new
  after s t = record { same = rw (t.same, s.same) refl; meaning = rw (← s.meaning, ← s.same) t.meaning }

  -- a field that was refused: so is the whole
  pub at_fault : {new : Cursor} {e : Refusal} {r : Result C Refusal} → IsErrAnd r (λ d. d ≡ e) → Steps f o old (Err e) new → Steps g (λ s q. and_then (o s q) (k s)) old r new
  at_fault {r = r} h s = let p = err_from_is_err_and r h in rw (p.1, p.2) (record { same = s.same; meaning = rw (← s.meaning) refl })

-- all fields were read
pub here : {C D : Type 0} {g : C → D} {a : C} {d : D} {at : Cursor} → g a ≡ d → Steps g (λ s q. found d q) at (Ok a) at
here h = record { same = refl; meaning = rw h refl }

-- ---- the whole, of which nothing follows

-- the answer is what the definition o says of the bytes that are left
pub record Ends {A B : Type 0} (f : A → B) (o : List ℕ → ℕ → Outcome B) (old : Cursor) (r : Result A Refusal) : Type 0 where
  pub answer : outcome_of f r ≡ o old.bytes.now old.at

module _ {A B C D : Type 0} {f : A → B} {g : C → D} {o : List ℕ → ℕ → Outcome (At B)} (k : List ℕ → B → ℕ → Outcome D) {old : Cursor} where
  pub ends_after : {mid : Cursor} {a : A} {r : Result C Refusal} → Steps f o old (Ok a) mid → Ends g (λ s q. k s (f a) q) mid r → Ends g (λ s q. and_then (o s q) (k s)) old r
  ends_after s t = record { answer = rw (← s.meaning, ← s.same) t.answer }

  pub ends_at : {new : Cursor} {e : Refusal} → Steps f o old (Err e) new → Ends g (λ s q. and_then (o s q) (k s)) old (Err e)
  ends_at s = record { answer = rw (← s.meaning) refl }
