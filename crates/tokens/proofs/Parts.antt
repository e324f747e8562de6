-- A comparison by the parts in which the code reads it.
use Rattle.std.specs.Prelude.{◌≢◌, Result, Ok, Err}
use Rattle.std.specs.Result.{IsErrAnd}
use mathlib.Core.Path.{◌≡◌, refl, sym, ◌∙◌}
use borrow.Author.Tests.{ne_eqb}
use mathlib.Core.Bool.{Bool, true, false, cond, ◌&&◌}
use mathlib.Core.List.{List}
use Prim.Native.Nat.{ℕ, ◌+◌}
use lib.Dec.{ltb, leb}
use lib.ListN.{length, get_or}
use lib.IntN.{ℤ}
use Rattle.page_numbers.specs.Outcome.{Outcome, good, refused}
use Rattle.page_meaning.specs.Condition as C
use Rattle.page_questions.specs.Reader.{At, found, and_then, byte, up_to, op_of, none, right_at, side_of, constant_at, comparison_at}
use Rattle.refusal.specs.declared.Refusal.{Refusal}
use Rattle.fields.specs.Steps.{Steps}
use Rattle.fields.specs.declared.cursor.Cursor.{Cursor}
use Rattle.fields.proofs.Chain.{after, at_fault}
use Rattle.question.specs.Held.{kind_of}
use Rattle.question.specs.declared.types.Kind.{Kind}
use Rattle.tokens.specs.Tokens.{side_at, token_numbered, token_with}

-- a comparison's right side is one of its parts
pub comparison_parts : (s : List ℕ) (low high p : ℕ)
    → comparison_at s low high p
    ≡ and_then (byte s 6 1 (up_to 6) p) λ o p. and_then (byte s 7 low high p) λ i p. and_then (side_at s low high p) λ k p. found (C.compare (op_of o) i k) p
unfolding comparison_at side_at
comparison_parts s low high p = outer (byte s 6 1 (up_to 6) p)
  where
    third : (o i r : ℕ) (k : Outcome (At ℤ))
        → and_then k (λ k p. found (C.compare (op_of o) i (side_of r k)) p)
        ≡ and_then (and_then k λ k p. found (side_of r k) p) λ k p. found (C.compare (op_of o) i k) p
    third o i r (good a) = refl
    third o i r (refused n q) = refl

    second : (o i : ℕ) (r : Outcome (At ℕ))
        → and_then r (λ r p. and_then (constant_at s p) λ k p. found (C.compare (op_of o) i (side_of r k)) p)
        ≡ and_then (and_then r λ r p. and_then (constant_at s p) λ k p. found (side_of r k) p) λ k p. found (C.compare (op_of o) i k) p
    second o i (good a) = third o i a.value (constant_at s a.next)
    second o i (refused n q) = refl

    first : (o : ℕ) (i : Outcome (At ℕ))
        → and_then i (λ i p. and_then (right_at s low high p) λ r p. and_then (constant_at s p) λ k p. found (C.compare (op_of o) i (side_of r k)) p)
        ≡ and_then i (λ i p. and_then (and_then (right_at s low high p) λ r p. and_then (constant_at s p) λ k p. found (side_of r k) p) λ k p. found (C.compare (op_of o) i k) p)
    first o (good a) = second o a.value (right_at s low high a.next)
    first o (refused n q) = refl

    outer : (o : Outcome (At ℕ))
        → and_then o (λ o p. and_then (byte s 7 low high p) λ i p. and_then (right_at s low high p) λ r p. and_then (constant_at s p) λ k p. found (C.compare (op_of o) i (side_of r k)) p)
        ≡ and_then o (λ o p. and_then (byte s 7 low high p) λ i p. and_then (and_then (right_at s low high p) λ r p. and_then (constant_at s p) λ k p. found (side_of r k) p) λ k p. found (C.compare (op_of o) i k) p)
    outer (good a) = first a.value (byte s 7 low high a.next)
    outer (refused n q) = refl

module _ (s : List ℕ) (low high p : ℕ) where
  -- the byte that names no column
  unnamed : get_or s p 0 ≡ none → side_at s low high p ≡ and_then (constant_at s (p + 1)) λ k p. found (C.constant k) p
  unfolding side_at
  unnamed h = simp h

  -- another byte
  named : get_or s p 0 ≢ none → side_at s low high p ≡ and_then (byte s 7 low high p) λ i p. and_then (constant_at s p) λ k p. found (C.column i k) p
  unfolding side_at byte
  named h = simp (ne_eqb (get_or s p 0) none h) (go (ltb p (length s)) (leb low (get_or s p 0) && ltb (get_or s p 0) high))
    where
      go : (a b : Bool)
          → and_then (cond a (cond b (found (get_or s p 0) (p + 1)) (refused 7 p)) (refused 1 p)) (λ r p. and_then (constant_at s p) λ k p. found (side_of r k) p)
          ≡ and_then (cond a (cond b (found (get_or s p 0) (p + 1)) (refused 7 p)) (refused 1 p)) (λ i p. and_then (constant_at s p) λ k p. found (C.column i k) p)
      go true true = simp (ne_eqb (get_or s p 0) none h)
      go true false = refl
      go false b = refl

-- so a right side is read by one of two ways
module _ {A : Type 0} {f : A → C.Side} (low high : ℕ) {old new : Cursor} {r : Result A Refusal} where
  pub to_constant : get_or old.bytes.now old.at 0 ≡ none
      → Steps f (λ s p. and_then (constant_at s p) λ k p. found (C.constant k) p) (record { bytes = old.bytes; at = old.at + 1 }) r new
      → Steps f (λ s p. side_at s low high p) old r new
  to_constant h t = record { same = t.same; meaning = t.meaning ∙ sym (unnamed old.bytes.now low high old.at h) }

  pub to_column : get_or old.bytes.now old.at 0 ≢ none
      → Steps f (λ s p. and_then (byte s 7 low high p) λ i p. and_then (constant_at s p) λ k p. found (C.column i k) p) old r new
      → Steps f (λ s p. side_at s low high p) old r new
  to_column h t = record { same = t.same; meaning = t.meaning ∙ sym (named old.bytes.now low high old.at h) }

-- a token by its byte, and the rest by its number
module _ (low high compared height : ℕ) {old new : Cursor} {r : Result Kind Refusal} where
  pub to_numbered : {mid : Cursor} {t : ℕ}
      → Steps (λ x. x) (λ s p. byte s 6 1 (up_to 4) p) old (Ok t) mid
      → Steps kind_of (λ s q. token_numbered s low high compared height t old.at q) mid r new
      → Steps kind_of (λ s p. token_with s low high compared height p) old r new
  unfolding token_with
  to_numbered s t =
      let u = after (λ s t q. token_numbered s low high compared height t old.at q) s t in
      record { same = u.same; meaning = u.meaning }

  pub no_number : {e : Refusal} → IsErrAnd r (λ d. d ≡ e) → Steps (λ x. x) (λ s p. byte s 6 1 (up_to 4) p) old (Err e) new
      → Steps kind_of (λ s p. token_with s low high compared height p) old r new
  unfolding token_with
  no_number h s =
      let u : Steps kind_of (λ s q. and_then (byte s 6 1 (up_to 4) q) (λ t q. token_numbered s low high compared height t old.at q)) old r new
      = at_fault (λ s t q. token_numbered s low high compared height t old.at q) h s in
      record { same = u.same; meaning = u.meaning }
