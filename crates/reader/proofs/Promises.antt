-- What the contract of `read` promises of a result r for the bytes s, `Reads r (read_of s)`, in the words of the refusal table.
use Rattle.std.specs.Prelude.{ℕ, List, ◌≡◌, Result, Ok, Err}
use mathlib.Core.Path.{refl, sym, ap, ◌∙◌}
use mathlib.Core.Logic.{◌↔◌}
use Rattle.page_numbers.specs.Outcome.{good, refused}
use Rattle.page_meaning.specs.Contents as M
use Rattle.page_questions.specs.Reader.{read_of}
use Rattle.page_questions.specs.Guarantees.{Accepted}
use Rattle.page_questions.specs.Fields.{fields_of, question_in}
use Rattle.page_questions.specs.Faults.{AllSaid, FirstFault}
use Rattle.refusal.specs.Numbers.{number_of}
use Rattle.refusal.specs.declared.Refusal.{Refusal}
use Rattle.question.specs.Held.{question_of, meant, Reads}
use Rattle.question.specs.declared.types.Question.{Question}
use Rattle.page_questions.proofs.Guarantees.{accepted}
use Rattle.page_questions.proofs.Refusals.{refused_first, taken}
use Rattle.page_questions.proofs.Steps.{not_both}

-- a refusal with number n and place p
abbrev pub Refuses : Result Question Refusal → ℕ → ℕ → Type 0
Refuses (Ok q) n p = ⊥
Refuses (Err e) n p = (number_of e.fault ≡ n) × (e.place ≡ p)

-- a question
abbrev pub Takes : Result Question Refusal → Type 0
Takes (Ok q) = Unit {0}
Takes (Err e) = ⊥

-- a result is known by what it means
refuses_meant : (r : Result Question Refusal) (n p : ℕ) → Refuses r n p → meant r ≡ refused n p
refuses_meant (Ok q) n p h = absurd h
refuses_meant (Err e) n p h = rw (h.0, h.1) refl

is_refused : (r : Result Question Refusal) (n p : ℕ) → meant r ≡ refused n p → Refuses r n p
is_refused (Ok q) n p h = absurd (not_both h)
is_refused (Err e) n p h = (cc, cc)

is_taken : (r : Result Question Refusal) (x : M.Question) → meant r ≡ good x → Takes r
is_taken (Ok q) x h = tt
is_taken (Err e) x h = absurd (not_both (sym h))

module _ (s : List ℕ) (r : Result Question Refusal) (h : Reads r (read_of s)) where
  -- refused with the number and the place of the first fault, and with no other
  pub read_refuses : (n p : ℕ) → Refuses r n p ↔ FirstFault s n p
  read_refuses n p = (λ e. (refused_first s n p).0 (sym h.meaning ∙ refuses_meant r n p e), λ x. is_refused r n p (h.meaning ∙ (refused_first s n p).1 x))

  -- the question that was read
  is_read : (q : Question) → r ≡ Ok q → read_of s ≡ good (question_of q)
  is_read q e = sym h.meaning ∙ ap meant e

  -- then the question is the one that the fields make, with all that a question guarantees
  pub read_means : (q : Question) → r ≡ Ok q → (question_of q ≡ question_in s) × Accepted (question_of q)
  read_means q e = (sym ((taken s (question_of q)).0 (is_read q e)).1, accepted s (question_of q) (is_read q e))

all_said : (s : List ℕ) (r : Result Question Refusal) → Reads r (read_of s) → Takes r → AllSaid s 0 (fields_of s)
all_said s (Ok q) h t = ((taken s (question_of q)).0 (sym h.meaning)).0
all_said s (Err e) h t = absurd t

-- taken exactly when no field is at fault
pub read_takes : (s : List ℕ) (r : Result Question Refusal) → Reads r (read_of s) → Takes r ↔ AllSaid s 0 (fields_of s)
read_takes s r h = (all_said s r h, λ x. is_taken r (question_in s) (h.meaning ∙ (taken s (question_in s)).1 (x, refl)))

-- two results that the contract allows refuse alike, with one number and place, and where they are questions, these mean the same
pub read_unique : (s : List ℕ) (r r' : Result Question Refusal) → Reads r (read_of s) → Reads r' (read_of s) → meant r ≡ meant r'
read_unique s r r' h h' = h.meaning ∙ sym h'.meaning
