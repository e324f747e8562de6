-- A question that was read and accepted is one that formulas can be built of.
use mathlib.Core.Path.{subst}
use Prim.Native.Nat.{ℕ, ◌<◌, ◌≤◌}
use mathlib.Core.List.{List}
use lib.ListN.{length, take, length-take}
use native.Mathlib.Omega.{arith}
use Rattle.page_meaning.specs.Limits.{most_tokens}
use Rattle.page_meaning.specs.WellFormed.{Uses, Reads}
use Rattle.question.specs.Held.{condition_of, change_by, question_of}
use Rattle.page_questions.specs.Guarantees.{Accepted, ConditionOk, ChangeAccepted}
use Rattle.question.specs.declared.types.Question.{Question}
use Rattle.question.specs.declared.types.Verb.{Verb}
use Rattle.question.specs.declared.types.Verb.TheVariants.{Insert, Delete, Modify}
use Rattle.sights.specs.Sights.{There, Whole}
use Rattle.formula_contexts.specs.Contexts.{Able, Chooses, Buildable, settled_modes}
use Rattle.formula.proofs.NumberedFormulas.{change_is}
use Rattle.sights.proofs.Shapes.{columns_length, condition_is}
use Rattle.page_formulas.proofs.Usability.{Exists, ChangeUsable, usable}

module _ (q : Question) (whole : Whole q) (ok : Accepted (question_of q)) where
  -- a column exists exactly if it is there
  there : (P : (ℕ → Type 0) → Type 0) → P (Exists (question_of q)) → P (There q)
  there P p = subst (λ n. P (λ i. i < n)) (columns_length q whole) p

  few : {A : Type 0} (n : ℕ) (l : List A) → n ≤ most_tokens → length (take n l) ≤ most_tokens
  few n l h = simp length-take (omega arith)

  pub able : Able q
  able =
      record {
        few = few q.condition.count q.condition.tokens whole.held.few_tokens;
        uses = there (λ P. Uses P (condition_of q.condition)) (subst (Uses (Exists (question_of q))) (condition_is q) (usable (question_of q) ok).uses);
        few_comparisons = (subst ConditionOk (condition_is q) ok.condition).few_comparisons;
      }

  chosen : ConditionOk (condition_of q.change.condition) → Uses (Exists (question_of q)) (condition_of q.change.condition) → Chooses q
  chosen k u =
      record {
        able = able;
        chosen =
            record {
              few = few q.change.condition.count q.change.condition.tokens whole.held.change.few_tokens;
              uses = there (λ P. Uses P (condition_of q.change.condition)) u;
              few_comparisons = k.few_comparisons;
            };
      }

  pub buildable : Buildable q.change.verb q
  buildable =
      go q.change.verb
      (subst (ChangeUsable (question_of q)) (change_is q) (usable (question_of q) ok).change)
      (subst ChangeAccepted (change_is q) ok.change)
    where
      go : (v : Verb) → ChangeUsable (question_of q) (change_by v q.shape.width q.change) → ChangeAccepted (change_by v q.shape.width q.change) → Buildable v q
      go Insert u k = able
      go Delete u k = chosen k u.0
      go Modify u k = record { chooses = chosen k.0 u.0; reads = there (λ P. Reads P (settled_modes q)) u.2 }
