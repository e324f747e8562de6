-- What the reading of a field does to the cursor, as the definition of that field says it.
use Rattle.std.specs.Prelude.{ℕ, List, ◌≡◌, Result, Ok, Err}
use Rattle.page_numbers.specs.Outcome.{Outcome, refused}
use Rattle.page_questions.specs.Reader.{At, found}
use Rattle.refusal.specs.Numbers.{number_of}
use Rattle.refusal.specs.declared.Refusal.{Refusal}
use Rattle.fields.specs.declared.cursor.Cursor.{Cursor}

-- the value, as f has it, and the offset after it; or number and place
abbrev pub read_of : {A B : Type 0} → (A → B) → Result A Refusal → ℕ → Outcome (At B)
read_of f (Ok a) q = found (f a) q
read_of f (Err r) q = refused (number_of r.fault) r.place

-- the same bytes, and what the definition o says of them from the old offset on
pub record Steps {A B : Type 0} (f : A → B) (o : List ℕ → ℕ → Outcome (At B)) (old : Cursor) (r : Result A Refusal) (new : Cursor) : Type 0 where
  pub same : new.bytes.now ≡ old.bytes.now
  pub meaning : read_of f r new.at ≡ o old.bytes.now old.at
