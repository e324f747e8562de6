-- What a result says in the pages' words.
use Rattle.std.specs.Prelude.{Result, Ok, Err}
use Rattle.page_numbers.specs.Outcome.{Outcome, good, refused}
use Rattle.refusal.specs.Numbers.{number_of}
use Rattle.refusal.specs.declared.Refusal.{Refusal}

-- the value, as f has it; or number and place
abbrev pub outcome_of : {A B : Type 0} → (A → B) → Result A Refusal → Outcome B
outcome_of f (Ok a) = good (f a)
outcome_of f (Err r) = refused (number_of r.fault) r.place

-- where there is a value, P of it
abbrev pub IfValue : {A : Type 0} → Result A Refusal → (A → Type 0) → Type 0
IfValue (Ok a) P = P a
IfValue (Err r) P = Unit {0}
