-- What the checker's code answers of a no sheet, as the definitions say it.
use Rattle.std.specs.Prelude.{ℕ, zero, suc, ◌≤◌, ◌<◌, ◌≡◌, Bool, false, cond, List, Result, Ok, Err, length, get_or, ℤ, pos, ◌+ℤ◌, ltb}
use Rattle.std.specs.Int.Signed.{le_z}
use Rattle.page_numbers.specs.Outcome.{refused}
use Rattle.page_meaning.specs.Limits.{most_decisions}
use Rattle.page_sheets.specs.Rows.{field_at, value_at}
use Rattle.page_sheets.specs.Sheet.{Answer, check_fields}
use Rattle.refusal.specs.Numbers.{number_of}
use Rattle.refusal.specs.Outcomes.{IfValue}
use Rattle.refusal.specs.declared.Refusal.{Refusal}
use Rattle.program.specs.Lent.{place_at}
use Rattle.program.specs.declared.types.Place.{Place}

-- what the later fields come to, after those that were read
abbrev pub after_fields : Result Unit Refusal → Answer → Answer
after_fields (Ok u) next = next
after_fields (Err r) next = refused (number_of r.fault) r.place

-- what the reading of so many fields promises, whatever comes after them; and where all are there, they stand within the sheet
pub record FieldsRead (ok : ℕ → ℤ → Bool) (sheet : List ℕ) (count : ℕ) (r : Result Unit Refusal) : Type 0 where
  pub meaning : (next : Answer) → after_fields r next ≡ check_fields ok sheet count 0 next
  pub inside : IfValue r (λ u. field_at count ≤ length sheet)

-- what stands at vertex v, where so many fields are read
abbrev pub seen : List ℕ → ℕ → ℕ → ℤ
seen sheet count zero = pos 0
seen sheet count (suc j) = cond (ltb j count) (value_at sheet j) (pos 0)

-- place i at the values
abbrev pub test_at : List ℤ → List Place → ℕ → Bool
test_at x ps i = let p = place_at ps i in le_z (get_or x p.left (pos 0)) (get_or x p.right (pos 0) +ℤ p.most)

-- every place's truth
pub record Tested (x : List ℤ) (ps : List Place) (truths : List Bool) : Type 0 where
  pub each : (i : ℕ) → i < length ps → get_or truths i false ≡ test_at x ps i
  pub long : length truths ≡ most_decisions
