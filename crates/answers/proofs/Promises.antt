-- Two results that a contract allows are equal: the contracts leave nothing open.
use Prim.Native.Nat.{ℕ}
use mathlib.Core.Path.{◌≡◌, sym, ap, ◌∙◌}
use mathlib.Core.List.{List}
use Rattle.page_sheets.specs.Answers.{verdict_of, write_of, check_of}
use Rattle.page_sheets.specs.Demands.{Unique}
use Rattle.outcome.specs.Answers.{judged_of, done_of}
use Rattle.std.specs.Prelude.{Result}
use Rattle.outcome.specs.declared.Verdict.{Verdict}
use Rattle.outcome.specs.declared.Sheet.{Sheet}
use Rattle.refusal.specs.declared.Refusal.{Refusal}
use Rattle.outcome.proofs.Uniqueness.{same_judged, same_written}

pub verdict_unique : (a : ℕ) (s : List ℕ) → Unique (λ (r : Result Verdict Refusal). judged_of r ≡ verdict_of a s)
verdict_unique a s r r' e e' = same_judged r r' (e ∙ sym e')

-- the answer, and the room as it is then
pub write_unique : (a : ℕ) (s room : List ℕ) (r r' : Result Sheet Refusal) (new new' : List ℕ) → done_of r new ≡ write_of a s room → done_of r' new' ≡ write_of a s room → (r ≡ r') × (new ≡ new')
write_unique a s room r r' new new' e e' = let d = e ∙ sym e' in (same_written r r' (ap (λ x. x.answer) d), ap (λ x. x.room) d)

pub check_unique : (a : ℕ) (s sheet : List ℕ) → Unique (λ (r : Result Verdict Refusal). judged_of r ≡ check_of a s sheet)
check_unique a s sheet r r' e e' = same_judged r r' (e ∙ sym e')
