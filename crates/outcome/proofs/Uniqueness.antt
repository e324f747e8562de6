-- Results that mean the same are the same.
use Prim.Native.Nat.{ℕ}
use mathlib.Core.Path.{◌≡◌, refl, sym, ap, ◌∙◌}
use native.Mathlib.Omega.{arith}
use Rattle.std.specs.Prelude.{[], ◌∷◌, get_or, Result, Ok, Err}
use Rattle.outcome.specs.declared.Verdict.{Verdict}
use Rattle.outcome.specs.declared.Verdict.TheVariants.{Yes, No}
use Rattle.outcome.specs.declared.Sheet.{Sheet}
use Rattle.page_sheets.specs.Sheet as sheet
use Rattle.refusal.specs.Numbers.{number_of}
use Rattle.refusal.specs.declared.Fault.{Fault}
use Rattle.refusal.specs.declared.Fault.TheVariants.{Short, Mark, Version, Code, Range, Token, Column, Hidden, Long, SheetShort, SheetMark, SheetVersion, SheetCode, SheetFalse, SheetLong, Asked, Room}
use Rattle.refusal.specs.declared.Refusal.{Refusal}
use Rattle.outcome.specs.Answers.{verdict_of, judged_of, written_of}

pub same_verdict : (v w : Verdict) → verdict_of v ≡ verdict_of w → v ≡ w
same_verdict Yes Yes e = refl
same_verdict Yes No e = absurd (let z : ◌≡◌ {A = ℕ} 0 1 = cc in omega arith)
same_verdict No Yes e = absurd (let z : ◌≡◌ {A = ℕ} 0 1 = cc in omega arith)
same_verdict No No e = refl

-- a number tells its fault
abbrev fault_at : ℕ → Fault
fault_at n = get_or (Room ∷ Short ∷ Mark ∷ Version ∷ Code ∷ Range ∷ Token ∷ Column ∷ Hidden ∷ Long ∷ Room ∷ SheetShort ∷ SheetMark ∷ SheetVersion ∷ SheetCode ∷ SheetFalse ∷ SheetLong ∷ Room ∷ Room ∷ Room ∷ Asked ∷ []) n Room

told : (f : Fault) → fault_at (number_of f) ≡ f
told Short = refl
told Mark = refl
told Version = refl
told Code = refl
told Range = refl
told Token = refl
told Column = refl
told Hidden = refl
told Long = refl
told SheetShort = refl
told SheetMark = refl
told SheetVersion = refl
told SheetCode = refl
told SheetFalse = refl
told SheetLong = refl
told Asked = refl
told Room = refl

pub same_fault : (f g : Fault) → number_of f ≡ number_of g → f ≡ g
same_fault f g e = sym (told f) ∙ ap fault_at e ∙ told g

pub same_refusal : (r r' : Refusal) → number_of r.fault ≡ number_of r'.fault → r.place ≡ r'.place → r ≡ r'
same_refusal r r' e p = pair r.fault r'.fault r.place r'.place (same_fault r.fault r'.fault e) p
  where
    pair : (f g : Fault) (n m : ℕ) → f ≡ g → n ≡ m → ◌≡◌ {A = Refusal} (record { fault = f; place = n }) (record { fault = g; place = m })
    pair f g n m e d = rw (e, d) refl

pub same_judged : (r r' : Result Verdict Refusal) → judged_of r ≡ judged_of r' → r ≡ r'
same_judged (Ok v) (Ok w) e = let d : verdict_of v ≡ verdict_of w = cc in ap Ok (same_verdict v w d)
same_judged (Ok v) (Err r) e = absurd (let z : ◌≡◌ {A = ℕ} 0 1 = cc in omega arith)
same_judged (Err r) (Ok v) e = absurd (let z : ◌≡◌ {A = ℕ} 0 1 = cc in omega arith)
same_judged (Err r) (Err r') e =
    let n : number_of r.fault ≡ number_of r'.fault = cc in
    let p : r.place ≡ r'.place = cc in
    ap Err (same_refusal r r' n p)

pub same_written : (r r' : Result Sheet Refusal) → written_of r ≡ written_of r' → r ≡ r'
same_written (Ok s) (Ok t) e =
    let x : ◌≡◌ {A = sheet.Verdict × ℕ} (verdict_of s.verdict, s.length) (verdict_of t.verdict, t.length) = cc in
    ap Ok (pair s.verdict t.verdict s.length t.length (same_verdict s.verdict t.verdict (ap (λ a. a.0) x)) (ap (λ a. a.1) x))
  where
    pair : (v w : Verdict) (n m : ℕ) → v ≡ w → n ≡ m → ◌≡◌ {A = Sheet} (record { verdict = v; length = n }) (record { verdict = w; length = m })
    pair v w n m e d = rw (e, d) refl
same_written (Ok s) (Err r) e = absurd (let z : ◌≡◌ {A = ℕ} 0 1 = cc in omega arith)
same_written (Err r) (Ok s) e = absurd (let z : ◌≡◌ {A = ℕ} 0 1 = cc in omega arith)
same_written (Err r) (Err r') e =
    let n : number_of r.fault ≡ number_of r'.fault = cc in
    let p : r.place ≡ r'.place = cc in
    ap Err (same_refusal r r' n p)
