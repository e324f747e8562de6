-- The room's rest cleared: what stands there is what the answer says.
use Prim.Native.Nat.{ℕ, ◌-◌, ◌≤◌, ◌<◌}
use mathlib.Core.Path.{◌≡◌, ap, ap₂, ◌∙◌, subst}
use mathlib.Core.Bool.{true, false}
use mathlib.Core.List.{List, ◌++◌}
use native.Mathlib.Omega.{arith}
use lib.Dec.{leb, le→leb, leb→le}
use lib.ListN.{length, take, replicate}
use Rattle.page_numbers.specs.Outcome.{good, refused}
use Rattle.page_meaning.specs.Contents.{Question}
use Rattle.outcome.specs.Answers.{verdict_of}
use Rattle.outcome.specs.declared.Verdict.{Verdict}
use Rattle.page_sheets.specs.Answers.{placed}
use Rattle.page_sheets.specs.Sheet as page
use Rattle.page_sheets.specs.Sheet.{verdict_for, finding_of, sheet_under, sheet_of}
use Rattle.page_sheets.proofs.Fit.{to_true, to_false}
use Rattle.room.specs.Room.{Filling, begun}
use Rattle.room.specs.declared.Sink.{Sink}
use Rattle.writer.specs.Layouts.{StandsIf, Lays}

-- ---- a sheet that fits, and the room's bytes then
module _ (q : Question) (a : ℕ) (old : List ℕ) (v : Verdict) (s : Sink) (h : Lays old q a (finding_of q a) v (begun s)) (mid : List ℕ) (there : mid ≡ s.room.now) where
  long : length mid ≡ length old
  long = ap length there ∙ h.long

  stands : StandsIf false (sheet_of q a) s.room.now s.at
  unfolding sheet_under
  stands = h.stands

  pub fits_in : (n : ℕ) → n ≡ s.at → n ≤ length mid
  fits_in n at = omega (arith, at, stands.1, ap length there)

  -- the sheet and zeros
  pub placed_whole : (n : ℕ) → n ≡ s.at → (new : List ℕ) → new ≡ take n mid ++ replicate (length mid - n) 0 → record { answer = good (verdict_of v, n); room = new } ≡ placed (verdict_for (finding_of q a)) (sheet_of q a) old
  placed_whole n at new c =
      let sheet = sheet_of q a in
      let t = to_true (leb (length sheet) (length old)) (le→leb (length sheet) (length old) (omega (arith, stands.0, stands.1, h.long))) in
      let m : n ≡ length sheet = at ∙ stands.0 in
      let rest : new ≡ sheet ++ replicate (length old - length sheet) 0 = c ∙ ap₂ (λ x n. x ++ replicate n 0) (ap (λ i. take i mid) at ∙ ap (take s.at) there ∙ stands.2) (ap₂ ◌-◌ long m) in
      rw (t, h.says, m, rest)

-- ---- one that is longer than the room: zeros
pub placed_none : (old sheet : List ℕ) (v : page.Verdict) (mid new : List ℕ) → length mid ≡ length old → length mid < length sheet → new ≡ take 0 mid ++ replicate (length mid - 0) 0 → record { answer = refused 21 0; room = new } ≡ placed v sheet old
placed_none old sheet v mid new long short c =
    let t = to_false (leb (length sheet) (length old)) (λ b. omega (arith, leb→le (length sheet) (length old) b, short, long)) in
    let all : length mid - 0 ≡ length old = omega (arith, long) in
    let rest : new ≡ replicate (length old) 0 = c ∙ ap (λ n. take 0 mid ++ replicate {A = ℕ} n 0) all in
    rw (t, rest)

-- the same, where a sheet was laid and a byte of it found no room
pub placed_past : (q : Question) (a : ℕ) (old : List ℕ) (v : Verdict) (end : Filling) → Lays old q a (finding_of q a) v end → end.over ≡ true → (mid : List ℕ) → mid ≡ end.bytes → (new : List ℕ) → new ≡ take 0 mid ++ replicate (length mid - 0) 0 → record { answer = refused 21 0; room = new } ≡ placed (verdict_for (finding_of q a)) (sheet_of q a) old
unfolding sheet_under
placed_past q a old v end h past mid there new c =
    let short : StandsIf true (sheet_of q a) end.bytes end.at = subst (λ o. StandsIf o (sheet_of q a) end.bytes end.at) past h.stands in
    placed_none old (sheet_of q a) (verdict_for (finding_of q a)) mid new (ap length there ∙ h.long) (omega (arith, short, ap length there)) c
