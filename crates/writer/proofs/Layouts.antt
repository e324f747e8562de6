-- A sheet laid from the start of the room: what stands there in the end.
use Prim.Native.Nat.{ℕ, ◌≤◌}
use mathlib.Core.Path.{◌≡◌, refl, ap, ◌∙◌}
use mathlib.Core.List.{List}
use native.Mathlib.Omega.{arith}
use native.Mathlib.Decide.{dec_le}
use lib.ListN.{length}
use Rattle.page_meaning.specs.Contents.{Question}
use Rattle.page_sheets.specs.Sheet as page
use Rattle.page_sheets.specs.Sheet.{say_yes, say_no, verdict_for, finding_of, sheet_under, sheet_of}
use Rattle.outcome.specs.Answers.{verdict_of}
use Rattle.outcome.specs.declared.Verdict.{Verdict}
use Rattle.outcome.specs.declared.Verdict.TheVariants.{Yes, No}
use Rattle.room.specs.Room.{Filling, started, puts}
use Rattle.room.proofs.PutBytes.{Stand, puts_length, puts_fit, puts_past}
use Rattle.writer.specs.Layouts.{StandsIf, Lays}

-- ---- bytes put from the start
module _ (old sheet : List ℕ) (end : Filling) (e : end ≡ puts (started old) sheet) where
  pub laid_length : length end.bytes ≡ length old
  laid_length = ap (λ f. length f.bytes) e ∙ puts_length (started old) sheet

  pub laid_stands : StandsIf end.over sheet end.bytes end.at
  laid_stands = go (dec_le (length sheet) (length old))
    where
      go : Dec (length sheet ≤ length old) → StandsIf end.over sheet end.bytes end.at
      go (no n) = rw (ap (λ f. f.over) e ∙ puts_past (started old) sheet (omega arith) (omega arith)) (omega (arith, laid_length))
      go (yes l) =
          let r : Stand (started old) sheet end = rw e (puts_fit (started old) sheet refl (omega (arith, l))) in
          rw r.inside (omega (arith, r.next), omega (arith, laid_length, r.next), r.front)

-- what stands in the room then
pub lays : (q : Question) (a : ℕ) (v : Verdict) → verdict_of v ≡ verdict_for (finding_of q a) → (old : List ℕ) (end : Filling) → end ≡ puts (started old) (sheet_of q a) → Lays old q a (finding_of q a) v end
unfolding sheet_under
lays q a v says old end e = record { says = says; long = laid_length old _ end e; stands = laid_stands old _ end e }

-- the verdict of what is found, where a byte found no room and none came back
abbrev pub told : page.Verdict → Verdict
told say_yes = Yes
told say_no = No

pub told_is : (v : page.Verdict) → verdict_of (told v) ≡ v
told_is say_yes = refl
told_is say_no = refl
