use native.Mathlib.Omega.{arith}
use mathlib.Core.Path.{◌≡◌, refl}
use mathlib.Core.Bool.{true, false}
use lib.Signed.{lt_z}
use mir.Facts.{to_z-of_z}
use mir.Val.{SFits}
use mir.Syntax.{w32}
use Rattle.page_questions.proofs.FieldLaws.{int_short, int_low, int_high, int_right}
use Rattle.page_numbers.specs.Outcome.{refused}
use Rattle.page_questions.specs.Reader.{int}
use Rattle.refusal.specs.Numbers.{number_of}
use Rattle.fields.proofs.cursor.Cursor.number.Goals as goal
use Rattle.fields.proofs.cursor.Cursor.number.Goals.{then-self-lt4-via-then-self-lt4, then-self-lt4-via-else-self-lt4+then-self-place, then-z-lo-via-then-z-lo, then-z-lo-via-else-z-lo+then-hi-z}

pub returns-then-self-lt4 : goal.returns-then-self-lt4
returns-then-self-lt4 c = rw c.at.ensures record { same = refl; meaning = elim c.then-self-lt4.branch [ then-self-lt4-via-then-self-lt4 w ↦ int_short _ _ _ _ _ (omega arith) | then-self-lt4-via-else-self-lt4+then-self-place w ↦ int_short _ _ _ _ _ (omega arith) ] }

pub returns-then-z-lo : goal.returns-then-z-lo
returns-then-z-lo c = let r = c.read_i32-z in
    let v : SFits w32 r.result = record { sfits = r.type_inv } in
    let wrong : refused (number_of c.args.fault) c.args.self.now.at ≡ int c.args.self.now.bytes.now (number_of c.args.fault) c.args.lo c.args.hi c.args.self.now.at =
    elim c.then-z-lo.branch [
      | then-z-lo-via-then-z-lo w ↦
          let t : lt_z r.result c.args.lo ≡ true = simp (to_z-of_z, v, c.ranges.lo) at w.if-z-lo.true in
          int_low _ _ _ _ _ _ (omega arith) r.ensures t
      | then-z-lo-via-else-z-lo+then-hi-z w ↦
          let t : lt_z r.result c.args.lo ≡ false = simp (to_z-of_z, v, c.ranges.lo) at w.if-z-lo.false in
          let u : lt_z c.args.hi r.result ≡ true = simp (to_z-of_z, v, c.ranges.hi) at w.if-hi-z.true in
          int_high _ _ _ _ _ _ (omega arith) r.ensures t u
    ] in
    rw c.at-then-z-lo.ensures (record { same = refl; meaning = wrong })

pub returns : goal.returns
returns c = let r = c.read_i32-z in
    let v : SFits w32 r.result = record { sfits = r.type_inv } in
    let t : lt_z r.result c.args.lo ≡ false = simp (to_z-of_z, v, c.ranges.lo) at c.if-z-lo.false in
    let u : lt_z c.args.hi r.result ≡ false = simp (to_z-of_z, v, c.ranges.hi) at c.if-hi-z.false in
    record { same = refl; meaning = simp (to_z-of_z, v) (int_right _ _ _ _ _ _ (omega arith) r.ensures t u) }
