use Rattle.std.proofs.Common.{refl, ◌∙◌, arith}
use Rattle.std.proofs.lemmas.List.{length-set}
use Rattle.checker_rows.proofs.FieldValues.{tested_more}
use Rattle.checker_rows.proofs.values.decisions.Goals as goal

pub loop-i-init : goal.loop-i-init
loop-i-init c = record { long = refl; each = λ k h. absurd (omega arith) }

pub loop-i-preserved : goal.loop-i-preserved
loop-i-preserved c = let l = c.loop-i in
    let a = c.args in
    record {
      long = length-set l.truths l.i c.holds.result ∙ l.invariant.long;
      each = tested_more a.values.now a.places.now l.truths l.i c.holds.result (omega (arith, c.loop-i-test.true, c.requires.few)) l.invariant.each c.holds.ensures;
    }

pub returns : goal.returns
returns c = let l = c.loop-i in
    record { each = λ k h. l.invariant.each k (omega (arith, h, c.loop-i-test.false)); long = l.invariant.long }
