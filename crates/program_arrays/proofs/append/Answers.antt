use Rattle.std.proofs.Common.{ap, ◌∙◌, map, length, arith, rules}
use Rattle.page_formulas.specs.Kinds.{kinds_of}
use Rattle.program.specs.Meanings.{number_of}
use Rattle.program.proofs.Loans.{instructions_long}
use Rattle.program_arrays.proofs.Appending.{put_as, put_part}
use Rattle.program_arrays.proofs.append.Goals as goal

pub returns : goal.returns
returns c = λ x m.
    let a = c.args in
    let p = a.program.now in
    let is = c.instructions.result.now in
    let ps = c.places.result.now in
    let put = c.put_places in
    record {
      long = record { kinds = search rules; left = search rules; right = search rules; most = search rules };
      emits =
          record {
            kinds = put_as number_of is a.kinds.now c.put_kinds.new.kinds (kinds_of x) a.at.count _ (omega (arith, ap length c.instructions.ensures ∙ instructions_long m)) (ap (map number_of) c.instructions.ensures ∙ m.instructions) c.put_kinds.ensures;
            left = put_part (λ a. a.left) p x ps a.left.now put.new.left a.at.places _ m c.places.ensures (omega arith) put.ensures.left;
            right = put_part (λ a. a.right) p x ps a.right.now put.new.right a.at.places _ m c.places.ensures (omega arith) put.ensures.right;
            most = put_part (λ a. a.most) p x ps a.most.now put.new.most a.at.places _ m c.places.ensures (omega arith) put.ensures.most;
            count = omega (arith, m.counted);
            places = omega (arith, m.decided);
          };
      few = omega arith;
      few_places = omega arith;
    }
