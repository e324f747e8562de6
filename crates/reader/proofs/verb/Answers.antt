use Rattle.std.proofs.Common.{◌≡◌, arith}
use Rattle.page_questions.proofs.FieldLaws.{is_within}
use Rattle.reader.proofs.verb.Goals as goal

pub returns-in_default : goal.returns-in_default
returns-in_default c = let s = c.in_ok-byte.ensures in
    let k = is_within _ _ _ _ _ _ _ s.meaning in
    let three : c.in_ok-byte.field-0 ≡ 3 = omega (arith, k.0, k.1) in
    record { same = s.same; meaning = rw three at s.meaning }
