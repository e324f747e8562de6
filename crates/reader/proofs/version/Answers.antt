use Rattle.std.proofs.Common.{◌≡◌, get_or, refl, arith}
use borrow.Author.Tests.{le-leb, lt-leb}
use Rattle.page_questions.specs.Reader.{version_in}
use Rattle.reader.specs.Head.{version_at}
use Rattle.reader.proofs.Heads.{version_unknown}
use Rattle.reader.proofs.version.Goals as goal

pub returns-then-s-lt5 : goal.returns-then-s-lt5
unfolding version_at
returns-then-s-lt5 c = rw (c.at.ensures, lt-leb _ _ c.if-s-lt5.true) refl

pub returns-in-1 : goal.returns-in-1
unfolding version_at
returns-in-1 c = let v : version_in c.args.s.now ≡ 1 = omega (arith, c.from_le_bytes.ensures, c.in-1.is) in
    let one : get_or c.args.s.now 3 0 ≡ 1 = omega arith in
    rw (le-leb _ _ c.if-s-lt5.false, v, one) refl

pub returns-in-2 : goal.returns-in-2
unfolding version_at
returns-in-2 c = let v : version_in c.args.s.now ≡ 2 = omega (arith, c.from_le_bytes.ensures, c.in-2.is) in
    let two : get_or c.args.s.now 3 0 ≡ 2 = omega arith in
    rw (le-leb _ _ c.if-s-lt5.false, v, two) refl

pub returns-in_default : goal.returns-in_default
unfolding version_at
returns-in_default c = let v : c.from_le_bytes.result ≡ version_in c.args.s.now = omega (arith, c.from_le_bytes.ensures) in
    let no = version_unknown (version_in c.args.s.now) (λ e. absurd (omega (arith, v, e))) (λ e. absurd (omega (arith, v, e))) in
    rw (c.at-in_default.ensures, le-leb _ _ c.if-s-lt5.false, no) refl
