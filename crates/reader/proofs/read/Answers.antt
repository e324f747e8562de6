use Rattle.std.proofs.Common.{refl}
use borrow.Author.Tests.{le-leb, lt-leb}
use Rattle.page_questions.specs.Reader.{read_under}
use Rattle.reader.proofs.Heads.{mark_is}
use Rattle.reader.proofs.read.Goals as goal

pub returns-then-s-lt3 : goal.returns-then-s-lt3
unfolding read_under
returns-then-s-lt3 c = record { meaning = rw (c.at.ensures, lt-leb _ _ c.if-s-lt3.true) refl; held = tt }

pub returns-then-not-starts_with : goal.returns-then-not-starts_with
unfolding read_under
returns-then-not-starts_with c =
    record {
      meaning = rw (c.at-then-not-starts_with.ensures, le-leb _ _ c.if-s-lt3.false, ← mark_is _ c.if-s-lt3.false, ← c.if-not-starts_with.ensures.value) refl;
      held = tt;
    }

pub returns : goal.returns
unfolding read_under
returns c = record { meaning = rw (le-leb _ _ c.if-s-lt3.false, ← mark_is _ c.if-s-lt3.false, ← c.if-not-starts_with.ensures.value) c.from_version.ensures.meaning; held = c.from_version.ensures.held }
