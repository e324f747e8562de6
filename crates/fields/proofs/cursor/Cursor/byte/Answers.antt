use Rattle.std.proofs.Common.{◌≡◌, ℕ, ◌&&◌, ltb, leb, refl, arith}
use Rattle.std.specs.Ordering.{nat_cmp, is_le, is_lt}
use Rattle.std.proofs.lemmas.Bool.Decides.{nat_tests}
use Rattle.page_questions.specs.Reader.{byte}
use Rattle.fields.proofs.cursor.Cursor.byte.Goals as goal

contains : (low high x : ℕ) → (is_le (nat_cmp low x) && is_lt (nat_cmp x high)) ≡ (leb low x && ltb x high)
contains low high x = grind (arith, nat_tests)

pub returns-in-Some : goal.returns-in-Some
unfolding byte
returns-in-Some c = let x = c.in-Some.ensures.lookup in
    record { same = refl; meaning = rw (← x.0, ← x.3.1 0, ← contains _ _ _, ← c.if-contains.ensures.value) refl }

pub returns-in-Some-2 : goal.returns-in-Some-2
unfolding byte
returns-in-Some-2 c = let x = c.in-Some.ensures.lookup in
    record { same = refl; meaning = rw (c.at.ensures, ← x.0, ← x.3.1 0, ← contains _ _ _, ← c.if-contains.ensures.value) refl }

pub returns-in-None : goal.returns-in-None
unfolding byte
returns-in-None c = record { same = refl; meaning = rw (c.at-in-None.ensures, ← c.in-None.ensures.lookup.0) refl }
