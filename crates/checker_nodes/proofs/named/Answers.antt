use Rattle.std.proofs.Common.{◌≡◌, ℕ, zero, suc, ◌+◌, ◌<◌, List, [], ◌∷◌, Bool, Option, None, is_some, true, length, get_or, drop, sym, ap, ◌∙◌, arith}
use Rattle.std.proofs.lemmas.List.{get_or-drop, length-drop}
use borrow.Author.Count.{below_more}
use Rattle.page_numbers.specs.Outcome.{refused}
use Rattle.page_formulas.specs.Vertices.{Ranges, present}
use Rattle.page_sheets.proofs.NamedVertices.{below_take, named_all, named_short, named_lacking}
use Rattle.program.specs.Lent.{Flagged}
use Rattle.program.specs.declared.types.Range.{Range}
use Rattle.checker_nodes.proofs.named.Goals as goal

-- what the code's test says of a byte
tested : (ranges : List (Option Range)) (rs : Ranges) (part : List ℕ) (first i : ℕ) (b : Bool) → Flagged ranges rs → is_some (get_or ranges (get_or part (first + i) 0) None) ≡ b → present rs (get_or (drop first part) i 0) ≡ b
tested ranges rs part first i b f e = rw (get_or-drop first part i 0) (sym (f.agree (get_or part (first + i) 0)) ∙ e)

has_range : (ranges : List (Option Range)) (v : ℕ) → is_some (get_or ranges v None) ≡ true → v < length ranges
has_range [] zero e = cc
has_range [] (suc v) e = cc
has_range (g ∷ ranges) zero e = omega arith
has_range (g ∷ ranges) (suc v) e = omega (arith, has_range ranges v e)

pub returns-then-part-place : goal.returns-then-part-place
returns-then-part-place c = let l = c.loop-i in
    let a = c.args in
    let bytes = drop a.first a.part.now in
    rw c.at.ensures (record {
      meaning = λ rs base f.
          let e : base + (a.first + l.i) ≡ base + a.first + l.i = omega arith in
          ap (refused 11) e ∙ named_short rs (base + a.first) bytes l.i a.count c.loop-i-test.true (omega (arith, length-drop a.first a.part.now)) (omega (arith, length-drop a.first a.part.now)) (l.invariant.shown rs f);
      inside = tt;
      past = (omega arith, omega arith);
    })

pub returns-then-not-shown : goal.returns-then-not-shown
returns-then-not-shown c = let l = c.loop-i in
    let a = c.args in
    let bytes = drop a.first a.part.now in
    rw c.at-then-not-shown.ensures (record {
      meaning = λ rs base f.
          let e : base + (a.first + l.i) ≡ base + a.first + l.i = omega arith in
          ap (refused 14) e ∙ named_lacking rs (base + a.first) bytes l.i a.count c.loop-i-test.true (omega (arith, length-drop a.first a.part.now)) (l.invariant.shown rs f) (tested a.ranges.now rs a.part.now a.first l.i _ f (sym c.shown.ensures ∙ c.if-not-shown.true));
      inside = tt;
      past = (omega arith, omega arith);
    })

pub loop-i-preserved : goal.loop-i-preserved
loop-i-preserved c = let l = c.loop-i in
    let a = c.args in
    let bytes = drop a.first a.part.now in
    let there = sym c.shown.ensures ∙ c.if-not-shown.false in
    record {
      within = omega arith;
      shown = λ rs f. record { each = below_more (λ k. present rs (get_or bytes k 0) ≡ true) l.i (l.invariant.shown rs f).each (tested a.ranges.now rs a.part.now a.first l.i true f there) };
      below = below_take (length a.ranges.now) bytes l.i (omega (arith, length-drop a.first a.part.now)) l.invariant.below (rw (get_or-drop a.first a.part.now l.i 0) (has_range a.ranges.now _ there));
    }

pub returns : goal.returns
returns c = let l = c.loop-i in
    let a = c.args in
    let bytes = drop a.first a.part.now in
    let e : l.i ≡ a.count = omega arith in
    record {
      meaning = λ rs base f. named_all rs (base + a.first) bytes a.count (omega (arith, length-drop a.first a.part.now)) (rw e at (l.invariant.shown rs f));
      inside = (rw e at l.invariant.within, rw e at l.invariant.below);
      past = tt;
    }
