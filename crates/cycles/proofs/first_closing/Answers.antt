use mathlib.Core.Path.{◌≡◌}
use mathlib.Core.Bool.{Bool, true, false}
use mathlib.Core.List.{List}
use Prim.Native.Nat.{ℕ, ◌<◌, ◌≤◌}
use lib.IntN.{ℤ, pos, ◌+ℤ◌}
use lib.ListN.{get_or}
use lib.Signed.{lt_z}
use mir.Syntax.{w64}
use mir.Val.{SFits}
use mir.Facts.{to_z-of_z}
use Rattle.std.proofs.Common.{rules, tests, arith}
use Rattle.std.proofs.lemmas.Iterator.{first_from_Range, serves_from_Range}
use Rattle.std.specs.Prelude.{Option, Some, None, MatchOption}
use Rattle.page_walks.specs.Sizes.{wide, Bounded, RowWithin}
use Rattle.page_walks.proofs.BestSums.{first_at_lem}
use Rattle.page_walks.proofs.Sums.{exact_wide, exact_two, exact_three}
use Rattle.cycles.specs.Firsts.{FirstIs}
use Rattle.cycles.proofs.first_closing.Goals as goal

-- whether the walk can close below zero by u
abbrev closes : List ℤ → List ℤ → ℤ → ℕ → Bool
closes edges on sum u = lt_z ((sum +ℤ get_or edges u (pos 0)) +ℤ get_or on u (pos 0)) (pos 0)

-- the numbers that are read, and their sums
record Exact (edges on : List ℤ) (sum : ℤ) (u : ℕ) : Type 0 where
  edge : SFits w64 (get_or edges u (pos 0))
  way : SFits w64 (get_or on u (pos 0))
  two : SFits w64 (sum +ℤ get_or edges u (pos 0))
  three : SFits w64 ((sum +ℤ get_or edges u (pos 0)) +ℤ get_or on u (pos 0))

exact : {n u : ℕ} {edges on : List ℤ} {sum : ℤ} → u < n → Bounded wide sum → RowWithin wide n edges → RowWithin wide n on → Exact edges on sum u
exact {u = u} {sum = sum} h s r r' = record {
  edge = exact_wide _ (r.entry u h);
  way = exact_wide _ (r'.entry u h);
  two = exact_two sum _ s (r.entry u h);
  three = exact_three sum _ _ s (r.entry u h) (r'.entry u h);
}

-- the first that passes a test, as the search over a range tells it
is_first : (f : ℕ → Bool) (n : ℕ) (r : Option ℕ)
    → MatchOption r ((k : ℕ) → 0 ≤ k → k < n → k < n → f k ≡ false) (λ i. (0 ≤ i) × (i < n) × (i < n → f i ≡ true) × ((k : ℕ) → 0 ≤ k → k < i → k < n → f k ≡ false))
    → FirstIs f n r
is_first f n None h = first_at_lem f n n (omega arith) (λ k l. h k (omega arith) l l) (λ l. absurd (omega arith))
is_first f n (Some i) h = (h.1, first_at_lem f n i (omega (arith, h.1)) (λ k l. h.3 k (omega arith) l (omega (arith, h.1))) (λ l. h.2 l))

pub find-requires : goal.find-requires
find-requires c = record {
  can = tt;
  finite = tt;
  callable = serves_from_Range (λ x q k. search (rules, tests)) (λ x low high.
      let e = exact high c.requires.bounded c.requires.edges_within c.requires.on_within in
      simp (to_z-of_z, c.ranges.sum) (search rules));
}

pub returns : goal.returns
returns c =
    let closes_at = λ (u : ℕ). closes c.args.edges.now c.args.on.now c.args.sum u in
    is_first closes_at c.args.n c.find.result
    (first_from_Range _ _ _ _ (λ u. u < c.args.n → closes_at u ≡ true) (λ u. u < c.args.n → closes_at u ≡ false) c.find.ensures.ran
    (λ x q k high. let e = exact high c.requires.bounded c.requires.edges_within c.requires.on_within in grind (arith, tests, to_z-of_z))
    (λ x q k. (search rules, λ high. let e = exact high c.requires.bounded c.requires.edges_within c.requires.on_within in grind (arith, tests, to_z-of_z))))
