-- The least list, vertex by vertex: what is known after i vertices.
use Prim.Native.Nat.{ℕ, suc, ◌+◌, ◌-◌, ◌*◌, ◌≤◌, ◌<◌}
use mathlib.Core.Path.{◌≡◌, sym, ap, ap₂, ◌∙◌}
use mathlib.Core.List.{List, ◌∷◌, ◌++◌, append_assoc, append-nil}
use native.Mathlib.Omega.{arith}
use native.Mathlib.Numerals.{add-one}
use lib.ListN.{length, get_or, set, take, length-set}
use lib.Seq.{take-suc-set}
use lib.IntN.{ℤ, pos, ◌+ℤ◌}
use lib.Signed.{◌<ℤ◌, lt_z}
use borrow.Author.Rules.{rules}
use Rattle.std.specs.Prelude.{Option, Some, None, IsSome}
use Rattle.page_numbers.proofs.Bridge.{ints, +law}
use Rattle.page_meaning.specs.Limits.{most_vertices}
use Rattle.page_walks.specs.Grid.{Grid, row, weight, far_n}
use Rattle.page_walks.specs.Sizes.{Bounded, Sized}
use Rattle.page_walks.specs.Search.{first, best, test, greedy}
use Rattle.grid.specs.Edges.{Summable}
use Rattle.sums.specs.SumsBack.{Back}
use Rattle.cycles.specs.Firsts.{FirstIs}
use Rattle.page_walks.proofs.Search.{step}
use Rattle.page_walks.proofs.Rows.{read}
use Rattle.page_walks.proofs.Sums.{bounded_more, bounded_plus}
use Rattle.page_walks.proofs.BestSums.{first_same}

-- the first i of the vertices stand, the walk is at at, and sum is its way so far; the rest is the greedy walk's
pub record Traced (g : Grid) (n s count i : ℕ) (vertices : List ℕ) (at : ℕ) (sum : ℤ) : Type 0 where
  pub room : length vertices ≡ most_vertices
  pub here : at < n
  pub small : Bounded (i * far_n) sum
  pub negative : (sum +ℤ best (weight g) (n - 1) (count - i) s at) <ℤ pos 0
  pub list : take i vertices ++ greedy (weight g) (n - 1) (count - i) s sum at ≡ s ∷ greedy (weight g) (n - 1) (count - 1) s (pos 0) s

module _ (g : Grid) (n s count : ℕ) (m : Summable n g) (hn : (s < n) × (0 < count) × (count ≤ n)) where
  pub traced_first : (l : List ℕ) → length l ≡ most_vertices → best (weight g) (n - 1) (count - 1) s s <ℤ pos 0 → Traced g n s count 1 (set l 0 s) s (pos 0)
  traced_first l e h = record {
    room = length-set l 0 s ∙ e;
    here = hn.0;
    small = record { high = omega arith; low = omega arith };
    negative = omega (ints, h, +law (pos 0) (best (weight g) (n - 1) (count - 1) s s));
    list = ap (λ m. m ++ greedy (weight g) (n - 1) (count - 1) s (pos 0) s) (take-suc-set l 0 s (omega arith));
  }

  -- what the code takes for the next vertex
  module _ (z : Sized most_vertices g) (i : ℕ) (hi : i < count) (on : List ℤ) (b : Back g n s (count - 1 - i) on) (l : List ℕ) (at : ℕ) (sum : ℤ) (t : Traced g n s count i l at sum) where
    -- edges left after this one, less one
    left : suc (count - 1 - i) ≡ count - i
    left = omega arith

    next_is : first (λ u. lt_z ((sum +ℤ get_or (row g at) u (pos 0)) +ℤ get_or on u (pos 0)) (pos 0)) n ≡ first (test (weight g) (n - 1) (count - 1 - i) s sum at) (suc (n - 1))
    unfolding test
    next_is =
        let e : suc (n - 1) ≡ n = omega (arith, m) in
        rw e (first_same _ _ n (λ u hu. ap₂ (λ x y. lt_z ((sum +ℤ x) +ℤ y) (pos 0)) (read most_vertices g at u z (omega (arith, m, t.here)) (omega (arith, m))) (b.sum_is u hu)))

    ok : (first (test (weight g) (n - 1) (count - 1 - i) s sum at) (suc (n - 1)) < suc (n - 1)) × (((sum +ℤ weight g at (first (test (weight g) (n - 1) (count - 1 - i) s sum at) (suc (n - 1)))) +ℤ best (weight g) (n - 1) (count - 1 - i) s (first (test (weight g) (n - 1) (count - 1 - i) s sum at) (suc (n - 1)))) <ℤ pos 0)
    ok = step (weight g) (n - 1) (count - 1 - i) s sum at (rw (← left) at t.negative)

    -- there is one
    pub next_some : (o : Option ℕ) → FirstIs (λ u. lt_z ((sum +ℤ get_or (row g at) u (pos 0)) +ℤ get_or on u (pos 0)) (pos 0)) n o → IsSome o
    next_some None e = absurd (omega (arith, e, next_is, ok.0, m))
    next_some (Some u) e = search rules

    module _ (u : ℕ) (e : u ≡ first (λ u. lt_z ((sum +ℤ get_or (row g at) u (pos 0)) +ℤ get_or on u (pos 0)) (pos 0)) n) where
      u_is : u ≡ first (test (weight g) (n - 1) (count - 1 - i) s sum at) (suc (n - 1))
      u_is = e ∙ next_is

      pub next_below : u < n
      next_below = omega (arith, u_is, ok.0, m)

      pub next_small : Bounded ((i + 1) * far_n) (sum +ℤ weight g at u)
      next_small = bounded_more (i * far_n + far_n) ((i + 1) * far_n) (sum +ℤ weight g at u) (omega arith) (bounded_plus (i * far_n) far_n sum (weight g at u) t.small (m.within.entry at u t.here next_below))

      goes : greedy (weight g) (n - 1) (count - i) s sum at ≡ u ∷ greedy (weight g) (n - 1) (count - 1 - i) s (sum +ℤ weight g at u) u
      unfolding greedy
      goes = rw (← left, u_is)

      pub traced_next : Traced g n s count (i + 1) (set l i u) u (sum +ℤ weight g at u)
      traced_next =
          let d : count - (i + 1) ≡ count - 1 - i = omega arith in
          let h : i < length l = omega (arith, hn, m, t.room) in
          record {
            room = length-set l i u ∙ t.room;
            here = next_below;
            small = next_small;
            negative = rw (d, u_is) ok.1;
            list = rw (d, add-one i, take-suc-set l i u h, append_assoc) (ap (λ m. take i l ++ m) (sym goes) ∙ t.list);
          }

  pub traced_last : (l : List ℕ) (at : ℕ) (sum : ℤ) → Traced g n s count count l at sum → take count l ≡ s ∷ greedy (weight g) (n - 1) (count - 1) s (pos 0) s
  unfolding greedy
  traced_last l at sum t =
      let d : count - count ≡ 0 = omega arith in
      sym (append-nil (take count l)) ∙ (rw d at t.list)
