-- A closed walk's sum, edge by edge: what is known after i vertices.
use Prim.Native.Nat.{ℕ, zero, suc, ◌+◌, ◌*◌, ◌≤◌, ◌<◌}
use mathlib.Core.Path.{◌≡◌, sym, ap, ◌∙◌}
use mathlib.Core.List.{List, [], ◌∷◌}
use native.Mathlib.Omega.{arith}
use native.Mathlib.Numerals.{add-one}
use lib.ListN.{length, get_or, drop}
use lib.Seq.{drop-cons, drop-length}
use lib.IntN.{ℤ, pos, ◌+ℤ◌}
use mir.Syntax.{w64}
use mir.Val.{SFits}
use Rattle.page_meaning.specs.Limits.{most_vertices}
use Rattle.page_numbers.proofs.Bridge.{ints, +law}
use Rattle.page_walks.specs.Walk.{Below, from, closed}
use Rattle.page_walks.specs.Grid.{Grid, weight, far_n}
use Rattle.page_walks.specs.Sizes.{wide, Bounded, AllWithin}
use Rattle.page_walks.proofs.Sums.{bounded_plus, bounded_more, exact_wide}

pub below_at : (N : ℕ) (l : List ℕ) (i : ℕ) → Below N l → i < length l → get_or l i 0 < N
below_at N [] i b h = absurd (omega arith)
below_at N (x ∷ l) zero b h = b.0
below_at N (x ∷ l) (suc i) b h = below_at N l i b.1 (omega arith)

-- acc is the sum of the way to the i-th vertex, at; each edge adds far at most
pub record Part (N : ℕ) (g : Grid) (l : List ℕ) (i at : ℕ) (acc : ℤ) : Type 0 where
  pub here : at < N
  pub small : Bounded (i * far_n) acc
  pub rest : acc +ℤ from (weight g) at (drop i l) (get_or l 0 0) ≡ closed (weight g) l

module _ (N : ℕ) (g : Grid) (l : List ℕ) (b : Below N l) (all : AllWithin far_n N g) where
  pub part_first : 0 < length l → Part N g l 1 (get_or l 0 0) (pos 0)
  part_first h = record { here = below_at N l 0 b h; small = record { high = omega arith; low = omega arith }; rest = whole l h }
    where
      whole : (l : List ℕ) → 0 < length l → pos 0 +ℤ from (weight g) (get_or l 0 0) (drop 1 l) (get_or l 0 0) ≡ closed (weight g) l
      whole [] h = absurd (omega arith)
      whole (x ∷ p) h = omega (ints, +law (pos 0) (from (weight g) x p x))

  pub part_next : (i at : ℕ) (acc : ℤ) → Part N g l i at acc → i < length l → Part N g l (i + 1) (get_or l i 0) (acc +ℤ weight g at (get_or l i 0))
  part_next i at acc p h =
      let x = get_or l i 0 in
      let w = weight g in
      let t = get_or l 0 0 in
      let e : from w at (drop i l) t ≡ w at x +ℤ from w x (drop (suc i) l) t = ap (λ m. from w at m t) (drop-cons l i 0 h) in
      record {
        here = below_at N l i b h;
        small = bounded_more (i * far_n + far_n) ((i + 1) * far_n) (acc +ℤ w at x) (omega arith) (bounded_plus (i * far_n) far_n acc (w at x) p.small (all.entry at x p.here (below_at N l i b h)));
        rest = rw add-one (omega (ints, p.rest, e, +law acc (w at x), +law (acc +ℤ w at x) (from w x (drop (suc i) l) t), +law acc (from w at (drop i l) t), +law (w at x) (from w x (drop (suc i) l) t)));
      }

  -- one more edge is exact
  pub part_exact : (i at x : ℕ) (acc : ℤ) → Part N g l i at acc → i ≤ most_vertices → x < N → SFits w64 (acc +ℤ weight g at x)
  part_exact i at x acc p h hx = exact_wide (acc +ℤ weight g at x) (bounded_more (i * far_n + far_n) wide (acc +ℤ weight g at x) (omega arith) (bounded_plus (i * far_n) far_n acc (weight g at x) p.small (all.entry at x p.here hx)))

  pub part_last : (at : ℕ) (acc : ℤ) → Part N g l (length l) at acc → acc +ℤ weight g at (get_or l 0 0) ≡ closed (weight g) l
  part_last at acc p = ap (λ m. acc +ℤ from (weight g) at m (get_or l 0 0)) (sym (drop-length l)) ∙ p.rest
