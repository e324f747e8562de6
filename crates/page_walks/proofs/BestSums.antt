-- The least sums by edge count, step by step, and how large they grow; and what a loop that stops at the first has found.
use Prim.Native.Nat.{ℕ, zero, suc, ◌+◌, ◌-◌, ◌*◌, ◌≤◌, ◌<◌}
use mathlib.Core.Path.{◌≡◌, refl, sym, ap, ap₂, subst}
use mathlib.Core.Bool.{Bool, true, false, cond}
use native.Mathlib.Omega.{arith}
use native.Mathlib.Decide.{dec_lt}
use lib.Dec.{T}
use lib.ListN.{get_or}
use lib.IntN.{ℤ, pos, ◌+ℤ◌}
use Rattle.page_numbers.specs.Numbers.{min_z}
use Rattle.page_meaning.specs.Limits.{most_vertices}
use Rattle.page_walks.specs.Grid.{Grid, row, weight, far_n}
use Rattle.page_walks.specs.Sizes.{wide, Bounded, RowWithin, AllWithin, Sized}
use Rattle.page_walks.specs.Search.{least, first, best}
use Rattle.page_walks.proofs.Search.{first_unique, least_hit}
use Rattle.page_walks.proofs.Rows.{read}
use Rattle.page_walks.proofs.Sums.{bounded_more, bounded_plus}

-- ---- the least, by index
pub least_same : (f g : ℕ → ℤ) (n : ℕ) → ((i : ℕ) → i ≤ n → f i ≡ g i) → least f n ≡ least g n
unfolding least
least_same f g zero h = h 0 (omega arith)
least_same f g (suc n) h = ap₂ min_z (least_same f g n (λ i k. h i (omega arith))) (h (suc n) (omega arith))

pub least_more : (f : ℕ → ℤ) (n : ℕ) → 0 < n → least f (n + 1 - 1) ≡ min_z (least f (n - 1)) (f n)
unfolding least
least_more f zero h = absurd (omega arith)
least_more f (suc n) h = let a : suc n + 1 - 1 ≡ suc n = omega arith in let b : suc n - 1 ≡ n = omega arith in rw (a, b)

-- ---- the first, by index
pub first_at_lem : (f : ℕ → Bool) (n r : ℕ) → r ≤ n → ((i : ℕ) → i < r → f i ≡ false) → (r < n → f r ≡ true) → r ≡ first f n
first_at_lem f n r h none hit = first_unique f n r (record { bound = h; pass = λ k. subst T (sym (hit k)) tt; before = λ i k t. after i t })
  where
    after : (i : ℕ) → T (f i) → r ≤ i
    after i t = elim (dec_lt i r) [ yes k ↦ absurd (subst T (none i k) t) | no k ↦ omega arith ]

pub first_same : (f g : ℕ → Bool) (n : ℕ) → ((i : ℕ) → i < n → f i ≡ g i) → first f n ≡ first g n
unfolding first
first_same f g zero h = refl
first_same f g (suc n) h = ap₂ (λ b r. cond b zero (suc r)) (h 0 (omega arith)) (first_same (λ i. f (suc i)) (λ i. g (suc i)) n (λ i k. h (suc i) (omega arith)))

-- ---- rows as they are read
pub row_within : (b n : ℕ) (g : Grid) → Sized most_vertices g → n ≤ most_vertices → AllWithin b n g → b ≤ wide → (u : ℕ) → u < n → RowWithin wide n (row g u)
row_within b n g s h all hb u hu = record { entry = λ v hv. rw (read most_vertices g u v s (omega arith) (omega arith)) (bounded_more b wide (weight g u v) hb (all.entry u v hu hv)) }

pub least_edges : (n : ℕ) (g : Grid) (on : ℕ → ℤ) → Sized most_vertices g → (0 < n) × (n ≤ most_vertices) → (v : ℕ) → v < n → least (λ u. get_or (row g v) u (pos 0) +ℤ on u) (n - 1) ≡ least (λ u. weight g v u +ℤ on u) (n - 1)
least_edges n g on s h v hv = least_same _ _ (n - 1) (λ u l. ap (λ z. z +ℤ on u) (read most_vertices g v u s (omega (arith, h.1)) (omega (arith, h))))

module _ (g : Grid) (n : ℕ) (hn : 0 < n) (all : AllWithin far_n n g) where
  -- each edge adds far at most
  pub best_bounded : (k s v : ℕ) → s < n → v < n → Bounded (suc k * far_n) (best (weight g) (n - 1) k s v)
  unfolding best
  best_bounded zero s v hs hv = bounded_more far_n (1 * far_n) (weight g v s) (omega arith) (all.entry v s hv hs)
  best_bounded (suc k) s v hs hv =
      let m = least_hit (λ u. weight g v u +ℤ best (weight g) (n - 1) k s u) (n - 1) in
      let u = m.0 in
      let hu : u < n = omega (arith, m.1) in
      rw m.2 (bounded_more (far_n + suc k * far_n) (suc (suc k) * far_n) (weight g v u +ℤ best (weight g) (n - 1) k s u) (omega arith)
      (bounded_plus far_n (suc k * far_n) (weight g v u) (best (weight g) (n - 1) k s u) (all.entry v u hv hu) (best_bounded k s u hs hu)))

  pub best_wide : (k s v : ℕ) → k ≤ most_vertices → s < n → v < n → Bounded wide (best (weight g) (n - 1) k s v)
  best_wide k s v h hs hv = bounded_more (suc k * far_n) wide (best (weight g) (n - 1) k s v) (omega arith) (best_bounded k s v hs hv)

  -- one edge more
  pub best_next : (k s v : ℕ) (on : ℕ → ℤ) → ((u : ℕ) → u < n → on u ≡ best (weight g) (n - 1) k s u) → least (λ u. weight g v u +ℤ on u) (n - 1) ≡ best (weight g) (n - 1) (suc k) s v
  unfolding best
  best_next k s v on h = least_same (λ u. weight g v u +ℤ on u) (λ u. weight g v u +ℤ best (weight g) (n - 1) k s u) (n - 1) (λ u l. ap (λ z. weight g v u +ℤ z) (h u (omega arith)))
