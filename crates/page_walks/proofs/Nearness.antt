-- Laws of least sums: a new fact keeps them or closes a negative cycle, and the values that meet them are those that meet the facts.
use Prim.Native.Nat.{ℕ, ◌+◌, ◌≤◌, ◌<◌}
use mathlib.Core.Path.{◌≡◌, ◌∙◌}
use mathlib.Core.Logic.{◌⊎◌, inl, inr}
use lib.IntN.{ℤ, pos, negsuc, ◌+ℤ◌}
use lib.Signed.{◌≤ℤ◌}
use native.Mathlib.Omega.{arith}
use Rattle.page_numbers.specs.Numbers.{up, dn}
use Rattle.page_numbers.proofs.Bridge.{ints, +law, min_spec}
use Rattle.page_walks.specs.Walk.{Sat}
use Rattle.page_walks.specs.Grid.{far, far_n}
use Rattle.page_walks.specs.Nearness.{Weights, via, relax, Triangle, Least}

module _ (N : ℕ) where
  -- its row of vertex 0 meets it
  pub least_sat : (near : Weights) → Least N near → 0 < N → Sat near N (near 0)
  unfolding Sat
  least_sat near c z u v hu hv = c.triangle 0 u v z hu hv

  -- ---- a new fact that closes no negative cycle keeps least sums
  module _ (near : Weights) (c : Least N near) (b a : ℕ) (k : ℤ) (hb : b < N) (ha : a < N) where
    via_law : (u v : ℕ) → up (via near b a k u v) + (dn (near u b) + dn k + dn (near a v)) ≡ dn (via near b a k u v) + (up (near u b) + up k + up (near a v))
    via_law u v = omega (arith, +law (near u b) k, +law (near u b +ℤ k) (near a v))

    pub relax_less : (u v : ℕ) → relax near b a k u v ≤ℤ near u v
    unfolding relax
    relax_less u v = (min_spec (near u v) (via near b a k u v)).0

    new : (u v : ℕ) → relax near b a k u v ≤ℤ via near b a k u v
    unfolding relax
    new u v = (min_spec (near u v) (via near b a k u v)).1

    which : (u v : ℕ) → (relax near b a k u v ≡ near u v) ⊎ (relax near b a k u v ≡ via near b a k u v)
    unfolding relax
    which u v = (min_spec (near u v) (via near b a k u v)).2

    -- the cycle that the new edge closes through u and v
    round : pos 0 ≤ℤ (near a b +ℤ k) → (u : ℕ) → u < N → dn (near u b) + dn k + dn (near a u) ≤ up (near u b) + up k + up (near a u)
    round h u hu = omega (ints, c.triangle a u b ha hu hb, +law (near a b) k, +law (near a u) (near u b))

    relax_itself : pos 0 ≤ℤ (near a b +ℤ k) → (u : ℕ) → u < N → relax near b a k u u ≡ pos 0
    relax_itself h u hu = go (which u u)
      where
        go : (relax near b a k u u ≡ near u u) ⊎ (relax near b a k u u ≡ via near b a k u u) → relax near b a k u u ≡ pos 0
        go (inl e) = e ∙ c.itself u hu
        go (inr e) = omega (ints, relax_less u u, c.itself u hu, e, via_law u u, round h u hu)

    relax_triangle : pos 0 ≤ℤ (near a b +ℤ k) → Triangle N (relax near b a k)
    relax_triangle h u v x hu hv hx = go (which u v) (which v x)
      where
        go : (relax near b a k u v ≡ near u v) ⊎ (relax near b a k u v ≡ via near b a k u v) → (relax near b a k v x ≡ near v x) ⊎ (relax near b a k v x ≡ via near b a k v x) → relax near b a k u x ≤ℤ (relax near b a k u v +ℤ relax near b a k v x)
        go (inl d) (inl e) = rw (d, e) (omega (ints, relax_less u x, c.triangle u v x hu hv hx))
        go (inl d) (inr e) = rw (d, e) (omega (ints, new u x, via_law u x, via_law v x, c.triangle u v b hu hv hb, +law (near u v) (near v b), +law (near u v) (via near b a k v x)))
        go (inr d) (inl e) = rw (d, e) (omega (ints, new u x, via_law u x, via_law u v, c.triangle a v x ha hv hx, +law (near a v) (near v x), +law (via near b a k u v) (near v x)))
        go (inr d) (inr e) = rw (d, e) (omega (ints, new u x, via_law u x, via_law u v, via_law v x, round h v hv, +law (via near b a k u v) (via near b a k v x)))

    pub relax_least : pos 0 ≤ℤ (near a b +ℤ k) → Least N (relax near b a k)
    relax_least h = record { itself = relax_itself h; triangle = relax_triangle h }

    -- the new edge is in
    relax_new : relax near b a k b a ≤ℤ k
    relax_new = omega (ints, new b a, via_law b a, c.itself b hb, c.itself a ha)

    -- values that meet the new sums are those that meet the old ones and the fact
    module _ (x : ℕ → ℤ) where
      pub relaxed_old : Sat (relax near b a k) N x → Sat near N x
      unfolding Sat
      relaxed_old s u v hu hv = omega (ints, s u v hu hv, relax_less u v, +law (x u) (relax near b a k u v), +law (x u) (near u v))

      pub relaxed_fact : Sat (relax near b a k) N x → x a ≤ℤ (x b +ℤ k)
      unfolding Sat
      relaxed_fact s = omega (ints, s b a hb ha, relax_new, +law (x b) (relax near b a k b a), +law (x b) k)

      pub relaxed_both : Sat near N x → x a ≤ℤ (x b +ℤ k) → Sat (relax near b a k) N x
      unfolding Sat
      relaxed_both s f u v hu hv = go (which u v)
        where
          go : (relax near b a k u v ≡ near u v) ⊎ (relax near b a k u v ≡ via near b a k u v) → x v ≤ℤ (x u +ℤ relax near b a k u v)
          go (inl e) = rw e (s u v hu hv)
          go (inr e) = rw e (omega (ints, s u b hu hb, s a v ha hv, f, via_law u v, +law (x u) (near u b), +law (x a) (near a v), +law (x b) k, +law (x u) (via near b a k u v)))

      -- so they can be met only if the cycle isn't negative
      pub fact_round : Sat near N x → x a ≤ℤ (x b +ℤ k) → pos 0 ≤ℤ (near a b +ℤ k)
      unfolding Sat
      fact_round s f = omega (ints, s a b ha hb, f, +law (x a) (near a b), +law (x b) k, +law (near a b) k)

-- ---- sums in range: least sums that are at most a missing edge's weight stay within ±2^40
small_int : (z : ℤ) → z ≤ℤ far → pos 0 ≤ℤ (far +ℤ z) → (up z ≤ far_n) × (dn z ≤ far_n)
small_int (pos k) h l = omega ints
small_int (negsuc k) h l = omega (ints, +law far (negsuc k))

pub near_small : (N : ℕ) (near : Weights) → Least N near → ((u v : ℕ) → u < N → v < N → near u v ≤ℤ far) → (u v : ℕ) → u < N → v < N → (up (near u v) ≤ far_n) × (dn (near u v) ≤ far_n)
near_small N near c h u v hu hv = small_int (near u v) (h u v hu hv) (omega (ints, c.itself u hu, c.triangle u v u hu hv hu, h v u hv hu, +law (near u v) (near v u), +law far (near u v)))
