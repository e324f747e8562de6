-- Where no closed walk of 1..N vertices is negative, the least sums of the walks from 0 are the greatest assignment.
use mathlib.Core.Path.{◌≡◌, refl, sym, ap, ◌∙◌}
use mathlib.Core.Logic.{◌⊎◌, inl, inr}
use mathlib.Core.List.{List, [], ◌∷◌, ◌++◌}
use Prim.Native.Nat.{ℕ, suc, ◌+◌, ◌<◌}
use native.Mathlib.Omega.{arith}
use lib.ListN.{length, length-append}
use lib.IntN.{ℤ, pos, ◌+ℤ◌}
use lib.Signed.{◌≤ℤ◌}
use native.Mathlib.Decide.{dec_lt}
use Rattle.page_numbers.proofs.Bridge.{ints, +law}
use Rattle.page_walks.proofs.Pigeon.{below_append, below_split, has_split, Has, Dup, pigeon}
use Rattle.page_walks.proofs.Walks.{from_append, sat_from}
use Rattle.page_walks.specs.Walk.{Below, from, Sat}
use Rattle.page_walks.specs.Shortest.{NoNeg, Greatest}

has_last : (u : ℕ) (p : List ℕ) (t : ℕ) → Has u (p ++ t ∷ []) → Has u p ⊎ (u ≡ t)
has_last u [] t (inl e) = inr e
has_last u [] t (inr h) = absurd h
has_last u (x ∷ p) t (inl e) = inl (inl e)
has_last u (x ∷ p) t (inr h) = elim (has_last u p t h) [ inl a ↦ inl (inr a) | inr b ↦ inr b ]

module _ (w : ℕ → ℕ → ℤ) (N : ℕ) where
  -- a walk with a vertex twice has a shorter one that is no dearer
  abbrev Shorter : ℕ → List ℕ → ℕ → Type 0
  Shorter u p t = ((u ≡ t) × (pos 0 ≤ℤ from w u p t)) ⊎ ((q : List ℕ) × Below N q × (length q < length p) × (from w u q t ≤ℤ from w u p t))

  cut : NoNeg w N → (u : ℕ) (p : List ℕ) (t : ℕ) → u < N → Below N p → length p < N → (a b : List ℕ) → p ≡ a ++ u ∷ b → Shorter u p t
  cut nn u p t hu hp l a b e =
      let s = below_split N a (u ∷ b) (rw e at hp) in
      let k : length p ≡ length a + suc (length b) = ap length e ∙ length-append a (u ∷ b) in
      inr (b, s.1.1, omega arith, omega (ints, ap (λ m. from w u m t) e, from_append w u a u b t, nn (u ∷ a) (omega arith) (omega arith) (hu, s.0), +law (from w u a u) (from w u b t)))

  again : NoNeg w N → (u : ℕ) (p : List ℕ) (t : ℕ) → u < N → Below N p → length p < N → Has u p ⊎ (u ≡ t) → Shorter u p t
  again nn u p t hu hp l (inl m) = let r = has_split u p m in cut nn u p t hu hp l r.0 r.1 r.2
  again nn u p t hu hp l (inr e) = inl (e, rw (← e) (omega (ints, nn (u ∷ p) (omega arith) (omega arith) (hu, hp))))

  longer : (u y : ℕ) (p : List ℕ) (t : ℕ) → y < N → Shorter y p t → Shorter u (y ∷ p) t
  longer u y p t hy (inl r) = inr ([], tt, omega arith, omega (ints, ap (λ m. w u m) r.0, +law (w u y) (from w y p t)))
  longer u y p t hy (inr r) = inr (y ∷ r.0, (hy, r.1), omega arith, omega (ints, +law (w u y) (from w y p t), +law (w u y) (from w y r.0 t)))

  shorten : NoNeg w N → (u : ℕ) (p : List ℕ) (t : ℕ) → u < N → Below N p → length p < N → Dup (u ∷ p ++ t ∷ []) → Shorter u p t
  shorten nn u [] t hu hp l d = elim d [ inl h ↦ again nn u [] t hu hp l (has_last u [] t h) | inr h ↦ elim h [ inl x ↦ absurd x | inr x ↦ absurd x ] ]
  shorten nn u (y ∷ p) t hu hp l d = elim d [ inl h ↦ again nn u (y ∷ p) t hu hp l (has_last u (y ∷ p) t h) | inr h ↦ longer u y p t hp.0 (shorten nn y p t hp.0 hp.1 (omega arith) h) ]

  -- x is the least sum of the walks from 0 to v with at most N - 1 edges. The walk with none has the sum 0
  pub record Least (v : ℕ) (x : ℤ) : Type 0 where
    pub none : v ≡ 0 → x ≤ℤ pos 0
    pub low : (p : List ℕ) → suc (length p) < N → Below N p → x ≤ℤ from w 0 p v
    pub hit : ((v ≡ 0) × (x ≡ pos 0)) ⊎ ((p : List ℕ) × (suc (length p) < N) × Below N p × (x ≡ from w 0 p v))

  -- it is below the walks with N edges too
  within : NoNeg w N → (v : ℕ) (x : ℤ) → Least v x → v < N → (p : List ℕ) → length p < N → Below N p → x ≤ℤ from w 0 p v
  within nn v x m hv p l hp = go (dec_lt (suc (length p)) N)
    where
      done : Shorter 0 p v → x ≤ℤ from w 0 p v
      done (inl r) = omega (ints, m.none (sym r.0))
      done (inr r) = omega (ints, m.low r.0 (omega arith) r.1)

      go : Dec (suc (length p) < N) → x ≤ℤ from w 0 p v
      go (yes k) = m.low p k hp
      go (no k) = done (shorten nn 0 p v (omega arith) hp l (pigeon N (0 ∷ p ++ v ∷ []) (omega arith, below_append N p (v ∷ []) hp (hv, tt)) (omega (arith, length-append p (v ∷ [])))))

  -- the least sums are 0 at 0, meet every fact, and are the greatest that do
  pub complete : NoNeg w N → 0 < N → (x : ℕ → ℤ) → ((v : ℕ) → v < N → Least v (x v)) → Greatest w N x
  unfolding Sat
  complete nn hN x least = record { at_zero = start (least 0 hN).hit; meets = λ u v hu hv. step u v hu hv (least u hu).hit; most = λ y y0 s v hv. top y y0 s v hv (least v hv).hit }
    where
      Hit : ℕ → Type 0
      Hit v = ((v ≡ 0) × (x v ≡ pos 0)) ⊎ ((p : List ℕ) × (suc (length p) < N) × Below N p × (x v ≡ from w 0 p v))

      start : Hit 0 → x 0 ≡ pos 0
      start (inl r) = r.1
      start (inr r) = omega (ints, (least 0 hN).none refl, nn (0 ∷ r.0) (omega arith) (omega arith) (hN, r.2), r.3)

      step : (u v : ℕ) → u < N → v < N → Hit u → x v ≤ℤ (x u +ℤ w u v)
      step u v hu hv (inl r) = omega (ints, within nn v (x v) (least v hv) hv [] hN tt, ap (λ m. w m v) r.0, r.1, +law (x u) (w u v))
      step u v hu hv (inr r) = omega (ints, within nn v (x v) (least v hv) hv (r.0 ++ u ∷ []) (omega (arith, length-append r.0 (u ∷ []))) (below_append N r.0 (u ∷ []) r.2 (hu, tt)), from_append w 0 r.0 u [] v, r.3, +law (x u) (w u v), +law (from w 0 r.0 u) (w u v))

      top : (y : ℕ → ℤ) → y 0 ≡ pos 0 → Sat w N y → (v : ℕ) → v < N → Hit v → y v ≤ℤ x v
      top y y0 s v hv (inl r) = omega (ints, ap y r.0, r.1)
      top y y0 s v hv (inr r) = omega (ints, sat_from w N y s 0 r.0 v hN r.2 hv, r.3, +law (y 0) (from w 0 r.0 v))
