-- Laws of the grid: what a tightened edge changes, and that no closed walk below zero uses a missing edge.
use Prim.Native.Nat.{ℕ, zero, suc, ◌+◌, ◌*◌, ◌≤◌, ◌<◌}
use mathlib.Core.Path.{◌≡◌, refl, sym, ap, ap₂, ◌∙◌, subst, fun_ext}
use mathlib.Core.Logic.{◌⊎◌, inl, inr}
use mathlib.Core.Bool.{Bool, true, false, not}
use mathlib.Core.List.{List, [], ◌∷◌}
use native.Mathlib.Omega.{arith}
use native.Mathlib.Decide.{dec_lt, ℕ_discrete}
use lib.ListN.{length, get_or, set, replicate, length-set, length-replicate, get_or-replicate}
use lib.Seq.{get_or-set_same, get_or-set_other, set_out}
use lib.IntN.{ℤ, pos}
use lib.Dec.{T}
use lib.Signed.{◌≤ℤ◌, ◌<ℤ◌, lt_z, lt_z_yes, lt_z_no, ≤ℤ_refl}
use Rattle.page_numbers.specs.Numbers.{up, dn, min_z}
use Rattle.page_numbers.proofs.Bridge.{ints, +law, min_spec}
use Rattle.page_meaning.specs.Limits.{most_vertices}
use Rattle.page_walks.specs.Walk.{from}
use Rattle.page_walks.specs.Grid.{far_n, far, Grid, row, weight, tighten, blank}
use Rattle.page_walks.specs.Sizes.{least_weight, Sized}

-- the edge that is tightened, and every other
pub tighten_is : (g : Grid) (u v : ℕ) (k : ℤ) (a b : ℕ) → (weight (tighten g u v k) a b ≡ weight g a b) ⊎ ((a ≡ u) × (b ≡ v) × (weight (tighten g u v k) a b ≡ min_z (weight g u v) k))
unfolding tighten
tighten_is g u v k a b = go (ℕ_discrete a u) (dec_lt u (length g)) (ℕ_discrete b v) (dec_lt v (length (row g u)))
  where
    m : ℤ
    m = min_z (weight g u v) k

    new : List ℤ
    new = set (row g u) v m

    go : Dec (a ≡ u) → Dec (u < length g) → Dec (b ≡ v) → Dec (v < length (row g u)) → (weight (set g u new) a b ≡ weight g a b) ⊎ ((a ≡ u) × (b ≡ v) × (weight (set g u new) a b ≡ m))
    go (no f) hu eb hv = inl (ap (λ r. get_or r b far) (get_or-set_other g u a new [] f))
    go (yes e) (no hu) eb hv = inl (ap (λ h. weight h a b) (set_out g u new (omega arith)))
    go (yes e) (yes hu) (no f) hv = inl (rw e (ap (λ r. get_or r b far) (get_or-set_same g u new [] hu) ∙ get_or-set_other (row g u) v b m far f))
    go (yes e) (yes hu) (yes d) (no hv) = inl (rw e (ap (λ r. get_or r b far) (get_or-set_same g u new [] hu) ∙ ap (λ r. get_or r b far) (set_out (row g u) v m (omega arith))))
    go (yes e) (yes hu) (yes d) (yes hv) = inr (e, d, rw (e, d) (ap (λ r. get_or r v far) (get_or-set_same g u new [] hu) ∙ get_or-set_same (row g u) v m far hv))

-- what holds of the old weight, and of the new one at the tightened edge, holds after
pub tighten_keeps : (P : ℤ → Type 0) (g : Grid) (u v : ℕ) (k : ℤ) (a b : ℕ) → P (weight g a b) → (a ≡ u → b ≡ v → P k) → P (weight (tighten g u v k) a b)
tighten_keeps P g u v k a b old new = go (tighten_is g u v k a b)
  where
    go : (weight (tighten g u v k) a b ≡ weight g a b) ⊎ ((a ≡ u) × (b ≡ v) × (weight (tighten g u v k) a b ≡ min_z (weight g u v) k)) → P (weight (tighten g u v k) a b)
    go (inl e) = rw e old
    go (inr e) = pick (min_spec (weight g u v) k).2
      where
        pick : (min_z (weight g u v) k ≡ weight g u v) ⊎ (min_z (weight g u v) k ≡ k) → P (weight (tighten g u v k) a b)
        pick (inl d) = subst P (ap₂ (λ x y. weight g x y) e.0 e.1 ∙ sym d ∙ sym e.2) old
        pick (inr d) = subst P (sym d ∙ sym e.2) (new e.0 e.1)

pub tighten_le : (g : Grid) (u v : ℕ) (k : ℤ) (a b : ℕ) → weight (tighten g u v k) a b ≤ℤ weight g a b
tighten_le g u v k a b = go (tighten_is g u v k a b)
  where
    go : (weight (tighten g u v k) a b ≡ weight g a b) ⊎ ((a ≡ u) × (b ≡ v) × (weight (tighten g u v k) a b ≡ min_z (weight g u v) k)) → weight (tighten g u v k) a b ≤ℤ weight g a b
    go (inl e) = rw e (≤ℤ_refl (weight g a b))
    go (inr e) = omega (ints, (min_spec (weight g u v) k).0, ap₂ (λ x y. weight g x y) e.0 e.1, e.2)

pub tighten_sized : (N : ℕ) (g : Grid) (u v : ℕ) (k : ℤ) → Sized N g → Sized N (tighten g u v k)
unfolding tighten
tighten_sized N g u v k s = record { rows = length-set g u new ∙ s.rows; columns = λ a h. go a h (ℕ_discrete a u) }
  where
    new : List ℤ
    new = set (row g u) v (min_z (weight g u v) k)

    go : (a : ℕ) → a < N → Dec (a ≡ u) → length (row (set g u new) a) ≡ N
    go a h (yes e) = let hu : u < N = omega arith in rw (e, get_or-set_same g u new [] (omega (arith, s.rows))) (length-set (row g u) v (min_z (weight g u v) k) ∙ s.columns u hu)
    go a h (no f) = ap length (get_or-set_other g u a new [] f) ∙ s.columns a h

-- the edge that is tightened
pub tighten_at : (N : ℕ) (g : Grid) (u v : ℕ) (k : ℤ) → Sized N g → u < N → v < N → weight (tighten g u v k) u v ≡ min_z (weight g u v) k
unfolding tighten
tighten_at N g u v k s hu hv =
    let m = min_z (weight g u v) k in
    ap (λ r. get_or r v far) (get_or-set_same g u (set (row g u) v m) [] (omega (arith, s.rows))) ∙ get_or-set_same (row g u) v m far (omega (arith, s.columns u hu))

-- and any other
pub tighten_beside : (g : Grid) (u v : ℕ) (k : ℤ) (a b : ℕ) → ¬ ((a ≡ u) × (b ≡ v)) → weight (tighten g u v k) a b ≡ weight g a b
tighten_beside g u v k a b other = elim (tighten_is g u v k a b) [ inl d ↦ d | inr d ↦ absurd (other (d.0, d.1)) ]

pub tighten_new : (N : ℕ) (g : Grid) (u v : ℕ) (k : ℤ) → Sized N g → u < N → v < N → weight (tighten g u v k) u v ≤ℤ k
tighten_new N g u v k s hu hv = rw (tighten_at N g u v k s hu hv) (min_spec (weight g u v) k).1

-- grids of two sizes with the same weights keep the same weights
pub tighten_alike : (N M : ℕ) (g h : Grid) (u v : ℕ) (k : ℤ) → Sized N g → Sized M h → (u < N) × (v < N) → (u < M) × (v < M) → weight g ≡ weight h → weight (tighten g u v k) ≡ weight (tighten h u v k)
tighten_alike N M g h u v k s t i j e = fun_ext (λ a. fun_ext (λ b. go a b (ℕ_discrete a u) (ℕ_discrete b v)))
  where
    beside : (a b : ℕ) → ¬ ((a ≡ u) × (b ≡ v)) → weight (tighten g u v k) a b ≡ weight (tighten h u v k) a b
    beside a b other = tighten_beside g u v k a b other ∙ ap (λ w. w a b) e ∙ sym (tighten_beside h u v k a b other)

    go : (a b : ℕ) → Dec (a ≡ u) → Dec (b ≡ v) → weight (tighten g u v k) a b ≡ weight (tighten h u v k) a b
    go a b (yes d) (yes c) = rw (d, c) (tighten_at N g u v k s i.0 i.1 ∙ ap (λ w. min_z (w u v) k) e ∙ sym (tighten_at M h u v k t j.0 j.1))
    go a b (no f) d = beside a b (λ x. f x.0)
    go a b (yes d) (no f) = beside a b (λ x. f x.1)

pub blank_sized : (N : ℕ) → Sized N (blank N)
unfolding blank
blank_sized N = record { rows = length-replicate N (replicate N far); columns = λ u h. ap length (get_or-replicate N u (replicate N far) [] h) ∙ length-replicate N far }

pub blank_far : (N u v : ℕ) → weight (blank N) u v ≡ far
unfolding blank
blank_far N u v = rows N u
  where
    cells : (n i : ℕ) → get_or (replicate n far) i far ≡ far
    cells zero i = refl
    cells (suc n) zero = refl
    cells (suc n) (suc i) = cells n i

    rows : (n i : ℕ) → get_or (get_or (replicate n (replicate N far)) i []) v far ≡ far
    rows zero i = refl
    rows (suc n) zero = cells N v
    rows (suc n) (suc i) = rows n i

-- walks that use a missing edge
module _ (w : ℕ → ℕ → ℤ) (floor : (u v : ℕ) → dn (w u v) ≤ least_weight) where
  abbrev pub Misses : ℕ → List ℕ → ℕ → Type 0
  Misses u [] t = far ≤ℤ w u t
  Misses u (x ∷ p) t = (far ≤ℤ w u x) ⊎ Misses x p t

  from_floor : (u : ℕ) (p : List ℕ) (t : ℕ) → dn (from w u p t) ≤ up (from w u p t) + suc (length p) * least_weight
  from_floor u [] t = omega (arith, floor u t)
  from_floor u (x ∷ p) t = omega (arith, floor u x, from_floor x p t, +law (w u x) (from w x p t))

  missing_from : (u : ℕ) (p : List ℕ) (t : ℕ) → Misses u p t → far_n + dn (from w u p t) ≤ up (from w u p t) + length p * least_weight
  missing_from u [] t m = omega ints
  missing_from u (x ∷ p) t (inl m) = omega (ints, from_floor x p t, +law (w u x) (from w x p t))
  missing_from u (x ∷ p) t (inr m) = omega (ints, floor u x, missing_from x p t m, +law (w u x) (from w x p t))

  pub missing_closed : (v : ℕ) (p : List ℕ) → length p < most_vertices → Misses v p v → pos 0 ≤ℤ from w v p v
  missing_closed v p l m = omega (ints, missing_from v p v m)

-- ---- a closed walk below zero goes along facts: none of its edges is missing
abbrev pub Real : (ℕ → ℕ → ℤ) → ℕ → List ℕ → ℕ → Type 0
Real w u [] t = w u t <ℤ far
Real w u (x ∷ p) t = (w u x <ℤ far) × Real w x p t

real_or_misses : (w : ℕ → ℕ → ℤ) (floor : (u v : ℕ) → dn (w u v) ≤ least_weight) (u : ℕ) (p : List ℕ) (t : ℕ) → Real w u p t ⊎ Misses w floor u p t
real_or_misses w floor u [] t = go (lt_z (w u t) far) (λ h. lt_z_yes h) (λ h. lt_z_no h)
  where
    go : (b : Bool) → (T b → w u t <ℤ far) → (T (not b) → far ≤ℤ w u t) → (w u t <ℤ far) ⊎ (far ≤ℤ w u t)
    go true f g = inl (f tt)
    go false f g = inr (g tt)
real_or_misses w floor u (x ∷ p) t = go (lt_z (w u x) far) (λ h. lt_z_yes h) (λ h. lt_z_no h) (real_or_misses w floor x p t)
  where
    go : (b : Bool) → (T b → w u x <ℤ far) → (T (not b) → far ≤ℤ w u x) → Real w x p t ⊎ Misses w floor x p t → Real w u (x ∷ p) t ⊎ Misses w floor u (x ∷ p) t
    go true f g (inl r) = inl (f tt, r)
    go true f g (inr m) = inr (inr m)
    go false f g r = inr (inl (g tt))

pub negative_real : (w : ℕ → ℕ → ℤ) (floor : (u v : ℕ) → dn (w u v) ≤ least_weight) (v : ℕ) (p : List ℕ) → length p < most_vertices → from w v p v <ℤ pos 0 → Real w v p v
negative_real w floor v p l h = elim (real_or_misses w floor v p v) [ inl r ↦ r | inr m ↦ absurd (omega (ints, missing_closed w floor v p l m)) ]
