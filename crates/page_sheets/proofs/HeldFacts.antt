-- What a grid made from ranges and decisions holds: weights in bounds, and each fact that went in.
use Prim.Native.Nat.{ℕ, suc, ◌+◌, ◌≤◌, ◌<◌}
use mathlib.Core.Path.{◌≡◌, ap}
use mathlib.Core.Logic.{◌⊎◌, inl, inr}
use mathlib.Core.Bool.{Bool, true, false}
use mathlib.Core.Option.{none, some}
use mathlib.Core.List.{List, [], ◌∷◌, ◌++◌}
use native.Mathlib.Omega.{arith}
use lib.ListN.{length, get_or}
use lib.Dec.{T}
use lib.IntN.{ℤ, pos, negsuc, ◌+ℤ◌, neg_ℤ}
use lib.Signed.{◌≤ℤ◌, ◌<ℤ◌, le_z_yes, ≤ℤ_refl}
use Rattle.page_numbers.specs.Numbers.{up, dn}
use Rattle.page_numbers.proofs.Bridge.{+law, +dn, neg_up, neg_dn, ints}
use Rattle.page_meaning.specs.Limits.{most_vertices}
use Rattle.page_walks.specs.Grid.{far, Grid, weight, tighten, blank}
use Rattle.page_walks.specs.Sizes.{least_weight, Sized}
use Rattle.page_walks.specs.Walk.{closed, Sat}
use Rattle.page_walks.proofs.Grids.{tighten_keeps, tighten_le, tighten_sized, tighten_new, blank_sized, blank_far, Misses, missing_closed}
use Rattle.page_formulas.specs.Program.{Values, test, Place}
use Rattle.page_formulas.specs.Vertices.{Inside, InRange, Ranges, is_some, present}
use Rattle.page_formulas.specs.Truths.{Agrees}
use Rattle.page_formulas.specs.ProperFormulas.{SmallRange, SmallPlace}
use Rattle.page_questions.specs.Guarantees.{Every}
use Rattle.page_sheets.specs.Facts.{start, confine, confine_all, decide}
use Rattle.page_sheets.proofs.Fit.{to_true, to_false}
use Rattle.page_sheets.proofs.Soundness.{agrees_snoc}

pub record InBounds (N : ℕ) (rs : Ranges) (g : Grid) : Type 0 where
  pub sized : Sized N g
  pub floor : (u v : ℕ) → dn (weight g u v) ≤ least_weight
  pub ceiling : (u v : ℕ) → weight g u v ≤ℤ far
  pub no_way_out : (u v : ℕ) → ¬ T (present rs u) → far ≤ℤ weight g u v
  pub no_way_in : (u v : ℕ) → ¬ T (present rs v) → far ≤ℤ weight g u v

pub bounds_tighten : (N : ℕ) (rs : Ranges) (g : Grid) (u v : ℕ) (k : ℤ) → T (present rs u) → T (present rs v) → dn k ≤ least_weight → InBounds N rs g → InBounds N rs (tighten g u v k)
bounds_tighten N rs g u v k hu hv hk b = record {
  sized = tighten_sized N g u v k b.sized;
  floor = λ x y. tighten_keeps (λ z. dn z ≤ least_weight) g u v k x y (b.floor x y) (λ d e. hk);
  ceiling = λ x y. omega (ints, tighten_le g u v k x y, b.ceiling x y);
  no_way_out = λ x y f. tighten_keeps (λ z. far ≤ℤ z) g u v k x y (b.no_way_out x y f) (λ d e. absurd (f (rw d hu)));
  no_way_in = λ x y f. tighten_keeps (λ z. far ≤ℤ z) g u v k x y (b.no_way_in x y f) (λ d e. absurd (f (rw e hv)));
}

bounds_blank : (N : ℕ) (rs : Ranges) → InBounds N rs (blank N)
bounds_blank N rs = record {
  sized = blank_sized N;
  floor = λ u v. rw blank_far (omega arith);
  ceiling = λ u v. rw blank_far (≤ℤ_refl far);
  no_way_out = λ u v f. rw blank_far (≤ℤ_refl far);
  no_way_in = λ u v f. rw blank_far (≤ℤ_refl far);
}

-- ts is what rs has from vertex s on
abbrev FromVertex : Ranges → ℕ → Ranges → Type 0
FromVertex rs s ts = (i : ℕ) → T (is_some (get_or ts i none)) → (v : ℕ) → v ≡ s + i → T (present rs v)

bounds_confine : (N : ℕ) (rs : Ranges) (g : Grid) (s : ℕ) (ts : Ranges) → FromVertex rs s ts → Every SmallRange ts → InBounds N rs g → InBounds N rs (confine_all g s ts)
unfolding confine_all
bounds_confine N rs g s [] f a b = b
bounds_confine N rs g s (none ∷ ts) f a b = bounds_confine N rs g (suc s) ts (λ i t v e. f (suc i) t v (omega arith)) a.1 b
bounds_confine N rs g s (some r ∷ ts) f a b =
    let here : T (present rs s) = f 0 tt s (omega arith) in
    bounds_confine N rs (confine g s (some r)) (suc s) ts (λ i t v e. f (suc i) t v (omega arith)) a.1
    (bounds_tighten N rs (tighten g 0 s r.hi) s 0 (neg_ℤ r.lo) here tt (omega (arith, neg_dn r.lo, a.0.2))
    (bounds_tighten N rs g 0 s r.hi tt here (omega (arith, a.0.1)) b))

pub bounds_start : (N : ℕ) (rs : Ranges) → Every SmallRange rs → InBounds N rs (start N rs)
bounds_start N rs a = bounds_confine N rs (blank N) 1 rs (λ i t v e. let d : v ≡ suc i = omega arith in rw d t) a (bounds_blank N rs)

pub bounds_decide : (N : ℕ) (rs : Ranges) (g : Grid) (p : Place) (d : Bool) → SmallPlace rs p → InBounds N rs g → InBounds N rs (decide g p d)
bounds_decide N rs g p true s b = bounds_tighten N rs g p.right p.left p.most s.right_is s.left_is s.low b
bounds_decide N rs g p false s b = bounds_tighten N rs g p.left p.right (neg_ℤ p.most +ℤ negsuc 0) s.left_is s.right_is (omega (arith, +dn (neg_ℤ p.most) (negsuc 0), neg_dn p.most, s.high)) b

-- a short closed walk below zero goes through the formula's vertices only
module _ (N : ℕ) (rs : Ranges) (g : Grid) (b : InBounds N rs g) where
  lacks : (u : ℕ) (p : List ℕ) (t : ℕ) → ¬ T (present rs u) → Misses (weight g) b.floor u p t
  lacks u [] t f = b.no_way_out u t f
  lacks u (x ∷ p) t f = inl (b.no_way_out u x f)

  present_or_misses : (u : ℕ) (p : List ℕ) (t : ℕ) → Every (λ v. T (present rs v)) (u ∷ p) ⊎ Misses (weight g) b.floor u p t
  present_or_misses u [] t = go (present rs u) (λ h. h) (λ h. h)
    where
      go : (c : Bool) → (T c → T (present rs u)) → (T (present rs u) → T c) → (T (present rs u) × Unit {0}) ⊎ Misses (weight g) b.floor u [] t
      go true yes' no' = inl (yes' tt, tt)
      go false yes' no' = inr (lacks u [] t no')
  present_or_misses u (x ∷ p) t = go (present rs u) (λ h. h) (λ h. h) (present_or_misses x p t)
    where
      go : (c : Bool) → (T c → T (present rs u)) → (T (present rs u) → T c) → Every (λ v. T (present rs v)) (x ∷ p) ⊎ Misses (weight g) b.floor x p t → Every (λ v. T (present rs v)) (u ∷ (x ∷ p)) ⊎ Misses (weight g) b.floor u (x ∷ p) t
      go true yes' no' (inl a) = inl (yes' tt, a)
      go true yes' no' (inr m) = inr (inr m)
      go false yes' no' r = inr (lacks u (x ∷ p) t no')

  pub negative_present : (c : List ℕ) → length c ≤ most_vertices → closed (weight g) c <ℤ pos 0 → Every (λ v. T (present rs v)) c
  negative_present [] l h = tt
  negative_present (v ∷ p) l h = elim (present_or_misses v p v) [ inl a ↦ a | inr m ↦ absurd (omega (ints, missing_closed (weight g) b.floor v p (omega arith) m)) ]

-- ---- each fact that went in holds of values that meet the grid
pub sat_loosen : (N : ℕ) (g g' : Grid) (x : Values) → ((a b : ℕ) → weight g' a b ≤ℤ weight g a b) → Sat (weight g') N x → Sat (weight g) N x
unfolding Sat
sat_loosen N g g' x l s u v hu hv = omega (ints, l u v, s u v hu hv, +law (x u) (weight g u v), +law (x u) (weight g' u v))

confine_le : (g : Grid) (s : ℕ) (ts : Ranges) (a b : ℕ) → weight (confine_all g s ts) a b ≤ℤ weight g a b
unfolding confine_all
confine_le g s [] a b = ≤ℤ_refl (weight g a b)
confine_le g s (none ∷ ts) a b = confine_le g (suc s) ts a b
confine_le g s (some r ∷ ts) a b = omega (ints, confine_le (confine g s (some r)) (suc s) ts a b, tighten_le g 0 s r.hi a b, tighten_le (tighten g 0 s r.hi) s 0 (neg_ℤ r.lo) a b)

within_confine : (N : ℕ) (x : Values) → x 0 ≡ pos 0 → (g : Grid) (s : ℕ) (ts : Ranges) → Sized N g → 0 < N → s + length ts ≤ N → Sat (weight (confine_all g s ts)) N x → Inside x s ts
unfolding confine_all Sat
within_confine N x z g s [] sz h l m = tt
within_confine N x z g s (none ∷ ts) sz h l m = within_confine N x z g (suc s) ts sz h (omega arith) m
within_confine N x z g s (some r ∷ ts) sz h l m =
    let g₁ = tighten g 0 s r.hi in
    let g₂ = tighten g₁ s 0 (neg_ℤ r.lo) in
    let s₁ = tighten_sized N g 0 s r.hi sz in
    let e = confine_all g₂ (suc s) ts in
    let hs : s < N = omega arith in (
      omega (ints, ap up z, ap dn z, m s 0 hs h, confine_le g₂ (suc s) ts s 0, tighten_new N g₁ s 0 (neg_ℤ r.lo) s₁ hs h, +law (x s) (weight e s 0), neg_up r.lo, neg_dn r.lo),
      omega (ints, ap up z, ap dn z, m 0 s h hs, confine_le g₂ (suc s) ts 0 s, tighten_le g₁ s 0 (neg_ℤ r.lo) 0 s, tighten_new N g 0 s r.hi sz h hs, +law (x 0) (weight e 0 s)),
      within_confine N x z g₂ (suc s) ts (tighten_sized N g₁ s 0 (neg_ℤ r.lo) s₁) h (omega arith) m,
    )

-- values that meet the grid are in range and agree with the decisions
abbrev pub Records : ℕ → Ranges → List Place → Grid → List Bool → Type 0
Records N rs ps g ds = (x : Values) → x 0 ≡ pos 0 → Sat (weight g) N x → InRange rs x × Agrees x ps ds

pub records_start : (N : ℕ) (rs : Ranges) (ps : List Place) → length rs < N → Records N rs ps (start N rs) []
records_start N rs ps l x z m = (record { at_zero = z; within = within_confine N x z (blank N) 1 rs (blank_sized N) (omega arith) (omega arith) m }, none' ps)
  where
    none' : (ps : List Place) → Agrees x ps []
    none' [] = tt
    none' (p ∷ ps) = tt

-- a decision went in
decide_le : (g : Grid) (p : Place) (d : Bool) (a b : ℕ) → weight (decide g p d) a b ≤ℤ weight g a b
decide_le g p true a b = tighten_le g p.right p.left p.most a b
decide_le g p false a b = tighten_le g p.left p.right (neg_ℤ p.most +ℤ negsuc 0) a b

decide_test : (N : ℕ) (g : Grid) (p : Place) (d : Bool) (x : Values) → Sized N g → p.left < N → p.right < N → Sat (weight (decide g p d)) N x → test x p ≡ d
unfolding Sat
decide_test N g p true x s hl hr m =
    let h : x p.left ≤ℤ (x p.right +ℤ p.most) = omega (ints, m p.right p.left hr hl, tighten_new N g p.right p.left p.most s hr hl, +law (x p.right) p.most, +law (x p.right) (weight (decide g p true) p.right p.left)) in
    to_true (test x p) h.le
decide_test N g p false x s hl hr m =
    let k = neg_ℤ p.most +ℤ negsuc 0 in
    to_false (test x p) (λ t. let h : x p.left ≤ℤ (x p.right +ℤ p.most) = le_z_yes t in omega (ints, m p.left p.right hl hr, tighten_new N g p.left p.right k s hl hr, +law (x p.right) p.most, +law (x p.left) (weight (decide g p false) p.left p.right), neg_up p.most, neg_dn p.most, +law (neg_ℤ p.most) (negsuc 0)))

pub records_decide : (N : ℕ) (rs : Ranges) (done : List Place) (p : Place) (todo : List Place) (g : Grid) (ds : List Bool) (d : Bool) → Sized N g → p.left < N → p.right < N → length done ≡ length ds → Records N rs (done ++ p ∷ todo) g ds → Records N rs (done ++ p ∷ todo) (decide g p d) (ds ++ d ∷ [])
records_decide N rs done p todo g ds d s hl hr l r x z m =
    let old = r x z (sat_loosen N g (decide g p d) x (decide_le g p d) m) in
    (old.0, agrees_snoc x done p todo ds d l old.1 (decide_test N g p d x s hl hr m))
