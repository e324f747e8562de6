-- Values in range meet the facts of the ranges, and of each decision that they agree with; so no closed walk over them is below zero.
-- ---- values that meet the facts between the formula's vertices
use Prim.Native.Nat.{ℕ, suc}
use mathlib.Core.Path.{◌≡◌, ap}
use mathlib.Core.Bool.{Bool, true, false}
use mathlib.Core.Option.{none, some}
use mathlib.Core.List.{List, [], ◌∷◌}
use lib.Dec.{T}
use lib.IntN.{ℤ, pos, negsuc, ◌+ℤ◌, neg_ℤ}
use lib.Signed.{◌≤ℤ◌, ◌<ℤ◌, le_z_yes}
use Rattle.page_numbers.specs.Numbers.{up, dn}
use Rattle.page_numbers.proofs.Bridge.{+law, neg_up, neg_dn, nle_out, ints}
use Rattle.page_walks.specs.Grid.{far, Grid, weight, tighten, blank}
use Rattle.page_walks.specs.Walk.{from, closed}
use Rattle.page_walks.proofs.Grids.{tighten_keeps, blank_far}
use Rattle.page_formulas.specs.Program.{Values, test, Place}
use Rattle.page_formulas.specs.Vertices.{Inside, InRange, Ranges, present}
use Rattle.page_formulas.specs.ProperFormulas.{SmallRange}
use Rattle.page_questions.specs.Guarantees.{Every}
use Rattle.page_sheets.specs.Facts.{start, confine, confine_all, decide}
use Rattle.page_sheets.proofs.Fit.{in_range_small, from_true, from_false}

abbrev pub Meets : Ranges → Grid → Values → Type 0
Meets rs g ρ = (u v : ℕ) → T (present rs u) → T (present rs v) → ρ v ≤ℤ (ρ u +ℤ weight g u v)

pub meets_tighten : (rs : Ranges) (g : Grid) (ρ : Values) (u v : ℕ) (k : ℤ) → Meets rs g ρ → ρ v ≤ℤ (ρ u +ℤ k) → Meets rs (tighten g u v k) ρ
meets_tighten rs g ρ u v k m h a b ha hb = tighten_keeps (λ z. ρ b ≤ℤ (ρ a +ℤ z)) g u v k a b (m a b ha hb) (λ d e. rw (d, e) h)

meets_blank : (N : ℕ) (rs : Ranges) (ρ : Values) → InRange rs ρ → Every SmallRange rs → Meets rs (blank N) ρ
meets_blank N rs ρ h a u v hu hv = rw blank_far (omega (ints, in_range_small rs ρ h a u hu, in_range_small rs ρ h a v hv, +law (ρ u) far))

meets_confine : (rs : Ranges) (ρ : Values) → ρ 0 ≡ pos 0 → (g : Grid) (s : ℕ) (ts : Ranges) → Inside ρ s ts → Meets rs g ρ → Meets rs (confine_all g s ts) ρ
unfolding confine_all
meets_confine rs ρ z g s [] w m = m
meets_confine rs ρ z g s (none ∷ ts) w m = meets_confine rs ρ z g (suc s) ts w m
meets_confine rs ρ z g s (some r ∷ ts) w m =
    let up_fact : ρ s ≤ℤ (ρ 0 +ℤ r.hi) = omega (ints, ap up z, ap dn z, w.1, +law (ρ 0) r.hi) in
    let low_fact : ρ 0 ≤ℤ (ρ s +ℤ neg_ℤ r.lo) = omega (ints, ap up z, ap dn z, w.0, neg_up r.lo, neg_dn r.lo, +law (ρ s) (neg_ℤ r.lo)) in
    meets_confine rs ρ z (confine g s (some r)) (suc s) ts w.2 (meets_tighten rs (tighten g 0 s r.hi) ρ s 0 (neg_ℤ r.lo) (meets_tighten rs g ρ 0 s r.hi m up_fact) low_fact)

-- values in range meet the facts of the ranges
pub meets_start : (N : ℕ) (rs : Ranges) (ρ : Values) → InRange rs ρ → Every SmallRange rs → Meets rs (start N rs) ρ
meets_start N rs ρ h a = meets_confine rs ρ h.at_zero (blank N) 1 rs h.within (meets_blank N rs ρ h a)

-- and they meet the fact of each decision that they agree with
pub meets_decide : (rs : Ranges) (g : Grid) (ρ : Values) (p : Place) (d : Bool) → Meets rs g ρ → test ρ p ≡ d → Meets rs (decide g p d) ρ
meets_decide rs g ρ p true m e = meets_tighten rs g ρ p.right p.left p.most m (le_z_yes (from_true e))
meets_decide rs g ρ p false m e =
    let a = ρ p.left in
    let b = ρ p.right in
    let k = p.most in
    let n : ¬ (a ≤ℤ (b +ℤ k)) = λ h. from_false e h.le in
    meets_tighten rs g ρ p.left p.right (neg_ℤ k +ℤ negsuc 0) m (omega (ints, nle_out n, +law b k, neg_up k, neg_dn k, +law (neg_ℤ k) (negsuc 0), +law a (neg_ℤ k +ℤ negsuc 0)))

-- ---- a closed walk over the formula's vertices is not below zero for them (T1)
module _ (rs : Ranges) (g : Grid) (ρ : Values) (m : Meets rs g ρ) where
  meets_from : (u : ℕ) (p : List ℕ) (t : ℕ) → T (present rs u) → Every (λ v. T (present rs v)) p → T (present rs t) → ρ t ≤ℤ (ρ u +ℤ from (weight g) u p t)
  meets_from u [] t hu hp ht = m u t hu ht
  meets_from u (y ∷ p) t hu hp ht =
      let w = weight g u y in
      let r = from (weight g) y p t in
      omega (ints, m u y hu hp.0, meets_from y p t hp.0 hp.1 ht, +law (ρ u) w, +law (ρ y) r, +law (ρ u) (w +ℤ r), +law w r)

  pub meets_closed : (c : List ℕ) → Every (λ v. T (present rs v)) c → ¬ (closed (weight g) c <ℤ pos 0)
  meets_closed [] a h = omega ints
  meets_closed (v ∷ p) a h = omega (ints, meets_from v p v a.0 a.1 a.0, +law (ρ v) (from (weight g) v p v))
