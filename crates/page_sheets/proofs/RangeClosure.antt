-- The closure of ranges in closed form: v is above u by no more than v's highest value and u's lowest are apart. It is one, and the values
-- that meet it are those in range.
use Prim.Native.Nat.{ℕ, zero, suc, ◌+◌, ◌≤◌, ◌<◌}
use mathlib.Core.Path.{◌≡◌, refl, ap, subst}
use mathlib.Core.Logic.{◌≢◌}
use mathlib.Core.Bool.{cond}
use mathlib.Core.Option.{Option, none, some}
use native.Mathlib.Omega.{arith}
use native.Mathlib.Decide.{ℕ_discrete}
use lib.Dec.{T}
use lib.ListN.{length, get_or}
use lib.IntN.{ℤ, pos, ◌+ℤ◌, ◌-ℤ◌}
use lib.Signed.{◌≤ℤ◌}
use Rattle.page_numbers.specs.Numbers.{up, dn}
use Rattle.page_numbers.proofs.Bridge.{ints, +law}
use Rattle.page_numbers.proofs.Machine.{diff}
use Rattle.page_meaning.specs.Contents.{Range}
use Rattle.page_walks.specs.Nearness.{Weights, Least, Triangle}
use Rattle.page_walks.specs.Walk.{Sat}
use Rattle.page_formulas.specs.Program.{Values}
use Rattle.page_formulas.specs.Vertices.{Ranges, InRange, is_some}
use Rattle.page_formulas.proofs.Rows.{Ranged, within_at, within_by}
use Rattle.page_sheets.proofs.Fit.{present_below}
use Rattle.page_sheets.proofs.SameFacts.{OfRanges}
use Rattle.page_sheets.proofs.AbsentVertices.{settle}

-- the form, between vertices below N
pub record Spread (N : ℕ) (low high : ℕ → ℤ) (near : Weights) : Type 0 where
  pub ordered : (v : ℕ) → v < N → low v ≤ℤ high v
  pub same : (u v : ℕ) → u < N → v < N → u ≡ v → near u v ≡ pos 0
  pub other : (u v : ℕ) → u < N → v < N → u ≢ v → near u v ≡ high v -ℤ low u

-- the lowest and the highest values of the ranges; 0 at vertex 0, and where there is no vertex
abbrev pub EndsAt : Option Range → ℤ → ℤ → Type 0
EndsAt none l h = (l ≡ pos 0) × (h ≡ pos 0)
EndsAt (some r) l h = (l ≡ r.lo) × (h ≡ r.hi)

pub record EndsOf (rs : Ranges) (low high : ℕ → ℤ) : Type 0 where
  pub at_zero : (low 0 ≡ pos 0) × (high 0 ≡ pos 0)
  pub at : (k : ℕ) → EndsAt (get_or rs k none) (low (suc k)) (high (suc k))

module _ (N : ℕ) (low high : ℕ → ℤ) (near : Weights) (s : Spread N low high near) where
  -- never more than the ends are apart
  pub spread_most : (u v : ℕ) → u < N → v < N → near u v ≤ℤ (high v -ℤ low u)
  spread_most u v hu hv = go (ℕ_discrete u v)
    where
      go : Dec (u ≡ v) → near u v ≤ℤ (high v -ℤ low u)
      go (yes e) = omega (ints, s.same u v hu hv e, s.ordered v hv, ap (λ m. up (low m)) e, ap (λ m. dn (low m)) e, diff (high v) (low u))
      go (no e) = omega (ints, s.other u v hu hv e)

  triangle : Triangle N near
  triangle u v x hu hv hx = go (ℕ_discrete u v) (ℕ_discrete v x)
    where
      go : Dec (u ≡ v) → Dec (v ≡ x) → near u x ≤ℤ (near u v +ℤ near v x)
      go (yes e) d = omega (ints, s.same u v hu hv e, ap (λ m. near m x) e, +law (near u v) (near v x))
      go (no e) (yes d) = omega (ints, s.same v x hv hx d, ap (λ m. near u m) d, +law (near u v) (near v x))
      go (no e) (no d) = omega (ints, spread_most u x hu hx, s.other u v hu hv e, s.other v x hv hx d, s.ordered v hv, diff (high x) (low u), diff (high v) (low u), diff (high x) (low v), +law (near u v) (near v x))

  pub spread_least : Least N near
  spread_least = record { itself = λ u hu. s.same u u hu hu refl; triangle = triangle }

  -- ---- values that meet it are between the ends

  between : 0 < N → (low 0 ≡ pos 0) × (high 0 ≡ pos 0) → (x : Values) → x 0 ≡ pos 0 → Sat near N x → (v : ℕ) → v < N → (low v ≤ℤ x v) × (x v ≤ℤ high v)
  unfolding Sat
  between n e x z m v h = (
    omega (ints, e.1, z, m v 0 h n, spread_most v 0 h n, diff (high 0) (low v), +law (x v) (near v 0)),
    omega (ints, e.0, z, m 0 v n h, spread_most 0 v n h, diff (high v) (low 0), +law (x 0) (near 0 v)),
  )

  meets : (x : Values) → ((v : ℕ) → v < N → (low v ≤ℤ x v) × (x v ≤ℤ high v)) → Sat near N x
  unfolding Sat
  meets x b u v hu hv = go (ℕ_discrete u v)
    where
      go : Dec (u ≡ v) → x v ≤ℤ (x u +ℤ near u v)
      go (yes e) = omega (ints, s.same u v hu hv e, ap (λ m. up (x m)) e, ap (λ m. dn (x m)) e, +law (x u) (near u v))
      go (no e) = omega (ints, s.other u v hu hv e, (b u hu).0, (b v hv).1, diff (high v) (low u), +law (x u) (near u v))

  -- ---- and in range

  module _ (rs : Ranges) (e : EndsOf rs low high) where
    pub spread_inside : length rs < N → (x : Values) → x 0 ≡ pos 0 → Sat near N x → InRange rs x
    spread_inside l x z m = record { at_zero = z; within = within_by x 1 rs (λ k. let one : suc k ≡ 1 + k = omega arith in subst (λ v. Ranged (get_or rs k none) (x v)) one (go k (get_or rs k none) (present_below rs (suc k)) (e.at k))) }
      where
        go : (k : ℕ) (o : Option Range) → (T (is_some o) → suc k ≤ length rs) → EndsAt o (low (suc k)) (high (suc k)) → Ranged o (x (suc k))
        go k none h a = tt
        go k (some r) h a = let b = between (omega arith) e.at_zero x z m (suc k) (omega (arith, h tt)) in (omega (ints, b.0, a.0), omega (ints, b.1, a.1))

    pub spread_settled : (x : Values) → InRange rs x → Sat near N (settle rs x)
    spread_settled x h = meets (settle rs x) (λ v hv. there v)
      where
        there : (v : ℕ) → (low v ≤ℤ settle rs x v) × (settle rs x v ≤ℤ high v)
        there zero = (omega (ints, e.at_zero.0, h.at_zero), omega (ints, e.at_zero.1, h.at_zero))
        there (suc k) = let one : 1 + k ≡ suc k = omega arith in go (get_or rs k none) (e.at k) (subst (λ v. Ranged (get_or rs k none) (x v)) one (within_at x 1 rs h.within k))
          where
            go : (o : Option Range) → EndsAt o (low (suc k)) (high (suc k)) → Ranged o (x (suc k)) → (low (suc k) ≤ℤ cond (is_some o) (x (suc k)) (pos 0)) × (cond (is_some o) (x (suc k)) (pos 0) ≤ℤ high (suc k))
            go none a r = (omega (ints, a.0), omega (ints, a.1))
            go (some g) a r = (omega (ints, a.0, r.0), omega (ints, a.1, r.1))

pub spread_ranges : (rs : Ranges) (low high : ℕ → ℤ) (near : Weights) → Spread (suc (length rs)) low high near → EndsOf rs low high → OfRanges rs near
spread_ranges rs low high near s e = record {
  least = spread_least (suc (length rs)) low high near s;
  inside = spread_inside (suc (length rs)) low high near s rs e (omega arith);
  settled = spread_settled (suc (length rs)) low high near s rs e;
}
