-- The closure of the ranges in closed form, from the code's arrays: the laws of `RangeClosure` in page_sheets hold of it.
use Prim.Native.Nat.{ℕ, zero, suc, ◌+◌, ◌≤◌, ◌<◌}
use mathlib.Core.Path.{◌≡◌, refl, ap, ◌∙◌, subst}
use mathlib.Core.Logic.{◌≢◌}
use mathlib.Core.List.{List, []}
use native.Mathlib.Omega.{arith}
use native.Mathlib.Decide.{ℕ_discrete}
use lib.Dec.{eqb, eqb→eq, eqb_refl}
use lib.ListN.{length, get_or, set, length-set}
use lib.Seq.{get_or-set_same, get_or-set_other}
use lib.IntN.{ℤ, pos, ◌-ℤ◌}
use lib.Signed.{◌≤ℤ◌}
use Rattle.std.specs.Prelude.{Option, Some, None, unwrap_or}
use Rattle.page_numbers.specs.Numbers.{up, dn}
use Rattle.page_numbers.proofs.Bridge.{ints}
use Rattle.page_numbers.proofs.Machine.{diff}
use Rattle.page_walks.specs.Grid.{Grid, row, weight, far}
use Rattle.page_walks.specs.Nearness.{Least}
use Rattle.page_walks.specs.Sizes.{Sized}
use Rattle.page_walks.specs.Walk.{Sat}
use Rattle.page_walks.proofs.Rows.{there}
use Rattle.page_formulas.specs.Program.{Values}
use Rattle.page_formulas.specs.Vertices.{Ranges, InRange}
use Rattle.page_formulas.specs.ProperFormulas.{billion}
use Rattle.page_sheets.proofs.Fit.{to_true, to_false}
use Rattle.page_sheets.proofs.SameFacts.{OfRanges}
use Rattle.page_sheets.proofs.AbsentVertices.{settle}
use Rattle.page_sheets.proofs.RangeClosure.{Spread, EndsAt, EndsOf, spread_most, spread_least, spread_inside, spread_settled, spread_ranges}
use Rattle.program.specs.Meanings.{entry_of, zero_range}
use Rattle.program.specs.Compiled.{Ranging, Ranged}
use Rattle.program.specs.declared.types.Range.{Range}
use Rattle.spreads.specs.Spread.{span, spread}

-- ---- a grid with one row more written

module _ (N : ℕ) (g : Grid) (u : ℕ) (new : List ℤ) (s : Sized N g) (hu : u < N) (long : length new ≡ N) where
  pub row_sized : Sized N (set g u new)
  row_sized = record { rows = length-set g u new ∙ s.rows; columns = λ r h. go r h (ℕ_discrete r u) }
    where
      go : (r : ℕ) → r < N → Dec (r ≡ u) → length (row (set g u new) r) ≡ N
      go r h (yes e) = rw e (ap length (get_or-set_same g u new [] (omega (arith, s.rows))) ∙ long)
      go r h (no e) = ap length (get_or-set_other g u r new [] e) ∙ s.columns r h

  pub row_more : (f : ℕ → ℕ → ℤ) (n : ℕ) → n ≤ N → ((r v : ℕ) → r < u → v < n → weight g r v ≡ f r v) → ((v : ℕ) → v < n → get_or new v (pos 0) ≡ f u v) → (r v : ℕ) → r < u + 1 → v < n → weight (set g u new) r v ≡ f r v
  row_more f n few old is r v hr hv = go (ℕ_discrete r u)
    where
      go : Dec (r ≡ u) → weight (set g u new) r v ≡ f r v
      go (yes e) = rw e (ap (λ l. get_or l v far) (get_or-set_same g u new [] (omega (arith, s.rows))) ∙ there new v far (pos 0) (omega arith) ∙ is v hv)
      go (no e) = ap (λ l. get_or l v far) (get_or-set_other g u r new [] e) ∙ old r v (omega arith) hv

module _ (count : ℕ) (ranges : List (Option Range)) (r : Ranged count ranges) where
  abbrev low : ℕ → ℤ
  low v = (span ranges v).lo

  abbrev high : ℕ → ℤ
  high v = (span ranges v).hi

  -- what holds of zero's range and of each that is there holds of what every vertex ranges over
  each : (Q : Range → Type 0) → Q zero_range → ((v : ℕ) → 0 < v → v < count → (g : Range) → get_or ranges v None ≡ Some g → Q g) → (v : ℕ) → v < count → Q (span ranges v)
  each Q z h zero l = z
  each Q z h (suc v) l = go (get_or ranges (suc v) None) refl
    where
      go : (o : Option Range) → get_or ranges (suc v) None ≡ o → Q (unwrap_or o zero_range)
      go None e = z
      go (Some g) e = h (suc v) (omega arith) l g e

  small_low : (v : ℕ) → v < count → (up (low v) ≤ billion) × (dn (low v) ≤ billion)
  small_low = each (λ g. (up g.lo ≤ billion) × (dn g.lo ≤ billion)) (omega arith, omega arith) r.small_lo

  small_high : (v : ℕ) → v < count → (up (high v) ≤ billion) × (dn (high v) ≤ billion)
  small_high = each (λ g. (up g.hi ≤ billion) × (dn g.hi ≤ billion)) (omega arith, omega arith) r.small_hi

  order : (v : ℕ) → v < count → low v ≤ℤ high v
  order = each (λ g. g.lo ≤ℤ g.hi) (omega ints) r.nonempty

  pub spread_same : (u v : ℕ) → u ≡ v → spread ranges u v ≡ pos 0
  spread_same u v e = rw (e, to_true (eqb v v) (eqb_refl v))

  pub spread_other : (u v : ℕ) → u ≢ v → spread ranges u v ≡ high v -ℤ low u
  spread_other u v f = rw (to_false (eqb u v) (λ t. f (eqb→eq u v t)))

  module _ (near : Grid) (is : (u v : ℕ) → u < count → v < count → weight near u v ≡ spread ranges u v) where
    begun : Spread count low high (weight near)
    begun = record { ordered = order; same = λ u v hu hv e. is u v hu hv ∙ spread_same u v e; other = λ u v hu hv f. is u v hu hv ∙ spread_other u v f }

    pub begun_least : Least count (weight near)
    begun_least = spread_least count low high (weight near) begun

    -- no entry is above a missing edge's weight
    pub begun_far : (u v : ℕ) → u < count → v < count → weight near u v ≤ℤ far
    begun_far u v hu hv = let a = small_low u hu in let b = small_high v hv in omega (ints, spread_most count low high (weight near) begun u v hu hv, a.0, a.1, b.0, b.1, diff (high v) (low u))

    -- ---- and the ranges

    module _ (rs : Ranges) (g : Ranging rs count ranges) where
      ends : EndsOf rs low high
      ends = record { at_zero = (refl, refl); at = λ k. rw (← g.spans.covers.agree k) (go (get_or ranges (suc k) None)) }
        where
          go : (o : Option Range) → EndsAt (entry_of o) (unwrap_or o zero_range).lo (unwrap_or o zero_range).hi
          go None = (refl, refl)
          go (Some t) = (refl, refl)

      pub sat_range : (x : Values) → x 0 ≡ pos 0 → Sat (weight near) count x → InRange rs x
      sat_range = spread_inside count low high (weight near) begun rs ends (omega (arith, g.count_is))

      pub range_sat : (x : Values) → InRange rs x → Sat (weight near) count (settle rs x)
      range_sat = spread_settled count low high (weight near) begun rs ends

      pub begun_ranges : OfRanges rs (weight near)
      begun_ranges = spread_ranges rs low high (weight near) (subst (λ m. Spread m low high (weight near)) g.count_is begun) ends
