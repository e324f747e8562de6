-- The start of the closure from a list of ranges, in closed form: v is above u by no more than v's highest value and u's lowest are apart.
use Prim.Native.Nat.{ℕ, zero, suc}
use mathlib.Core.Path.{refl}
use mathlib.Core.Bool.{cond}
use mathlib.Core.Option.{Option, none, some}
use mathlib.Core.List.{[], ◌∷◌}
use lib.Dec.{eqb, eqb→eq, eqb_refl}
use lib.ListN.{get_or}
use lib.IntN.{ℤ, pos, ◌-ℤ◌}
use lib.Signed.{◌≤ℤ◌, ≤ℤ_refl}
use Rattle.page_meaning.specs.Contents.{Range}
use Rattle.page_walks.specs.Nearness.{Weights}
use Rattle.page_formulas.specs.ProperFormulas.{Nonempty}
use Rattle.page_formulas.specs.Vertices.{Ranges}
use Rattle.page_questions.specs.Guarantees.{Every}
use Rattle.page_sheets.proofs.Fit.{to_true, to_false}
use Rattle.page_sheets.proofs.SameFacts.{OfRanges}
use Rattle.page_sheets.proofs.RangeClosure.{EndsAt, spread_ranges}

-- a range's ends; 0 where there is no vertex
abbrev lowest : Option Range → ℤ
lowest none = pos 0
lowest (some r) = r.lo

abbrev highest : Option Range → ℤ
highest none = pos 0
highest (some r) = r.hi

-- a vertex's end; 0 at vertex 0
abbrev end : (Option Range → ℤ) → Ranges → ℕ → ℤ
end f rs zero = pos 0
end f rs (suc v) = f (get_or rs v none)

abbrev pub span : Ranges → Weights
span rs u v = cond (eqb u v) (pos 0) (end highest rs v -ℤ end lowest rs u)

ordered_at : (rs : Ranges) → Every Nonempty rs → (k : ℕ) → lowest (get_or rs k none) ≤ℤ highest (get_or rs k none)
ordered_at [] a k = ≤ℤ_refl (pos 0)
ordered_at (none ∷ rs) a zero = ≤ℤ_refl (pos 0)
ordered_at (some r ∷ rs) a zero = a.0
ordered_at (o ∷ rs) a (suc k) = ordered_at rs a.1 k

ordered : (rs : Ranges) → Every Nonempty rs → (v : ℕ) → end lowest rs v ≤ℤ end highest rs v
ordered rs a zero = ≤ℤ_refl (pos 0)
ordered rs a (suc k) = ordered_at rs a k

ends_at : (o : Option Range) → EndsAt o (lowest o) (highest o)
ends_at none = (refl, refl)
ends_at (some r) = (refl, refl)

-- they are least sums of the ranges
pub span_ranges : (rs : Ranges) → Every Nonempty rs → OfRanges rs (span rs)
span_ranges rs a = spread_ranges rs (end lowest rs) (end highest rs) (span rs)
    (record { ordered = λ v h. ordered rs a v; same = λ u v hu hv e. rw (e, to_true (eqb v v) (eqb_refl v)) refl; other = λ u v hu hv f. rw (to_false (eqb u v) (λ t. f (eqb→eq u v t))) refl })
    (record { at_zero = (refl, refl); at = λ k. ends_at (get_or rs k none) })
