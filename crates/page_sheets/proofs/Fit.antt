-- What the laws of trees ask of a formula over N vertex numbers; a proper formula has it.
use Prim.Native.Nat.{ℕ, zero, suc, ◌+◌, ◌≤◌, ◌<◌}
use mathlib.Core.Path.{◌≡◌, refl, ap}
use mathlib.Core.Bool.{Bool, true, false}
use mathlib.Core.Option.{none, some}
use mathlib.Core.List.{List, [], ◌∷◌}
use native.Mathlib.Omega.{arith}
use lib.ListN.{length, get_or}
use lib.Dec.{T}
use lib.IntN.{ℤ, pos, negsuc}
use lib.Signed.{◌≤ℤ◌}
use Rattle.page_numbers.specs.Numbers.{up, dn}
use Rattle.page_numbers.proofs.Bridge.{ints}
use Rattle.page_meaning.specs.Limits.{most_vertices}
use Rattle.page_formulas.specs.Formulas.{Formula}
use Rattle.page_formulas.specs.Program.{Values, places}
use Rattle.page_formulas.specs.Vertices.{Inside, InRange, Ranges, is_some, present}
use Rattle.page_formulas.specs.ProperFormulas.{SmallRange, Proper, billion, SmallPlace}
use Rattle.page_questions.specs.Guarantees.{Every}

pub record Fit (N : ℕ) (F : Formula) : Type 0 where
  pub some_vertex : length F.ranges < N
  pub few : N ≤ most_vertices
  pub ranges_small : Every SmallRange F.ranges
  pub places_small : Every (SmallPlace F.ranges) (places F.program)

pub fit : (F : Formula) → Proper F → Fit most_vertices F
fit F p = record { some_vertex = p.vertices; few = omega arith; ranges_small = p.ranges_small; places_small = p.places_small }

pub fit_all : (Fs : List Formula) → Every Proper Fs → Every (Fit most_vertices) Fs
fit_all [] a = tt
fit_all (F ∷ Fs) a = (fit F a.0, fit_all Fs a.1)

pub present_below : (rs : Ranges) (v : ℕ) → T (present rs v) → v ≤ length rs
present_below rs zero t = omega arith
present_below rs (suc v) t = go rs v t
  where
    go : (rs : Ranges) (v : ℕ) → T (is_some (get_or rs v none)) → suc v ≤ length rs
    go [] v t = absurd t
    go (r ∷ rs) zero t = omega arith
    go (r ∷ rs) (suc v) t = omega (arith, go rs v t)

within_small : (ρ : Values) (s : ℕ) (rs : Ranges) → Inside ρ s rs → Every SmallRange rs → (v : ℕ) → T (is_some (get_or rs v none)) → (i : ℕ) → i ≡ s + v → (up (ρ i) ≤ billion) × (dn (ρ i) ≤ billion)
within_small ρ s [] w a v t i e = absurd t
within_small ρ s (none ∷ rs) w a zero t i e = absurd t
within_small ρ s (some r ∷ rs) w a zero t i e = let d : i ≡ s = omega arith in rw d (small (ρ s) r.lo r.hi w.0 w.1 a.0)
  where
    small : (x l h : ℤ) → l ≤ℤ x → x ≤ℤ h → (up h ≤ billion) × (dn h ≤ billion) × (up l ≤ billion) × (dn l ≤ billion) → (up x ≤ billion) × (dn x ≤ billion)
    small (pos n) l h p q b = omega ints
    small (negsuc n) l h p q b = omega ints
within_small ρ s (none ∷ rs) w a (suc v) t i e = within_small ρ (suc s) rs w a.1 v t i (omega arith)
within_small ρ s (some r ∷ rs) w a (suc v) t i e = within_small ρ (suc s) rs w.2 a.1 v t i (omega arith)

pub in_range_small : (rs : Ranges) (ρ : Values) → InRange rs ρ → Every SmallRange rs → (v : ℕ) → T (present rs v) → (up (ρ v) ≤ billion) × (dn (ρ v) ≤ billion)
in_range_small rs ρ h a zero t = omega (arith, ap up h.at_zero, ap dn h.at_zero)
in_range_small rs ρ h a (suc v) t = within_small ρ 1 rs h.within a v t (suc v) (omega arith)

pub from_true : {b : Bool} → b ≡ true → T b
from_true e = rw e tt

pub from_false : {b : Bool} → b ≡ false → ¬ T b
from_false e t = rw e at t

pub to_true : (b : Bool) → T b → b ≡ true
to_true true t = refl
to_true false t = absurd t

pub to_false : (b : Bool) → ¬ T b → b ≡ false
to_false true f = absurd (f tt)
to_false false f = refl
