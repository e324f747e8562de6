-- Laws of the closure by itself: its entries are small, and one fact more keeps it.
use Prim.Native.Nat.{ℕ, suc, ◌≤◌, ◌<◌}
use mathlib.Core.Path.{◌≡◌, ◌∙◌}
use mathlib.Core.Bool.{true, false}
use native.Mathlib.Omega.{arith}
use lib.IntN.{ℤ, pos, ◌+ℤ◌}
use lib.Signed.{◌≤ℤ◌, ◌<ℤ◌, lt_z}
use mir.Syntax.{w64}
use mir.Val.{SFits}
use Rattle.page_numbers.proofs.Bridge.{ints, eq_out, +law}
use Rattle.page_numbers.proofs.Machine.{machine, lt_true, lt_false}
use Rattle.page_meaning.specs.Limits.{most_vertices}
use Rattle.page_walks.specs.Grid.{Grid, weight, far_n}
use Rattle.page_walks.specs.Sizes.{tabled, Sized, AllWithin}
use Rattle.page_walks.specs.Nearness.{relax, Least}
use Rattle.page_walks.specs.Walk.{Sat}
use Rattle.page_walks.proofs.Nearness.{relax_less, relax_least, relaxed_old, relaxed_fact, relaxed_both, near_small}
use Rattle.page_walks.proofs.Rows.{tabled_sized, tabled_at}
use Rattle.page_formulas.specs.Program.{Values}
use Rattle.grid.specs.Edges.{Fact}
use Rattle.grid.specs.declared.Edge.{Edge}
use Rattle.goals.specs.Closures.{Tight, Closer}

module _ (n : ℕ) (near : Grid) (t : Tight n near) where
  pub tight_least : Least n (weight near)
  tight_least = record { itself = t.itself; triangle = t.triangle }

  pub tight_within : AllWithin far_n n near
  tight_within = record { entry = λ u v hu hv. let b = near_small n (weight near) tight_least t.ceiling u v hu hv in record { high = b.0; low = b.1 } }

  -- one fact more
  module _ (few : n ≤ most_vertices) (table : Sized most_vertices near) (e : Edge) (hf : e.from < n) (ht : e.to < n) where
    abbrev relaxed : ℕ → ℕ → ℤ
    relaxed = relax (weight near) e.from e.to e.weight

    -- the entries between the vertices are those of the new closure
    closer_relaxed : (r : Grid) → Sized most_vertices r → ((u v : ℕ) → u < n → v < n → weight r u v ≡ relaxed u v) → pos 0 ≤ℤ (weight near e.to e.from +ℤ e.weight) → Closer n near e r
    unfolding Sat
    closer_relaxed r sized is h =
        let l = relax_least n (weight near) tight_least e.from e.to e.weight hf ht h in
        let back : (x : Values) → Sat (weight r) n x → Sat relaxed n x = λ x s u v hu hv. rw (← is u v hu hv) (s u v hu hv) in
        record {
          sized = sized;
          tight = record {
            itself = λ u hu. is u u hu hu ∙ l.itself u hu;
            triangle = λ u v x hu hv hx. rw (is u x hu hx, is u v hu hv, is v x hv hx) (l.triangle u v x hu hv hx);
            ceiling = λ u v hu hv. rw (is u v hu hv) (omega (ints, relax_less n (weight near) tight_least e.from e.to e.weight hf ht u v, t.ceiling u v hu hv));
          };
          old = λ x s. relaxed_old n (weight near) tight_least e.from e.to e.weight hf ht x (back x s);
          fact = λ x s. relaxed_fact n (weight near) tight_least e.from e.to e.weight hf ht x (back x s);
          both = λ x s f u v hu hv. rw (is u v hu hv) (relaxed_both n (weight near) tight_least e.from e.to e.weight hf ht x s f u v hu hv);
        }

    pub closer_tabled : (r : Grid) → r ≡ tabled relaxed n near → pos 0 ≤ℤ (weight near e.to e.from +ℤ e.weight) → Closer n near e r
    closer_tabled r is h =
        closer_relaxed r (rw is (tabled_sized relaxed most_vertices n near few table)) (λ u v hu hv. rw is (tabled_at relaxed most_vertices n near few table u v hu hv)) h

-- what a sum of an entry and a fact's weight fits
pub sum_fits : (last : ℕ) (near : Grid) → Tight (suc last) near → (from to : ℕ) (k : ℤ) → Fact last from to k → (u : ℕ) → u < suc last → SFits w64 (weight near u from +ℤ k)
sum_fits last near t from to k f u hu =
    let b = (tight_within (suc last) near t).entry u from hu f.from_is in
    omega (arith, machine, b.high, b.low, f.high, f.low, +law (weight near u from) k)

pub weight_fits : (last from to : ℕ) (k : ℤ) → Fact last from to k → SFits w64 k
weight_fits last from to k f = omega (arith, machine, f.high, f.low)

-- tests of numbers as the machine holds them
pub below_zero : (a c : ℤ) → a ≡ c → lt_z a (pos 0) ≡ true → c <ℤ pos 0
below_zero a c e t = omega (ints, lt_true a (pos 0) t, eq_out e)

pub from_zero : (a c : ℤ) → a ≡ c → lt_z a (pos 0) ≡ false → pos 0 ≤ℤ c
from_zero a c e t = omega (ints, lt_false a (pos 0) t, eq_out e)
