-- What the loops have found: the first edge count, and its first start, with a negative closing sum; and what the search answers then.
use Prim.Native.Nat.{ℕ, suc, ◌+◌, ◌-◌, ◌≤◌, ◌<◌}
use mathlib.Core.Path.{◌≡◌, sym, ap, ◌∙◌}
use mathlib.Core.Bool.{Bool, true}
use mathlib.Core.Option.{none, some}
use mathlib.Core.List.{◌∷◌}
use native.Mathlib.Omega.{arith}
use borrow.Author.Tests.{lt-ltb, le-ltb}
use lib.Dec.{ltb}
use lib.IntN.{ℤ, pos}
use lib.Signed.{◌<ℤ◌, lt_z}
use Rattle.page_walks.specs.Search.{first, best, greedy, start, fewest, walk, search}
use Rattle.page_walks.proofs.BestSums.{first_at_lem}
use Rattle.page_walks.proofs.Search.{start_ok, fewest_ok}
use Rattle.cycles.specs.Found.{Shortest}

-- does a walk with k + 1 edges close below zero at s?
abbrev pub closing : (ℕ → ℕ → ℤ) → ℕ → ℕ → ℕ → Bool
closing w m k s = lt_z (best w m k s s) (pos 0)

-- a walk of count vertices from s closes below zero, and the search answers with the greedy one
pub record Closes (w : ℕ → ℕ → ℤ) (m count s : ℕ) : Type 0 where
  pub more : 0 < count
  pub few : count ≤ suc m
  pub here : s < suc m
  pub negative : best w m (count - 1) s s <ℤ pos 0
  pub answer : search w m ≡ some (s ∷ greedy w m (count - 1) s (pos 0) s)

module _ (w : ℕ → ℕ → ℤ) (m n : ℕ) (e : suc m ≡ n) where
  -- the first edge count with a start, where those before it have none
  at_count : (k : ℕ) → k ≤ suc m → ((j : ℕ) → j < k → n ≡ first (closing w m j) n) → (k < suc m → ltb (start w m k) (suc m) ≡ true) → k ≡ fewest w m
  unfolding start fewest
  at_count k h clear t = first_at_lem (λ k. ltb (start w m k) (suc m)) (suc m) k h (λ j l. rw (e, ← clear j l) (le-ltb n n (omega arith))) t

  pub opens_none : ((j : ℕ) → j < n → n ≡ first (closing w m j) n) → fewest w m ≡ suc m
  opens_none clear = sym (at_count (suc m) (omega arith) (λ j l. clear j (omega arith)) (λ h. absurd (omega arith)))

  pub opens_some : (k s : ℕ) → k < n → ((j : ℕ) → j < k → n ≡ first (closing w m j) n) → (s < n) × (s ≡ first (closing w m k) n) → Shortest w m (k + 1) s
  unfolding start
  opens_some k s hk clear found =
      let a : s ≡ start w m k = rw e found.1 in
      let f : k ≡ fewest w m = at_count k (omega arith) clear (λ h. rw (← a) (lt-ltb s (suc m) (omega (arith, found.0)))) in
      record { some = omega arith; count_is = omega arith; start_is = a ∙ ap (start w m) f }

module _ (w : ℕ → ℕ → ℤ) (m : ℕ) where
  pub none_found : fewest w m ≡ suc m → search w m ≡ none
  unfolding search
  none_found e = rw (le-ltb (fewest w m) (suc m) (omega arith))

  pub one_found : (count s : ℕ) → Shortest w m count s → Closes w m count s
  unfolding search walk
  one_found count s o =
      let k : fewest w m ≡ count - 1 = omega (arith, o.count_is) in
      let b : start w m (fewest w m) < suc m = fewest_ok w m o.some in
      record {
        more = omega (arith, o.count_is);
        few = omega (arith, o.some, o.count_is);
        here = omega (arith, o.start_is, b);
        negative = rw (← k, o.start_is) (start_ok w m (fewest w m) b);
        answer = rw (lt-ltb (fewest w m) (suc m) o.some, ← k, o.start_is);
      }
