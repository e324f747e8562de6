-- Laws of walks: joined ones, and what closed ones say of an assignment.
use mathlib.Core.Path.{◌≡◌, refl}
use mathlib.Core.List.{List, [], ◌∷◌, ◌++◌}
use Prim.Native.Nat.{ℕ, ◌<◌}
use lib.IntN.{ℤ, pos, ◌+ℤ◌}
use lib.Signed.{◌≤ℤ◌, ◌<ℤ◌}
use Rattle.page_numbers.proofs.Bridge.{ints, +law}
use Rattle.page_walks.specs.Walk.{Below, from, closed, Sat}

module _ (w : ℕ → ℕ → ℤ) where
  pub from_append : (u : ℕ) (p : List ℕ) (x : ℕ) (q : List ℕ) (t : ℕ) → from w u (p ++ x ∷ q) t ≡ from w u p x +ℤ from w x q t
  from_append u [] x q t = refl
  from_append u (y ∷ p) x q t = omega (ints, from_append y p x q t, +law (w u y) (from w y p x), +law (w u y) (from w y (p ++ x ∷ q) t), +law (from w u (y ∷ p) x) (from w x q t), +law (from w y p x) (from w x q t))

  pub sat_from : (N : ℕ) (x : ℕ → ℤ) → Sat w N x → (u : ℕ) (p : List ℕ) (t : ℕ) → u < N → Below N p → t < N → x t ≤ℤ (x u +ℤ from w u p t)
  unfolding Sat
  sat_from N x s u [] t hu hp ht = s u t hu ht
  sat_from N x s u (y ∷ p) t hu hp ht =
      omega (ints, s u y hu hp.0, sat_from N x s y p t hp.0 hp.1 ht, +law (x u) (w u y), +law (x y) (from w y p t), +law (x u) (from w u (y ∷ p) t), +law (w u y) (from w y p t))

  -- where an assignment meets all facts no closed walk is negative
  pub sound : (N : ℕ) (x : ℕ → ℤ) → Sat w N x → (c : List ℕ) → Below N c → ¬ (closed w c <ℤ pos 0)
  sound N x s [] b h = omega ints
  sound N x s (v ∷ p) b h = omega (ints, sat_from N x s v p v b.0 b.1 b.0, +law (x v) (from w v p v))
