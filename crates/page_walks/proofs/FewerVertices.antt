-- Where the vertices above m have no edge, the search among 0 .. n and the search among 0 .. m find the same.
use mathlib.Core.Path.{◌≡◌, refl, ap}
use mathlib.Core.Option.{Option, none, some}
use mathlib.Core.List.{List, [], ◌∷◌}
use Prim.Native.Nat.{ℕ, suc, ◌≤◌, ◌<◌}
use native.Mathlib.Omega.{arith}
use native.Mathlib.Decide.{dec_le}
use lib.ListN.{length}
use lib.IntN.{ℤ, pos}
use lib.Signed.{◌≤ℤ◌, ◌<ℤ◌}
use Rattle.page_numbers.specs.Numbers.{dn}
use Rattle.page_numbers.proofs.Bridge.{ints}
use Rattle.page_meaning.specs.Limits.{most_vertices}
use Rattle.page_walks.specs.Walk.{Below, closed}
use Rattle.page_walks.specs.Grid.{far}
use Rattle.page_walks.specs.Sizes.{least_weight}
use Rattle.page_walks.specs.Search.{search, dist}
use Rattle.page_walks.specs.Shortest.{Shortest, Answer}
use Rattle.page_walks.proofs.Walks.{sound}
use Rattle.page_walks.proofs.Search.{search_is, shortest_one, dist_greatest}
use Rattle.page_walks.proofs.Grids.{Real, negative_real}

-- no edge into a vertex above m or out of it is there
pub record Alone (w : ℕ → ℕ → ℤ) (m : ℕ) : Type 0 where
  pub no_way_out : (u v : ℕ) → m < u → far ≤ℤ w u v
  pub no_way_in : (u v : ℕ) → m < v → far ≤ℤ w u v

pub below_more : (m n : ℕ) (l : List ℕ) → m ≤ n → Below m l → Below n l
below_more m n [] h b = tt
below_more m n (x ∷ l) h b = (omega (arith, b.0), below_more m n l h b.1)

module _ (w : ℕ → ℕ → ℤ) (m : ℕ) (a : Alone w m) (floor : (u v : ℕ) → dn (w u v) ≤ least_weight) where
  leaves : (u v : ℕ) → w u v <ℤ far → u < suc m
  leaves u v h = go (dec_le u m)
    where
      go : Dec (u ≤ m) → u < suc m
      go (yes k) = omega arith
      go (no k) = let f = a.no_way_out u v (omega arith) in absurd (omega ints)

  real_below : (u : ℕ) (p : List ℕ) (t : ℕ) → Real w u p t → Below (suc m) (u ∷ p)
  real_below u [] t r = (leaves u t r, tt)
  real_below u (x ∷ p) t r = (leaves u x r.0, real_below x p t r.1)

  -- a negative closed walk stays among 0 .. m
  stays : (c : List ℕ) → length c ≤ most_vertices → closed w c <ℤ pos 0 → Below (suc m) c
  stays [] l h = tt
  stays (v ∷ p) l h = real_below v p v (negative_real w floor v p (omega arith) h)

  module _ (n : ℕ) (le : m ≤ n) (few : n < most_vertices) where
    -- the shortest of the few is the shortest of all
    shortest_all : (c : List ℕ) → Shortest w m c → Shortest w n c
    shortest_all c s = record {
      some_vertex = s.some_vertex;
      short = omega (arith, s.short);
      below = below_more (suc m) (suc n) c (omega arith) s.below;
      negative = s.negative;
      no_shorter = λ q l b h. shorter q l h (dec_le (length q) most_vertices);
      lex_least = λ q l b h. s.lex_least q l (stays q (omega (arith, s.short)) h) h;
    }
      where
        shorter : (q : List ℕ) → 0 < length q → closed w q <ℤ pos 0 → Dec (length q ≤ most_vertices) → length c ≤ length q
        shorter q l h (yes k) = s.no_shorter q l (stays q k h) h
        shorter q l h (no k) = omega (arith, s.short)

    pub among_search : search w n ≡ search w m
    among_search = go (search w n) (search w m) (search_is w n) (search_is w m)
      where
        go : (x y : Option (List ℕ)) → Answer w n x → Answer w m y → x ≡ y
        go (some c) (some d) p q = ap some (shortest_one w n c d p (shortest_all d q))
        go none (some d) p q = let s = shortest_all d q in absurd (omega (ints, s.negative, p d s.some_vertex s.short s.below))
        go (some c) none p q = absurd (sound w (suc m) (dist w m) (dist_greatest w m q).meets c (stays c (omega (arith, p.short)) p.negative) p.negative)
        go none none p q = refl
