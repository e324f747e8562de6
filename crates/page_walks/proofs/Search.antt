-- Laws of the search: what it finds is the shortest, then least; and the least sums are the greatest assignment.
use mathlib.Core.Path.{◌≡◌, refl, sym, ap, ap₂, ◌∙◌}
use mathlib.Core.Logic.{◌⊎◌, inl, inr}
use mathlib.Core.Bool.{Bool, true, false, not, cond}
use mathlib.Core.Option.{none, some}
use mathlib.Core.List.{List, [], ◌∷◌}
use Prim.Native.Nat.{ℕ, zero, suc, ◌+◌, ◌-◌, ◌≤◌, ◌<◌}
use native.Mathlib.Omega.{arith}
use native.Mathlib.Decide.{dec_lt, dec_le}
use lib.ListN.{length}
use lib.IntN.{ℤ, pos, ◌+ℤ◌}
use lib.Dec.{T, ltb, ltb→lt, lt→ltb, nltb→le}
use lib.Signed.{◌≤ℤ◌, ◌<ℤ◌, lt_z, lt_z_yes, ≤ℤ_refl}
use Rattle.page_numbers.proofs.Bridge.{ints, +law, min_spec, not_less}
use Rattle.page_numbers.specs.Numbers.{min_z}
use Rattle.page_walks.specs.Walk.{Below, from, closed}
use Rattle.page_walks.specs.Search.{least, first, best, test, greedy, start, fewest, walk, search, dist}
use Rattle.page_walks.specs.Shortest.{Lex, NoNeg, Greatest, Shortest, Answer}
use Rattle.page_walks.proofs.Completeness.{Least, complete}

pub least_le : (f : ℕ → ℤ) (n i : ℕ) → i ≤ n → least f n ≤ℤ f i
unfolding least
least_le f zero i h = let e : i ≡ 0 = omega arith in rw e (≤ℤ_refl (f 0))
least_le f (suc n) i h = go (λ k. least_le f n i k) (dec_le i n)
  where
    go : (i ≤ n → least f n ≤ℤ f i) → Dec (i ≤ n) → min_z (least f n) (f (suc n)) ≤ℤ f i
    go ih (yes k) = omega (ints, (min_spec (least f n) (f (suc n))).0, ih k)
    go ih (no k) = let e : i ≡ suc n = omega arith in rw e (min_spec (least f n) (f (suc n))).1

pub least_hit : (f : ℕ → ℤ) (n : ℕ) → (i : ℕ) × (i ≤ n) × (least f n ≡ f i)
unfolding least
least_hit f zero = (0, omega arith, refl)
least_hit f (suc n) = go (least_hit f n) (min_spec (least f n) (f (suc n))).2
  where
    go : (i : ℕ) × (i ≤ n) × (least f n ≡ f i) → (min_z (least f n) (f (suc n)) ≡ least f n) ⊎ (min_z (least f n) (f (suc n)) ≡ f (suc n)) → (i : ℕ) × (i ≤ suc n) × (min_z (least f n) (f (suc n)) ≡ f i)
    go r (inl e) = (r.0, omega arith, e ∙ r.2)
    go r (inr e) = (suc n, omega arith, e)

-- n where none passes; and none before it does
pub record First (f : ℕ → Bool) (n r : ℕ) : Type 0 where
  pub bound : r ≤ n
  pub pass : r < n → T (f r)
  pub before : (i : ℕ) → i < n → T (f i) → r ≤ i

pub first_is : (f : ℕ → Bool) (n : ℕ) → First f n (first f n)
unfolding first
first_is f zero = record { bound = omega arith; pass = λ h. absurd (omega arith); before = λ i h t. omega arith }
first_is f (suc n) = go (f zero) (λ t. t) (λ t. t) (first_is (λ i. f (suc i)) n)
  where
    go : (c : Bool) → (T c → T (f zero)) → (T (f zero) → T c) → First (λ i. f (suc i)) n (first (λ i. f (suc i)) n) → First f (suc n) (cond c zero (suc (first (λ i. f (suc i)) n)))
    go true to back r = record { bound = omega arith; pass = λ h. to tt; before = λ i h t. omega arith }
    go false to back r = record { bound = omega (arith, r.bound); pass = λ h. r.pass (omega arith); before = λ i h t. at i h t }
      where
        at : (i : ℕ) → i < suc n → T (f i) → suc (first (λ i. f (suc i)) n) ≤ i
        at zero h t = absurd (back t)
        at (suc i) h t = omega (arith, r.before i (omega arith) t)

-- what a loop that stops at the first hit has found
pub first_unique : (f : ℕ → Bool) (n r : ℕ) → First f n r → r ≡ first f n
first_unique f n r a = go (first f n) (first_is f n) (dec_lt r (first f n)) (dec_lt (first f n) r)
  where
    go : (m : ℕ) → First f n m → Dec (r < m) → Dec (m < r) → r ≡ m
    go m b (yes h) d = absurd (omega (arith, a.bound, b.bound, b.before r (omega (arith, b.bound)) (a.pass (omega (arith, b.bound)))))
    go m b (no h) (yes k) = absurd (omega (arith, a.bound, a.before m (omega (arith, a.bound)) (b.pass (omega (arith, a.bound)))))
    go m b (no h) (no k) = omega arith

-- n + 1 vertices
module _ (w : ℕ → ℕ → ℤ) (n : ℕ) where
  pub best_le : (k s v : ℕ) (q : List ℕ) → length q ≡ k → Below (suc n) q → best w n k s v ≤ℤ from w v q s
  unfolding best
  best_le zero s v [] e b = ≤ℤ_refl (w v s)
  best_le zero s v (x ∷ q) e b = absurd (omega arith)
  best_le (suc k) s v [] e b = absurd (omega arith)
  best_le (suc k) s v (x ∷ q) e b = omega (ints, least_le (λ u. w v u +ℤ best w n k s u) n x (omega arith), best_le k s x q (omega arith) b.1, +law (w v x) (best w n k s x), +law (w v x) (from w x q s))

  pub best_hit : (k s v : ℕ) → (q : List ℕ) × (length q ≡ k) × Below (suc n) q × (best w n k s v ≡ from w v q s)
  unfolding best
  best_hit zero s v = ([], refl, tt, refl)
  best_hit (suc k) s v =
      let m = least_hit (λ u. w v u +ℤ best w n k s u) n in
      let r = best_hit k s m.0 in
      (m.0 ∷ r.0, ap suc r.1, (omega arith, r.2), m.2 ∙ ap (λ z. w v m.0 +ℤ z) r.3)

  pub greedy_length : (k s : ℕ) (acc : ℤ) (c : ℕ) → length (greedy w n k s acc c) ≡ k
  unfolding greedy
  greedy_length zero s acc c = refl
  greedy_length (suc k) s acc c = let u = first (test w n k s acc c) (suc n) in ap suc (greedy_length k s (acc +ℤ w c u) u)

  -- the vertex that the greedy walk goes to
  pub step : (k s : ℕ) (acc : ℤ) (c : ℕ) → (acc +ℤ best w n (suc k) s c) <ℤ pos 0 → (first (test w n k s acc c) (suc n) < suc n) × (((acc +ℤ w c (first (test w n k s acc c) (suc n))) +ℤ best w n k s (first (test w n k s acc c) (suc n))) <ℤ pos 0)
  unfolding best test
  step k s acc c h =
      let m = least_hit (λ u. w c u +ℤ best w n k s u) n in
      let f = first_is (test w n k s acc c) (suc n) in
      let a : ((acc +ℤ w c m.0) +ℤ best w n k s m.0) <ℤ pos 0 = omega (ints, m.2, +law acc (best w n (suc k) s c), +law (w c m.0) (best w n k s m.0), +law acc (w c m.0), +law (acc +ℤ w c m.0) (best w n k s m.0)) in
      let b : first (test w n k s acc c) (suc n) < suc n = omega (arith, m.1, f.before m.0 (omega arith) a.lt) in
      (b, lt_z_yes (f.pass b))

  pub greedy_ok : (k s : ℕ) (acc : ℤ) (c : ℕ) → (acc +ℤ best w n k s c) <ℤ pos 0 → Below (suc n) (greedy w n k s acc c) × ((acc +ℤ from w c (greedy w n k s acc c) s) <ℤ pos 0)
  unfolding greedy best
  greedy_ok zero s acc c h = (tt, h)
  greedy_ok (suc k) s acc c h =
      let u = first (test w n k s acc c) (suc n) in
      let t = step k s acc c h in
      let r = greedy_ok k s (acc +ℤ w c u) u t.1 in
      let q = greedy w n k s (acc +ℤ w c u) u in
      ((t.0, r.0), omega (ints, r.1, +law acc (w c u), +law (w c u) (from w u q s), +law (acc +ℤ w c u) (from w u q s), +law acc (w c u +ℤ from w u q s)))

  pub greedy_least : (k s : ℕ) (acc : ℤ) (c : ℕ) (q : List ℕ) → length q ≡ k → Below (suc n) q → (acc +ℤ from w c q s) <ℤ pos 0 → Lex (greedy w n k s acc c) q
  unfolding greedy test
  greedy_least zero s acc c q e b h = tt
  greedy_least (suc k) s acc c [] e b h = absurd (omega arith)
  greedy_least (suc k) s acc c (y ∷ q) e b h =
      let u = first (test w n k s acc c) (suc n) in
      let a : ((acc +ℤ w c y) +ℤ best w n k s y) <ℤ pos 0 = omega (ints, best_le k s y q (omega arith) b.1, +law acc (w c y), +law (w c y) (from w y q s), +law (acc +ℤ w c y) (best w n k s y), +law acc (w c y +ℤ from w y q s)) in
      let l : u ≤ y = (first_is (test w n k s acc c) (suc n)).before y b.0 a.lt in
      go u l (λ d. greedy_least k s (acc +ℤ w c u) u q (omega arith) b.1 (rw d (omega (ints, +law acc (w c y), +law (w c y) (from w y q s), +law (acc +ℤ w c y) (from w y q s), +law acc (w c y +ℤ from w y q s)))))
    where
      go : (u : ℕ) → u ≤ y → (u ≡ y → Lex (greedy w n k s (acc +ℤ w c u) u) q) → (u < y) ⊎ ((u ≡ y) × Lex (greedy w n k s (acc +ℤ w c u) u) q)
      go u l f = pick (dec_lt u y)
        where
          pick : Dec (u < y) → (u < y) ⊎ ((u ≡ y) × Lex (greedy w n k s (acc +ℤ w c u) u) q)
          pick (yes g) = inl g
          pick (no g) = let d : u ≡ y = omega arith in inr (d, f d)

  -- a negative closed walk through v and p is seen
  seen : (v : ℕ) (p : List ℕ) → v < suc n → Below (suc n) p → from w v p v <ℤ pos 0 → start w n (length p) ≤ v
  unfolding start
  seen v p hv hp h = let a : best w n (length p) v v <ℤ pos 0 = omega (ints, best_le (length p) v v p refl hp) in (first_is (λ s. lt_z (best w n (length p) s s) (pos 0)) (suc n)).before v hv a.lt

  least_found : (v : ℕ) (p : List ℕ) → v < suc n → Below (suc n) p → length p < suc n → from w v p v <ℤ pos 0 → fewest w n ≤ length p
  unfolding fewest
  least_found v p hv hp l h = (first_is (λ k. ltb (start w n k) (suc n)) (suc n)).before (length p) l (lt→ltb (start w n (length p)) (suc n) (omega (arith, seen v p hv hp h)))

  -- the first vertex is one, and its best closed walk is negative
  pub start_ok : (k : ℕ) → start w n k < suc n → best w n k (start w n k) (start w n k) <ℤ pos 0
  unfolding start
  start_ok k h = lt_z_yes ((first_is (λ s. lt_z (best w n k s s) (pos 0)) (suc n)).pass h)

  pub fewest_ok : fewest w n < suc n → start w n (fewest w n) < suc n
  unfolding fewest
  fewest_ok h = ltb→lt (start w n (fewest w n)) (suc n) ((first_is (λ k. ltb (start w n k) (suc n)) (suc n)).pass h)

  shorter : fewest w n < suc n → (q : List ℕ) → 0 < length q → Below (suc n) q → closed w q <ℤ pos 0 → suc (fewest w n) ≤ length q
  shorter h [] l b m = absurd (omega arith)
  shorter h (v ∷ p) l b m = pick (dec_lt (length p) (suc n))
    where
      pick : Dec (length p < suc n) → suc (fewest w n) ≤ suc (length p)
      pick (yes k) = omega (arith, least_found v p b.0 b.1 k m)
      pick (no k) = omega arith

  lexes : (k : ℕ) (q : List ℕ) → length q ≡ suc k → Below (suc n) q → closed w q <ℤ pos 0 → Lex (walk w n k) q
  unfolding walk
  lexes k [] e b m = absurd (omega arith)
  lexes k (v ∷ p) e b m =
      let d : length p ≡ k = omega arith in
      let l : start w n k ≤ v = rw d at (seen v p b.0 b.1 m) in
      pick d l (dec_lt (start w n k) v)
    where
      pick : length p ≡ k → start w n k ≤ v → Dec (start w n k < v) → (start w n k < v) ⊎ ((start w n k ≡ v) × Lex (greedy w n k (start w n k) (pos 0) (start w n k)) p)
      pick d l (yes g) = inl g
      pick d l (no g) =
          let e : start w n k ≡ v = omega arith in
          inr (e, greedy_least k (start w n k) (pos 0) (start w n k) p d b.1 (rw e (omega (ints, +law (pos 0) (from w v p v)))))

  found : fewest w n < suc n → Shortest w n (walk w n (fewest w n))
  unfolding walk
  found h =
      let s = start w n (fewest w n) in
      let hs = fewest_ok h in
      let q = greedy w n (fewest w n) s (pos 0) s in
      let g = greedy_ok (fewest w n) s (pos 0) s (omega (ints, start_ok (fewest w n) hs, +law (pos 0) (best w n (fewest w n) s s))) in
      let e : length q ≡ fewest w n = greedy_length (fewest w n) s (pos 0) s in
      record {
        some_vertex = omega arith;
        short = omega arith;
        below = (hs, g.0);
        negative = omega (ints, g.1, +law (pos 0) (from w s q s));
        no_shorter = λ r l b m. omega (arith, shorter h r l b m);
        lex_least = λ r l b m. lexes (fewest w n) r (omega arith) b m;
      }

  none_found : suc n ≤ fewest w n → NoNeg w (suc n)
  none_found h [] l k b = absurd (omega arith)
  none_found h (v ∷ p) l k b = not_less (λ m. omega (arith, least_found v p b.0 b.1 (omega arith) m))

  pub search_is : Answer w n (search w n)
  unfolding search
  search_is = go (ltb (fewest w n) (suc n)) (λ t. ltb→lt (fewest w n) (suc n) t) (λ t. nltb→le (fewest w n) (suc n) t)
    where
      go : (b : Bool) → (T b → fewest w n < suc n) → (T (not b) → suc n ≤ fewest w n) → Answer w n (cond b (some (walk w n (fewest w n))) none)
      go true f g = found (f tt)
      go false f g = none_found (g tt)

  pub dist_least : NoNeg w (suc n) → (v : ℕ) → v < suc n → Least w (suc n) v (dist w n v)
  unfolding dist
  dist_least nn zero h = record { none = λ e. ≤ℤ_refl (pos 0); low = λ p l b. nn (0 ∷ p) (omega arith) (omega arith) (h, b); hit = inl (refl, refl) }
  dist_least nn (suc v) h =
      let m = least_hit (λ k. best w n k (suc v) 0) (n - 1) in
      let r = best_hit m.0 (suc v) 0 in
      record {
        none = λ e. absurd (omega arith);
        low = λ p l b. omega (ints, least_le (λ k. best w n k (suc v) 0) (n - 1) (length p) (omega arith), best_le (length p) (suc v) 0 p refl b);
        hit = inr (r.0, omega (arith, m.1, r.1), r.2, m.2 ∙ r.3);
      }

  -- where no closed walk is negative `dist` is the greatest assignment
  pub dist_greatest : NoNeg w (suc n) → Greatest w (suc n) (dist w n)
  dist_greatest nn = complete w (suc n) nn (omega arith) (dist w n) (dist_least nn)

-- ---- the list is one only
lex_same : (p q : List ℕ) → length p ≡ length q → Lex p q → Lex q p → p ≡ q
lex_same [] [] l a b = refl
lex_same [] (y ∷ q) l a b = absurd (omega arith)
lex_same (x ∷ p) [] l a b = absurd a
lex_same (x ∷ p) (y ∷ q) l (inl a) (inl b) = absurd (omega arith)
lex_same (x ∷ p) (y ∷ q) l (inl a) (inr b) = absurd (omega (arith, b.0))
lex_same (x ∷ p) (y ∷ q) l (inr a) (inl b) = absurd (omega (arith, a.0))
lex_same (x ∷ p) (y ∷ q) l (inr a) (inr b) = ap₂ ◌∷◌ a.0 (lex_same p q (omega arith) a.1 b.1)

-- two lists with the fewest edges, then the least vertices, are equal
pub shortest_one : (w : ℕ → ℕ → ℤ) (n : ℕ) (c d : List ℕ) → Shortest w n c → Shortest w n d → c ≡ d
shortest_one w n c d s t =
    let l : length c ≡ length d = omega (arith, s.no_shorter d t.some_vertex t.below t.negative, t.no_shorter c s.some_vertex s.below s.negative) in
    lex_same c d l (s.lex_least d (sym l) t.below t.negative) (t.lex_least c l s.below s.negative)
