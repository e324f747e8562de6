-- The fast rule comes to the same tree, or the same values at the formula's vertices, as the writer's rule.
use Prim.Native.Nat.{ℕ, suc, ◌≤◌, ◌<◌}
use mathlib.Core.Path.{◌≡◌, refl, ap₂, ◌∙◌}
use mathlib.Core.Bool.{Bool, true, false, not, cond}
use mathlib.Core.Option.{none, some}
use mathlib.Core.List.{List, [], ◌∷◌, ◌++◌}
use native.Mathlib.Omega.{arith}
use lib.ListN.{length}
use lib.Dec.{T}
use lib.IntN.{pos, ◌+ℤ◌}
use lib.Signed.{◌≤ℤ◌, ◌<ℤ◌, lt_z_yes, lt_z_no}
use Rattle.page_walks.specs.Grid.{Grid, weight}
use Rattle.page_walks.specs.Nearness.{Weights}
use Rattle.page_walks.specs.Search.{search, dist}
use Rattle.page_formulas.specs.Formulas.{Formula}
use Rattle.page_formulas.specs.Knowledge.{Three, fails, passes, open?, known}
use Rattle.page_formulas.specs.Program.{Values, Place, places}
use Rattle.page_formulas.specs.Vertices.{Ranges, present}
use Rattle.page_formulas.specs.ProperFormulas.{SmallPlace}
use Rattle.page_questions.specs.Guarantees.{Every}
use Rattle.page_sheets.specs.Facts.{start, taken, decide}
use Rattle.page_sheets.specs.FastRule.{after, strained, calm_node, strained_node, fast, side_of}
use Rattle.page_sheets.specs.Growth.{join, Growth, shut, open_at, at_node, grow, grow_tree}
use Rattle.page_sheets.specs.Tree.{split}
use Rattle.page_sheets.proofs.Fit.{Fit}
use Rattle.page_sheets.proofs.HeldFacts.{bounds_decide}
use Rattle.page_sheets.proofs.SameFacts.{OfRanges, SameFacts, same_start, none_found, dist_row, some_found, same_more}

-- the vertices that the formula has; those up to the last
abbrev pub Here : Ranges → ℕ → Type 0
Here rs v = T (present rs v)

abbrev pub UpTo : ℕ → ℕ → Type 0
UpTo n v = v < suc n

module _ (H : ℕ → Type 0) where
  -- the same tree, or the same values at the vertices
  abbrev pub Same : Growth → Growth → Type 0
  Same (shut t) (shut t') = t ≡ t'
  Same (shut t) (open_at y) = ⊥
  Same (open_at x) (shut t') = ⊥
  Same (open_at x) (open_at y) = (v : ℕ) → H v → x v ≡ y v

  pub same_trans : (a b c : Growth) → Same a b → Same b c → Same a c
  same_trans (shut t) (shut u) (shut w) h k = h ∙ k
  same_trans (shut t) (shut u) (open_at z) h k = absurd k
  same_trans (shut t) (open_at y) c h k = absurd h
  same_trans (open_at x) (shut u) c h k = absurd h
  same_trans (open_at x) (open_at y) (shut w) h k = absurd k
  same_trans (open_at x) (open_at y) (open_at z) h k = λ v l. h v l ∙ k v l

  -- what is the same as an open leaf is one
  pub same_open : (x : Values) (r : Growth) → Same (open_at x) r → (y : Values) × (r ≡ open_at y)
  same_open x (shut t) h = absurd h
  same_open x (open_at y) h = (y, refl)

  pub join_same : (t t' f f' : Growth) → Same t t' → Same f f' → Same (join t f) (join t' f')
  join_same (shut t) (shut t') (shut f) (shut f') h k = ap₂ split h k
  join_same (shut t) (shut t') (shut f) (open_at y) h k = k
  join_same (shut t) (shut t') (open_at x) (shut f') h k = k
  join_same (shut t) (shut t') (open_at x) (open_at y) h k = k
  join_same (shut t) (open_at y) f f' h k = absurd h
  join_same (open_at x) (shut t') f f' h k = absurd h
  join_same (open_at x) (open_at y) f f' h k = h

module _ (n : ℕ) (F : Formula) (l : length F.ranges ≤ n) where
  abbrev Alike : Growth → Growth → Type 0
  Alike = Same (Here F.ranges)

  calm_same : (g : Grid) (near : Weights) → SameFacts n F.ranges g near → (k : Three) (r r' : Growth) → Alike r r' → Alike (at_node k none (dist (weight g) n) r) (calm_node k (near 0) r')
  calm_same g near c fails r r' h = refl
  calm_same g near c passes r r' h = dist_row n F.ranges l g near c
  calm_same g near c open? r r' h = h

  -- with a negative cycle the rule looks at no branch
  cut_same : (k : Three) (c : List ℕ) (x : Values) (r : Growth) → Alike (at_node k (some c) x r) (strained_node k (some c))
  cut_same fails c x r = refl
  cut_same passes c x r = refl
  cut_same open? c x r = refl

  grow_cut : (todo : List Place) (ds : List Bool) (g : Grid) (c : List ℕ) → search (weight g) n ≡ some c → Alike (grow n F todo ds g) (strained_node (known F.program ds) (search (weight g) n))
  unfolding grow
  grow_cut [] ds g c e = rw e (cut_same (known F.program ds) c _ _)
  grow_cut (p ∷ todo) ds g c e = rw e (cut_same (known F.program ds) c _ _)

  -- a half of the branch at place p, where it is the same if its fact closes no negative cycle
  half_same : (p : Place) (d : Bool) → SmallPlace F.ranges p → (todo : List Place) (ds : List Bool) (g : Grid) (near : Weights) → SameFacts n F.ranges g near → (SameFacts n F.ranges (decide g p d) (after near (taken p d)) → Alike (grow n F todo (ds ++ d ∷ []) (decide g p d)) (fast n F todo (ds ++ d ∷ []) (decide g p d) (after near (taken p d)))) → Alike (grow n F todo (ds ++ d ∷ []) (decide g p d)) (side_of n F p todo ds g near d)
  half_same p d s todo ds g near c h = go (strained near q) (λ t. lt_z_yes t) (λ t. lt_z_no t)
    where
      q : Place
      q = taken p d

      ends : (b : Bool) → Here F.ranges (taken p b).left × Here F.ranges (taken p b).right
      ends true = (s.left_is, s.right_is)
      ends false = (s.right_is, s.left_is)

      go : (b : Bool) → (T b → (near q.left q.right +ℤ q.most) <ℤ pos 0) → (T (not b) → pos 0 ≤ℤ (near q.left q.right +ℤ q.most)) → Alike (grow n F todo (ds ++ d ∷ []) (decide g p d)) (cond b (strained_node (known F.program (ds ++ d ∷ [])) (search (weight (decide g p d)) n)) (fast n F todo (ds ++ d ∷ []) (decide g p d) (after near q)))
      go true yes' no' = let f = some_found n F.ranges l g near c q (ends d).0 (ends d).1 (yes' tt) in grow_cut todo (ds ++ d ∷ []) (decide g p d) f.0 f.1
      go false yes' no' = h (same_more n F.ranges l g near c q (ends d).0 (ends d).1 (bounds_decide (suc n) F.ranges g p d s c.bounds) (no' tt))

  pub fast_same : (todo : List Place) (ds : List Bool) (g : Grid) (near : Weights) → SameFacts n F.ranges g near → Every (SmallPlace F.ranges) todo → Alike (grow n F todo ds g) (fast n F todo ds g near)
  unfolding grow fast
  fast_same [] ds g near c a = rw (none_found n F.ranges l g near c) (calm_same g near c (known F.program ds) _ _ (dist_row n F.ranges l g near c))
  fast_same (p ∷ todo) ds g near c a =
      rw (none_found n F.ranges l g near c) (calm_same g near c (known F.program ds) _ _
      (join_same (Here F.ranges) (grow n F todo (ds ++ true ∷ []) (decide g p true)) (side_of n F p todo ds g near true) (grow n F todo (ds ++ false ∷ []) (decide g p false)) (side_of n F p todo ds g near false)
      (half_same p true a.0 todo ds g near c (λ c'. fast_same todo (ds ++ true ∷ []) (decide g p true) (after near (taken p true)) c' a.1))
      (half_same p false a.0 todo ds g near c (λ c'. fast_same todo (ds ++ false ∷ []) (decide g p false) (after near (taken p false)) c' a.1))))

-- the code's way and the writer's rule come to the same on a formula, from any least sums of its ranges
pub fast_tree : (n : ℕ) (F : Formula) → Fit (suc n) F → (near : Weights) → OfRanges F.ranges near → Same (Here F.ranges) (grow_tree n F) (fast n F (places F.program) [] (start (suc n) F.ranges) near)
fast_tree n F h near o =
    let l : length F.ranges ≤ n = omega (arith, h.some_vertex) in
    fast_same n F l (places F.program) [] (start (suc n) F.ranges) near (same_start n F.ranges l h.ranges_small near o) h.places_small
