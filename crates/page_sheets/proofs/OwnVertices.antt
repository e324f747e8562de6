-- The fast rule may search among the formula's own vertices only, and may keep the closure in a table of their entries.
use Prim.Native.Nat.{ℕ, suc, ◌≤◌, ◌<◌}
use mathlib.Core.Path.{◌≡◌, refl, ap₂}
use mathlib.Core.Bool.{Bool, true, false, cond}
use mathlib.Core.Option.{Option}
use mathlib.Core.List.{List, [], ◌∷◌, ◌++◌}
use native.Mathlib.Omega.{arith}
use lib.ListN.{length}
use lib.Dec.{T}
use Rattle.page_meaning.specs.Limits.{most_vertices}
use Rattle.page_walks.specs.Grid.{Grid, weight}
use Rattle.page_walks.specs.Nearness.{Weights, relax}
use Rattle.page_walks.specs.Search.{search}
use Rattle.page_walks.proofs.FewerVertices.{Alone, among_search}
use Rattle.page_formulas.specs.Formulas.{Formula}
use Rattle.page_formulas.specs.Knowledge.{Three, fails, passes, open?, known}
use Rattle.page_formulas.specs.Program.{Place, places}
use Rattle.page_formulas.specs.Vertices.{present}
use Rattle.page_formulas.specs.ProperFormulas.{SmallPlace}
use Rattle.page_questions.specs.Guarantees.{Every}
use Rattle.page_sheets.specs.Facts.{start, taken, decide}
use Rattle.page_sheets.specs.FastRule.{side_of, after, strained, calm_node, strained_node, half, fast}
use Rattle.page_sheets.specs.Growth.{join, Growth, grow_tree}
use Rattle.page_sheets.proofs.FastRule.{Here, UpTo, Same, join_same, fast_tree}
use Rattle.page_sheets.proofs.Fit.{Fit, present_below}
use Rattle.page_sheets.proofs.HeldFacts.{InBounds, bounds_start, bounds_decide}
use Rattle.page_sheets.proofs.SameFacts.{OfRanges}

module _ (n : ℕ) (F : Formula) where
  -- an edge at a vertex above the last of the ranges is missing
  pub alone : (g : Grid) → InBounds (suc n) F.ranges g → Alone (weight g) (length F.ranges)
  alone g b = record { no_way_out = λ u v h. b.no_way_out u v (above u h); no_way_in = λ u v h. b.no_way_in u v (above v h) }
    where
      above : (v : ℕ) → length F.ranges < v → ¬ T (present F.ranges v)
      above v h t = omega (arith, present_below F.ranges v t)

  half_among : length F.ranges ≤ n → n < most_vertices → (near : Weights) (q : Place) (ds : List Bool) (g : Grid) → InBounds (suc n) F.ranges g → (r r' : Growth) → r ≡ r' → half n F near q ds g r ≡ half (length F.ranges) F near q ds g r'
  half_among l few near q ds g b r r' e = ap₂ (λ o x. cond (strained near q) (strained_node (known F.program ds) o) x) (among_search (weight g) (length F.ranges) (alone g b) b.floor n l few) e

  pub fast_among : length F.ranges ≤ n → n < most_vertices → (todo : List Place) (ds : List Bool) (g : Grid) (near : Weights) → InBounds (suc n) F.ranges g → Every (SmallPlace F.ranges) todo → fast n F todo ds g near ≡ fast (length F.ranges) F todo ds g near
  unfolding fast
  fast_among l few [] ds g near b a = refl
  fast_among l few (p ∷ todo) ds g near b a = ap₂ (λ t f. calm_node (known F.program ds) (near 0) (join t f)) (side true (λ b'. fast_among l few todo _ _ _ b' a.1)) (side false (λ b'. fast_among l few todo _ _ _ b' a.1))
    where
      m : ℕ
      m = length F.ranges

      side : (d : Bool) → (InBounds (suc n) F.ranges (decide g p d) → fast n F todo (ds ++ d ∷ []) (decide g p d) (after near (taken p d)) ≡ fast m F todo (ds ++ d ∷ []) (decide g p d) (after near (taken p d))) → side_of n F p todo ds g near d ≡ side_of m F p todo ds g near d
      side d f = let b' = bounds_decide (suc n) F.ranges g p d a.0 b in half_among l few near (taken p d) (ds ++ d ∷ []) (decide g p d) b' _ _ (f b')

  -- ---- a closure in a table: only its entries between the first vertices count
  abbrev pub SameBelow : Weights → Weights → Type 0
  SameBelow near near' = (u v : ℕ) → u < suc n → v < suc n → near u v ≡ near' u v

  abbrev pub Ends : Place → Type 0
  Ends p = (p.left < suc n) × (p.right < suc n)

  ends_taken : (p : Place) (d : Bool) → Ends p → Ends (taken p d)
  ends_taken p true e = e
  ends_taken p false e = (e.1, e.0)

  pub after_table : (near near' : Weights) (q : Place) → SameBelow near near' → Ends q → SameBelow (after near q) (after near' q)
  unfolding relax
  after_table near near' q s e u v hu hv = rw (s u v hu hv, s u q.right hu e.1, s q.left v e.0 hv)

  calm_table : (near near' : Weights) → SameBelow near near' → (k : Three) (r r' : Growth) → Same (UpTo n) r r' → Same (UpTo n) (calm_node k (near 0) r) (calm_node k (near' 0) r')
  calm_table near near' s fails r r' h = refl
  calm_table near near' s passes r r' h = λ v hv. s 0 v (omega arith) hv
  calm_table near near' s open? r r' h = h

  -- only what lies below a node makes a difference to it
  pub half_same : (near : Weights) (q : Place) (ds : List Bool) (g : Grid) (r r' : Growth) → Same (UpTo n) r r' → Same (UpTo n) (half n F near q ds g r) (half n F near q ds g r')
  half_same near q ds g r r' h = go (strained near q) (known F.program ds) (search (weight g) n)
    where
      go : (b : Bool) (k : Three) (o : Option (List ℕ)) → Same (UpTo n) (cond b (strained_node k o) r) (cond b (strained_node k o) r')
      go true fails o = refl
      go true passes o = refl
      go true open? o = refl
      go false k o = h

  half_table : (near near' : Weights) (q : Place) (ds : List Bool) (g : Grid) → SameBelow near near' → Ends q → (r r' : Growth) → Same (UpTo n) r r' → Same (UpTo n) (half n F near q ds g r) (half n F near' q ds g r')
  half_table near near' q ds g s e r r' h = rw (s q.left q.right e.0 e.1) (half_same near' q ds g r r' h)

  pub fast_table : (todo : List Place) (ds : List Bool) (g : Grid) (near near' : Weights) → SameBelow near near' → Every Ends todo → Same (UpTo n) (fast n F todo ds g near) (fast n F todo ds g near')
  unfolding fast
  fast_table [] ds g near near' s a = calm_table near near' s (known F.program ds) _ _ (λ v hv. s 0 v (omega arith) hv)
  fast_table (p ∷ todo) ds g near near' s a =
      calm_table near near' s (known F.program ds) _ _
      (join_same (UpTo n) (side_of n F p todo ds g near true) (side_of n F p todo ds g near' true) (side_of n F p todo ds g near false) (side_of n F p todo ds g near' false)
      (side true (fast_table todo (ds ++ true ∷ []) (decide g p true))) (side false (fast_table todo (ds ++ false ∷ []) (decide g p false))))
    where
      side : (d : Bool) → ((m m' : Weights) → SameBelow m m' → Every Ends todo → Same (UpTo n) (fast n F todo (ds ++ d ∷ []) (decide g p d) m) (fast n F todo (ds ++ d ∷ []) (decide g p d) m')) → Same (UpTo n) (side_of n F p todo ds g near d) (side_of n F p todo ds g near' d)
      side d f =
          let e = ends_taken p d a.0 in
          half_table near near' (taken p d) (ds ++ d ∷ []) (decide g p d) s e _ _ (f (after near (taken p d)) (after near' (taken p d)) (after_table near near' (taken p d) s e) a.1)

  -- ---- what the code works out for a formula is what the writer's rule comes to
  pub fast_formula : Fit (suc n) F → (near : Weights) → OfRanges F.ranges near → Same (Here F.ranges) (grow_tree n F) (fast (length F.ranges) F (places F.program) [] (start (suc n) F.ranges) near)
  fast_formula p near o =
      let m = length F.ranges in
      let few : n < most_vertices = omega (arith, p.few) in
      let l : m ≤ n = omega (arith, p.some_vertex) in
      rw (fast_among l few (places F.program) [] (start (suc n) F.ranges) near (bounds_start (suc n) F.ranges p.ranges_small) p.places_small) at (fast_tree n F p near o)
