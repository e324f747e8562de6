-- The facts of a formula weigh the same in grids of any size that has its vertices; so do what is found there.
use Prim.Native.Nat.{ℕ, suc, ◌+◌, ◌≤◌, ◌<◌}
use mathlib.Core.Path.{◌≡◌, refl, sym, ap, ◌∙◌, subst, fun_ext}
use mathlib.Core.Bool.{Bool, true, false}
use mathlib.Core.Option.{Option, none, some}
use mathlib.Core.List.{List, [], ◌∷◌, ◌++◌}
use native.Mathlib.Omega.{arith}
use lib.ListN.{length}
use lib.Dec.{T}
use lib.IntN.{◌+ℤ◌, neg_ℤ}
use lib.Signed.{◌≤ℤ◌}
use Rattle.page_numbers.proofs.Bridge.{ints}
use Rattle.page_walks.specs.Grid.{Grid, weight, tighten, blank}
use Rattle.page_walks.specs.Search.{search, dist}
use Rattle.page_walks.specs.Shortest.{Greatest}
use Rattle.page_walks.specs.Sizes.{Sized}
use Rattle.page_walks.specs.Walk.{Sat}
use Rattle.page_walks.proofs.FewerVertices.{among_search}
use Rattle.page_walks.proofs.Grids.{tighten_sized, tighten_alike, blank_sized, blank_far}
use Rattle.page_walks.proofs.Search.{search_is, dist_greatest}
use Rattle.page_formulas.specs.Formulas.{Formula}
use Rattle.page_formulas.specs.Knowledge.{Three, fails, passes, open?, known}
use Rattle.page_formulas.specs.Program.{Values, Place, places}
use Rattle.page_formulas.specs.ProperFormulas.{SmallPlace}
use Rattle.page_formulas.specs.Vertices.{Ranges, present}
use Rattle.page_questions.specs.Guarantees.{Every}
use Rattle.page_sheets.specs.Facts.{start, confine, confine_all, decide}
use Rattle.page_sheets.specs.Growth.{Growth, open_at, at_node, grow, grow_tree}
use Rattle.page_sheets.proofs.AbsentVertices.{settle, settle_there, settle_sat}
use Rattle.page_sheets.proofs.FastRule.{Here, Same, join_same}
use Rattle.page_sheets.proofs.Fit.{Fit, present_below}
use Rattle.page_sheets.proofs.HeldFacts.{InBounds, bounds_start, bounds_decide}
use Rattle.page_sheets.proofs.MetFacts.{Meets}
use Rattle.page_sheets.proofs.OwnVertices.{alone}

-- ---- the grids

module _ (N M : ℕ) where
  confine_alike : (g h : Grid) (s : ℕ) (ts : Ranges) → Sized N g → Sized M h → (s + length ts ≤ N) × (s + length ts ≤ M) → (0 < N) × (0 < M) → weight g ≡ weight h → weight (confine_all g s ts) ≡ weight (confine_all h s ts)
  unfolding confine_all
  confine_alike g h s [] a b l z e = e
  confine_alike g h s (none ∷ ts) a b l z e = confine_alike g h (suc s) ts a b (omega (arith, l.0), omega (arith, l.1)) z e
  confine_alike g h s (some r ∷ ts) a b l z e =
      let i : s < N = omega (arith, l.0) in
      let j : s < M = omega (arith, l.1) in
      let a₁ = tighten_sized N g 0 s r.hi a in
      let b₁ = tighten_sized M h 0 s r.hi b in
      let e₁ = tighten_alike N M g h 0 s r.hi a b (z.0, i) (z.1, j) e in
      confine_alike (confine g s (some r)) (confine h s (some r)) (suc s) ts (tighten_sized N (tighten g 0 s r.hi) s 0 (neg_ℤ r.lo) a₁) (tighten_sized M (tighten h 0 s r.hi) s 0 (neg_ℤ r.lo) b₁) (omega (arith, l.0), omega (arith, l.1)) z
      (tighten_alike N M (tighten g 0 s r.hi) (tighten h 0 s r.hi) s 0 (neg_ℤ r.lo) a₁ b₁ (i, z.0) (j, z.1) e₁)

  pub start_alike : (rs : Ranges) → (length rs < N) × (length rs < M) → weight (start N rs) ≡ weight (start M rs)
  start_alike rs l = confine_alike (blank N) (blank M) 1 rs (blank_sized N) (blank_sized M) (omega (arith, l.0), omega (arith, l.1)) (omega (arith, l.0), omega (arith, l.1)) (fun_ext (λ u. fun_ext (λ v. blank_far N u v ∙ sym (blank_far M u v))))

  pub decide_alike : (rs : Ranges) → (length rs < N) × (length rs < M) → (g h : Grid) (p : Place) (d : Bool) → SmallPlace rs p → Sized N g → Sized M h → weight g ≡ weight h → weight (decide g p d) ≡ weight (decide h p d)
  decide_alike rs l g h p d s a b e = go d
    where
      left : p.left ≤ length rs
      left = present_below rs p.left s.left_is

      right : p.right ≤ length rs
      right = present_below rs p.right s.right_is

      go : (d : Bool) → weight (decide g p d) ≡ weight (decide h p d)
      go true = tighten_alike N M g h _ _ _ a b (omega (arith, right, l.0), omega (arith, left, l.0)) (omega (arith, right, l.1), omega (arith, left, l.1)) e
      go false = tighten_alike N M g h _ _ _ a b (omega (arith, left, l.0), omega (arith, right, l.0)) (omega (arith, left, l.1), omega (arith, right, l.1)) e

-- the greatest values that meet the facts in one grid are no greater than those in another, at the formula's vertices
greatest_most : (n m : ℕ) (rs : Ranges) (g h : Grid) → length rs ≤ n → length rs ≤ m → InBounds (suc m) rs h → weight g ≡ weight h → (x y : Values) → Greatest (weight g) (suc n) x → Greatest (weight h) (suc m) y → (v : ℕ) → T (present rs v) → x v ≤ℤ y v
unfolding Sat
greatest_most n m rs g h i j b e x y a c v t =
    let meets : Meets rs h x = λ u v hu hv. subst (λ w. x v ≤ℤ (x u +ℤ w u v)) e (a.meets u v (omega (arith, present_below rs u hu)) (omega (arith, present_below rs v hv))) in
    let most = c.most (settle rs x) a.at_zero (settle_sat rs x m h b a.at_zero meets) v (omega (arith, present_below rs v t)) in
    omega (ints, most, settle_there rs x v t)

-- ---- what the writer's rule comes to

module _ (n m : ℕ) (F : Formula) (p : Fit (suc n) F) (o : Fit (suc m) F) where
  few : (length F.ranges < suc n) × (length F.ranges < suc m)
  few = (p.some_vertex, o.some_vertex)

  module _ (g h : Grid) (b : InBounds (suc n) F.ranges g) (c : InBounds (suc m) F.ranges h) (e : weight g ≡ weight h) where
    search_alike : search (weight g) n ≡ search (weight h) m
    search_alike =
        let k = length F.ranges in
        among_search (weight g) k (alone n F g b) b.floor n (omega (arith, few.0)) (omega (arith, p.few))
        ∙ ap (λ w. search w k) e
        ∙ sym (among_search (weight h) k (alone m F h c) c.floor m (omega (arith, few.1)) (omega (arith, o.few)))

    dist_alike : search (weight g) n ≡ none → (v : ℕ) → T (present F.ranges v) → dist (weight g) n v ≡ dist (weight h) m v
    dist_alike d v t =
        let x = dist_greatest (weight g) n (rw d at (search_is (weight g) n)) in
        let y = dist_greatest (weight h) m (rw (sym search_alike ∙ d) at (search_is (weight h) m)) in
        omega (
          ints,
          greatest_most n m F.ranges g h (omega (arith, few.0)) (omega (arith, few.1)) c e (dist (weight g) n) (dist (weight h) m) x y v t,
          greatest_most m n F.ranges h g (omega (arith, few.1)) (omega (arith, few.0)) b (sym e) (dist (weight h) m) (dist (weight g) n) y x v t,
        )

    node_alike : (k : Three) (r r' : Growth) → (search (weight g) n ≡ none → Same (Here F.ranges) r r') → Same (Here F.ranges) (at_node k (search (weight g) n) (dist (weight g) n) r) (at_node k (search (weight h) m) (dist (weight h) m) r')
    node_alike k r r' s = rw (← search_alike) (go k (search (weight g) n) refl)
      where
        go : (k : Three) (f : Option (List ℕ)) → search (weight g) n ≡ f → Same (Here F.ranges) (at_node k f (dist (weight g) n) r) (at_node k f (dist (weight h) m) r')
        go fails f d = refl
        go passes (some c) d = refl
        go passes none d = dist_alike d
        go open? (some c) d = refl
        go open? none d = s d

  grow_alike : (todo : List Place) (ds : List Bool) (g h : Grid) → Every (SmallPlace F.ranges) todo → InBounds (suc n) F.ranges g → InBounds (suc m) F.ranges h → weight g ≡ weight h → Same (Here F.ranges) (grow n F todo ds g) (grow m F todo ds h)
  unfolding grow
  grow_alike [] ds g h a b c e = node_alike g h b c e (known F.program ds) (open_at (dist (weight g) n)) (open_at (dist (weight h) m)) (dist_alike g h b c e)
  grow_alike (q ∷ todo) ds g h a b c e =
      node_alike g h b c e (known F.program ds) _ _
      (λ d. join_same (Here F.ranges) (grow n F todo (ds ++ true ∷ []) (decide g q true)) (grow m F todo (ds ++ true ∷ []) (decide h q true)) (grow n F todo (ds ++ false ∷ []) (decide g q false)) (grow m F todo (ds ++ false ∷ []) (decide h q false))
      (grow_alike todo (ds ++ true ∷ []) (decide g q true) (decide h q true) a.1 (left true) (right true) (same true))
      (grow_alike todo (ds ++ false ∷ []) (decide g q false) (decide h q false) a.1 (left false) (right false) (same false)))
    where
      left : (d : Bool) → InBounds (suc n) F.ranges (decide g q d)
      left d = bounds_decide (suc n) F.ranges g q d a.0 b

      right : (d : Bool) → InBounds (suc m) F.ranges (decide h q d)
      right d = bounds_decide (suc m) F.ranges h q d a.0 c

      same : (d : Bool) → weight (decide g q d) ≡ weight (decide h q d)
      same d = decide_alike (suc n) (suc m) F.ranges few g h q d a.0 b.sized c.sized e

  pub tree_alike : Same (Here F.ranges) (grow_tree n F) (grow_tree m F)
  tree_alike = grow_alike (places F.program) [] (start (suc n) F.ranges) (start (suc m) F.ranges) p.places_small (bounds_start (suc n) F.ranges p.ranges_small) (bounds_start (suc m) F.ranges o.ranges_small) (start_alike (suc n) (suc m) F.ranges few)
