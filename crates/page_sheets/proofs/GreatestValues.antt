-- FORMAT 7.2: the values at an open leaf are the greatest that meet the facts there, in all columns at once.
use Prim.Native.Nat.{ℕ, suc, ◌≤◌, ◌<◌}
use mathlib.Core.Path.{◌≡◌, refl, sym, ap, ◌∙◌}
use mathlib.Core.Bool.{Bool, true, false}
use mathlib.Core.Option.{Option, none, some}
use mathlib.Core.List.{List, [], ◌∷◌, ◌++◌, append_assoc}
use native.Mathlib.Omega.{arith}
use lib.ListN.{length, length-append}
use lib.Dec.{T}
use Rattle.page_walks.specs.Grid.{Grid, weight}
use Rattle.page_walks.specs.Search.{search, dist}
use Rattle.page_walks.proofs.Search.{search_is, dist_greatest}
use Rattle.page_formulas.specs.Formulas.{Formula}
use Rattle.page_formulas.specs.Knowledge.{Three, fails, passes, open?, known}
use Rattle.page_formulas.specs.Program.{Values, test, Place, places}
use Rattle.page_formulas.specs.Vertices.{InRange, present}
use Rattle.page_formulas.specs.Truths.{Agrees}
use Rattle.page_formulas.proofs.Truths.{known_sure}
use Rattle.page_formulas.specs.ProperFormulas.{SmallRange, SmallPlace}
use Rattle.page_questions.specs.Guarantees.{Every}
use Rattle.page_sheets.specs.Demands.{GreatestLeaf}
use Rattle.page_sheets.specs.Facts.{start, decide}
use Rattle.page_sheets.specs.Growth.{join, Growth, shut, open_at, at_node, grow, grow_tree}
use Rattle.page_sheets.proofs.Fit.{Fit, present_below}
use Rattle.page_sheets.proofs.Growth.{never_open}
use Rattle.page_sheets.proofs.HeldFacts.{InBounds, bounds_start, bounds_decide, Records, records_start, records_decide}
use Rattle.page_sheets.proofs.MetFacts.{Meets, meets_start, meets_decide}
use Rattle.page_sheets.proofs.AbsentVertices.{settle, settle_there, settle_sat}
use Rattle.page_sheets.proofs.Soundness.{snoc_lengths}

-- values in range that agree with the decisions meet the grid, and over N vertex numbers what meets it is such
record Faithful (N : ℕ) (F : Formula) (g : Grid) (ds : List Bool) : Type 0 where
  into : (y : Values) → InRange F.ranges y → Agrees y (places F.program) ds → Meets F.ranges g y
  back : Records N F.ranges (places F.program) g ds

unsnoc : (y : Values) (done : List Place) (p : Place) (todo : List Place) (ds : List Bool) (d : Bool) → length done ≡ length ds → Agrees y (done ++ p ∷ todo) (ds ++ d ∷ []) → Agrees y (done ++ p ∷ todo) ds × (test y p ≡ d)
unsnoc y [] p todo [] d l a = (tt, a.0)
unsnoc y [] p todo (b ∷ ds) d l a = absurd (omega arith)
unsnoc y (q ∷ done) p todo [] d l a = absurd (omega arith)
unsnoc y (q ∷ done) p todo (b ∷ ds) d l a = let r = unsnoc y done p todo ds d (omega arith) a.1 in ((a.0, r.0), r.1)

module _ (n : ℕ) (F : Formula) where
  abbrev Best : Growth → Type 0
  Best (shut t) = Unit {0}
  Best (open_at x) = GreatestLeaf F x

  join_best : (t f : Growth) → Best t → Best f → Best (join t f)
  join_best (open_at x) f h k = h
  join_best (shut t) (open_at x) h k = k
  join_best (shut t) (shut f) h k = tt

  open_best : (ds : List Bool) (g : Grid) → length F.ranges < suc n → Every SmallRange F.ranges → InBounds (suc n) F.ranges g → Faithful (suc n) F g ds → known F.program ds ≡ passes → search (weight g) n ≡ none → GreatestLeaf F (dist (weight g) n)
  open_best ds g l a b m e d =
      let r = dist_greatest (weight g) n (rw d at (search_is (weight g) n)) in
      let own = m.back (dist (weight g) n) r.at_zero r.meets in
      record {
        decisions = ds;
        true_by = e;
        in_range = own.0;
        agrees = own.1;
        most = λ y h k v t. rw (settle_there F.ranges y v t) at (r.most (settle F.ranges y) h.at_zero (settle_sat F.ranges y n g b h.at_zero (m.into y h k)) v (omega (arith, present_below F.ranges v t)));
      }

  node_best : (ds : List Bool) (g : Grid) → length F.ranges < suc n → Every SmallRange F.ranges → InBounds (suc n) F.ranges g → Faithful (suc n) F g ds → (k : Three) → known F.program ds ≡ k → (s : Option (List ℕ)) → search (weight g) n ≡ s → (r : Growth) → (k ≡ open? → Best r) → Best (at_node k s (dist (weight g) n) r)
  node_best ds g l a b m fails e s d r h = tt
  node_best ds g l a b m passes e (some c) d r h = tt
  node_best ds g l a b m passes e none d r h = open_best ds g l a b m e d
  node_best ds g l a b m open? e (some c) d r h = tt
  node_best ds g l a b m open? e none d r h = h refl

  grow_best : (todo done : List Place) (ds : List Bool) (g : Grid) → places F.program ≡ done ++ todo → length done ≡ length ds → length F.ranges < suc n → Every SmallRange F.ranges → Every (SmallPlace F.ranges) todo → InBounds (suc n) F.ranges g → Faithful (suc n) F g ds → Best (grow n F todo ds g)
  unfolding grow
  grow_best [] done ds g e l h a s b m =
      let all : length (places F.program) ≤ length ds = omega (arith, ap length e, length-append done []) in
      node_best ds g h a b m (known F.program ds) refl (search (weight g) n) refl _ (λ o. absurd (never_open (known F.program ds) (known_sure F.program ds all) o))
  grow_best (p ∷ todo) done ds g e l h a s b m =
      node_best ds g h a b m (known F.program ds) refl (search (weight g) n) refl _
      (λ o. join_best (grow n F todo (ds ++ true ∷ []) (decide g p true)) (grow n F todo (ds ++ false ∷ []) (decide g p false))
      (grow_best todo (done ++ p ∷ []) (ds ++ true ∷ []) (decide g p true) (e ∙ sym (append_assoc done (p ∷ []) todo)) (snoc_lengths done p ds true l) h a s.1 (bounds_decide (suc n) F.ranges g p true s.0 b) (next true))
      (grow_best todo (done ++ p ∷ []) (ds ++ false ∷ []) (decide g p false) (e ∙ sym (append_assoc done (p ∷ []) todo)) (snoc_lengths done p ds false l) h a s.1 (bounds_decide (suc n) F.ranges g p false s.0 b) (next false)))
    where
      below : (v : ℕ) → T (present F.ranges v) → v < suc n
      below v t = omega (arith, present_below F.ranges v t)

      next : (d : Bool) → Faithful (suc n) F (decide g p d) (ds ++ d ∷ [])
      next d =
          record {
            into = λ y h k. let u = unsnoc y done p todo ds d l (rw e at k) in meets_decide F.ranges g y p d (m.into y h (rw e u.0)) u.1;
            back = rw e (records_decide (suc n) F.ranges done p todo g ds d b.sized (below p.left s.0.left_is) (below p.right s.0.right_is) l (rw e at m.back));
          }

  pub open_greatest : Fit (suc n) F → (x : Values) → grow_tree n F ≡ open_at x → GreatestLeaf F x
  open_greatest p x e =
      let met : Faithful (suc n) F (start (suc n) F.ranges) [] = record { into = λ y h k. meets_start (suc n) F.ranges y h p.ranges_small; back = records_start (suc n) F.ranges (places F.program) p.some_vertex } in
      rw e at (grow_best (places F.program) [] [] (start (suc n) F.ranges) refl refl p.some_vertex p.ranges_small p.places_small (bounds_start (suc n) F.ranges p.ranges_small) met)
