-- The fast rule with its closure in a table, so that it can be worked out: it comes to the same as the writer's rule, at the vertices that the
-- formula has.
use Prim.Native.Nat.{ℕ, zero, suc, ◌<◌}
use mathlib.Core.Path.{◌≡◌, refl, sym, ap, ◌∙◌}
use mathlib.Core.Bool.{Bool, true, false}
use mathlib.Core.List.{List, [], ◌∷◌, ◌++◌}
use native.Mathlib.Omega.{arith}
use lib.ListN.{get_or}
use lib.IntN.{ℤ}
use Rattle.page_walks.specs.Grid.{Grid, weight, far}
use Rattle.page_walks.specs.Nearness.{Weights}
use Rattle.page_formulas.specs.Formulas.{Formula, tabulate}
use Rattle.page_formulas.specs.Knowledge.{Three, fails, passes, open?, known}
use Rattle.page_formulas.specs.Program.{Values, Place, places}
use Rattle.page_formulas.specs.ProperFormulas.{Nonempty, SmallPlace}
use Rattle.page_questions.specs.Guarantees.{Every}
use Rattle.page_sheets.specs.Facts.{start, taken, decide}
use Rattle.page_sheets.specs.FastRule.{after, calm_node, half, fast, side_of}
use Rattle.page_sheets.specs.Growth.{join, Growth, shut, open_at, grow_tree}
use Rattle.page_sheets.proofs.OwnVertices.{half_same, SameBelow, Ends, fast_table}
use Rattle.page_sheets.proofs.FastRule.{Here, UpTo, Same, same_trans, join_same, fast_tree}
use Rattle.page_sheets.proofs.Fit.{Fit, present_below}
use Rattle.page_twelve.proofs.Spans.{span, span_ranges}

-- ---- a table of the entries between vertices 0 .. n

unfoldable pub rows : ℕ → (ℕ → List ℤ) → Grid
rows zero f = []
rows (suc k) f = f 0 ∷ rows k (λ i. f (suc i))

rows_at : (k : ℕ) (f : ℕ → List ℤ) (i : ℕ) → i < k → get_or (rows k f) i [] ≡ f i
unfolding rows
rows_at zero f i h = absurd (omega arith)
rows_at (suc k) f zero h = refl
rows_at (suc k) f (suc i) h = rows_at k (λ j. f (suc j)) i (omega arith)

entry_at : (k : ℕ) (f : ℕ → ℤ) (d : ℤ) (i : ℕ) → i < k → get_or (tabulate k f) i d ≡ f i
unfolding tabulate
entry_at zero f d i h = absurd (omega arith)
entry_at (suc k) f d zero h = refl
entry_at (suc k) f d (suc i) h = entry_at k (λ j. f (suc j)) d i (omega arith)

module _ (n : ℕ) where
  unfoldable pub table : Weights → Grid
  table near = rows (suc n) (λ u. tabulate (suc n) (near u))

  module _ (F : Formula) where
    -- by the places that are left, where no cycle is negative
    unfoldable pub table_fast : List Place → List Bool → Grid → Grid → Growth
    table_fast [] ds g t = calm_node (known F.program ds) (weight t 0) (open_at (weight t 0))
    table_fast (p ∷ todo) ds g t =
        let yes = table_fast todo (ds ++ true ∷ []) (decide g p true) (table (after (weight t) (taken p true))) in
        let no = table_fast todo (ds ++ false ∷ []) (decide g p false) (table (after (weight t) (taken p false))) in
        let branch = join (half n F (weight t) (taken p true) (ds ++ true ∷ []) (decide g p true) yes) (half n F (weight t) (taken p false) (ds ++ false ∷ []) (decide g p false) no) in
        calm_node (known F.program ds) (weight t 0) branch

    unfoldable pub table_tree : Growth
    table_tree = table_fast (places F.program) [] (start (suc n) F.ranges) (table (span F.ranges))

  -- ---- the table has the closure's entries

  module _ (F : Formula) where
    table_same : (near : Weights) → SameBelow n F near (weight (table near))
    unfolding table
    table_same near u v hu hv = sym (ap (λ l. get_or l v far) (rows_at (suc n) (λ u. tabulate (suc n) (near u)) u hu) ∙ entry_at (suc n) (near u) far v hv)

    -- ---- the same tree, or the same values at the vertices

    calm_same : (k : Three) (x : Values) (r r' : Growth) → Same (UpTo n) r r' → Same (UpTo n) (calm_node k x r) (calm_node k x r')
    calm_same fails x r r' h = refl
    calm_same passes x r r' h = λ v l. refl
    calm_same open? x r r' h = h

    fast_tabled : (todo : List Place) (ds : List Bool) (g : Grid) (near : Weights) (t : Grid) → SameBelow n F near (weight t) → Every (Ends n F) todo → Same (UpTo n) (fast n F todo ds g near) (table_fast F todo ds g t)
    unfolding fast table_fast
    fast_tabled [] ds g near t s a = fast_table n F [] ds g near (weight t) s a
    fast_tabled (p ∷ todo) ds g near t s a =
        let yes = taken p true in
        let no = taken p false in
        same_trans (UpTo n) (fast n F (p ∷ todo) ds g near) (fast n F (p ∷ todo) ds g (weight t)) (table_fast F (p ∷ todo) ds g t) (fast_table n F (p ∷ todo) ds g near (weight t) s a)
        (calm_same (known F.program ds) (weight t 0) _ _
        (join_same (UpTo n) (side_of n F p todo ds g (weight t) true) (half n F (weight t) yes (ds ++ true ∷ []) (decide g p true) (table_fast F todo (ds ++ true ∷ []) (decide g p true) (table (after (weight t) yes))))
        (side_of n F p todo ds g (weight t) false) (half n F (weight t) no (ds ++ false ∷ []) (decide g p false) (table_fast F todo (ds ++ false ∷ []) (decide g p false) (table (after (weight t) no))))
        (half_same n F (weight t) yes (ds ++ true ∷ []) (decide g p true) _ _ (fast_tabled todo (ds ++ true ∷ []) (decide g p true) (after (weight t) yes) (table (after (weight t) yes)) (table_same (after (weight t) yes)) a.1))
        (half_same n F (weight t) no (ds ++ false ∷ []) (decide g p false) _ _ (fast_tabled todo (ds ++ false ∷ []) (decide g p false) (after (weight t) no) (table (after (weight t) no)) (table_same (after (weight t) no)) a.1))))

    -- a vertex that the formula has is in the table
    below : Fit (suc n) F → (v : ℕ) → Here F.ranges v → UpTo n v
    below h v t = omega (arith, present_below F.ranges v t, h.some_vertex)

    places_end : (ps : List Place) → Fit (suc n) F → Every (SmallPlace F.ranges) ps → Every (Ends n F) ps
    places_end [] h a = tt
    places_end (p ∷ ps) h a = ((below h p.left a.0.left_is, below h p.right a.0.right_is), places_end ps h a.1)

    same_here : Fit (suc n) F → (r r' : Growth) → Same (UpTo n) r r' → Same (Here F.ranges) r r'
    same_here h (shut t) (shut u) s = s
    same_here h (shut t) (open_at y) s = s
    same_here h (open_at x) (shut u) s = s
    same_here h (open_at x) (open_at y) s = λ v t. s v (below h v t)

    pub tree_tabled : Fit (suc n) F → Every Nonempty F.ranges → Same (Here F.ranges) (grow_tree n F) (table_tree F)
    unfolding table_tree
    tree_tabled h e =
        let near = span F.ranges in
        let plain = fast n F (places F.program) [] (start (suc n) F.ranges) near in
        same_trans (Here F.ranges) (grow_tree n F) plain (table_tree F) (fast_tree n F h near (span_ranges F.ranges e))
        (same_here h plain (table_tree F) (fast_tabled (places F.program) [] (start (suc n) F.ranges) near (table near) (table_same near) (places_end (places F.program) h h.places_small)))
