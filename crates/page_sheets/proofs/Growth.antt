-- What the writer finds is right: a shut tree passes the check, and at an open leaf the formula holds.
use Prim.Native.Nat.{ℕ, suc, ◌+◌, ◌≤◌, ◌<◌}
use mathlib.Core.Path.{◌≡◌, refl, sym, ap, ◌∙◌, subst}
use mathlib.Core.Logic.{◌≢◌}
use mathlib.Core.Bool.{Bool, true, false, true≢false}
use mathlib.Core.Option.{Option, none, some}
use mathlib.Core.List.{List, [], ◌∷◌, ◌++◌, append_assoc}
use native.Mathlib.Omega.{arith}
use lib.ListN.{length, length-append}
use lib.Dec.{T, leb, le→leb}
use lib.IntN.{pos}
use lib.Signed.{◌<ℤ◌, lt_z}
use Rattle.page_numbers.specs.Outcome.{good, refused}
use Rattle.page_meaning.specs.Limits.{most_vertices}
use Rattle.page_walks.specs.Grid.{Grid, weight}
use Rattle.page_walks.specs.Search.{search, dist}
use Rattle.page_walks.specs.Shortest.{Shortest}
use Rattle.page_walks.specs.Walk.{closed}
use Rattle.page_walks.proofs.Search.{search_is, dist_greatest}
use Rattle.page_formulas.specs.Formulas.{Formula}
use Rattle.page_formulas.specs.Knowledge.{Three, fails, passes, open?, known}
use Rattle.page_formulas.specs.Program.{Values, Place, truth, places}
use Rattle.page_formulas.specs.Vertices.{InRange, Ranges, present}
use Rattle.page_formulas.proofs.Truths.{known_says, known_sure}
use Rattle.page_formulas.specs.Truths.{Sure}
use Rattle.page_formulas.specs.ProperFormulas.{SmallPlace}
use Rattle.page_questions.specs.Guarantees.{Every}
use Rattle.page_sheets.specs.Facts.{start, decide}
use Rattle.page_sheets.specs.Growth.{join, Growth, shut, open_at, at_node, grow, grow_tree}
use Rattle.page_sheets.specs.Tree.{more, Checked, and_then, Tree, cycle, bytes_of, vertices, cycle_node, node, check, check_tree}
use Rattle.page_sheets.proofs.Fit.{Fit, present_below, to_true}
use Rattle.page_sheets.proofs.HeldFacts.{InBounds, bounds_start, bounds_decide, negative_present, Records, records_start, records_decide}
use Rattle.page_sheets.proofs.Soundness.{sound, snoc_lengths}

pub never_open : (k : Three) → Sure k → k ≢ open?
never_open fails h e = subst Sure e tt
never_open passes h e = subst Sure e tt
never_open open? h e = h

-- n + 1 vertices
module _ (n : ℕ) (F : Formula) where
  -- ---- (a) what is shut passes the check
  vertices_read : (rs : Ranges) (c : List ℕ) (at : ℕ) (rest : List ℕ) → Every (λ v. T (present rs v)) c → vertices rs (length c) at (c ++ rest) ≡ good (c, at + length c, rest)
  unfolding vertices
  vertices_read rs [] at rest a = ap (λ o. good ([], o, rest)) (omega arith)
  vertices_read rs (v ∷ c) at rest a = rw (to_true (present rs v) a.0) (ap (more v) (vertices_read rs c (suc at) rest a.1) ∙ ap (λ o. good (v ∷ c, o, rest)) (omega arith))

  cycle_passes : (g : Grid) (c : List ℕ) (at : ℕ) (rest : List ℕ) → 0 < length c → length c ≤ suc n → Every (λ v. T (present F.ranges v)) c → closed (weight g) c <ℤ pos 0 → cycle_node (suc n) F g at (length c ∷ c ++ rest) ≡ good (suc (suc at) + length c, rest)
  cycle_passes g [] at rest l m a h = absurd (omega arith)
  cycle_passes g (v ∷ p) at rest l m a h = rw (to_true (leb (suc (length p)) (suc n)) (le→leb (suc (length p)) (suc n) m), vertices_read F.ranges (v ∷ p) (suc (suc at)) rest a, to_true (lt_z (closed (weight g) (v ∷ p)) (pos 0)) h.lt)

  -- a checker of bytes passes what is shut, and hands on what follows
  abbrev pub Passes : (ℕ → List ℕ → Checked) → Growth → Type 0
  Passes f (shut t) = (at : ℕ) (rest : List ℕ) → f at (bytes_of t ++ rest) ≡ good (at + length (bytes_of t), rest)
  Passes f (open_at x) = Unit {0}

  found_passes : (ds : List Bool) (g : Grid) (branch : ℕ → List ℕ → Checked) → InBounds (suc n) F.ranges g → suc n ≤ most_vertices → (c : List ℕ) → search (weight g) n ≡ some c → Passes (λ at bs. node (suc n) F ds g at bs (branch at)) (shut (cycle c))
  unfolding bytes_of
  found_passes ds g branch b few c e at rest =
      let s : Shortest (weight g) n c = rw e at (search_is (weight g) n) in
      cycle_passes g c at rest s.some_vertex s.short (negative_present (suc n) F.ranges g b c (omega (arith, s.short)) s.negative) s.negative ∙ ap (λ o. good (o, rest)) (omega arith)

  node_passes : (ds : List Bool) (g : Grid) (branch : ℕ → List ℕ → Checked) → InBounds (suc n) F.ranges g → suc n ≤ most_vertices → (k : Three) → known F.program ds ≡ k → (s : Option (List ℕ)) → search (weight g) n ≡ s → (x : Values) (r : Growth) → Passes (λ at bs. node (suc n) F ds g at bs (branch at)) r → Passes (λ at bs. node (suc n) F ds g at bs (branch at)) (at_node k s x r)
  unfolding bytes_of
  node_passes ds g branch b few fails e s d x r h = λ at rest. rw e (ap (λ o. good (o, rest)) (omega arith))
  node_passes ds g branch b few passes e (some c) d x r h = found_passes ds g branch b few c d
  node_passes ds g branch b few passes e none d x r h = tt
  node_passes ds g branch b few open? e (some c) d x r h = found_passes ds g branch b few c d
  node_passes ds g branch b few open? e none d x r h = h

  join_passes : (ds : List Bool) (g : Grid) (first second : ℕ → List ℕ → Checked) (t f : Growth) → Passes first t → Passes second f → Passes (λ at bs. node (suc n) F ds g at bs (λ rest. and_then (first (suc at) rest) second)) (join t f)
  unfolding bytes_of
  join_passes ds g first second (open_at x) f h k = tt
  join_passes ds g first second (shut t) (open_at x) h k = tt
  join_passes ds g first second (shut t) (shut f) h k = λ at rest.
      ap (λ bs. and_then (first (suc at) bs) second) (append_assoc (bytes_of t) (bytes_of f) rest)
      ∙ ap (λ o. and_then o second) (h (suc at) (bytes_of f ++ rest))
      ∙ k (suc at + length (bytes_of t)) rest
      ∙ ap (λ o. good (o, rest)) (omega (arith, length-append (bytes_of t) (bytes_of f)))

  grow_passes : (todo : List Place) (ds : List Bool) (g : Grid) → suc n ≤ most_vertices → InBounds (suc n) F.ranges g → Every (SmallPlace F.ranges) todo → Passes (λ at bs. check (suc n) F todo ds g at bs) (grow n F todo ds g)
  unfolding grow check
  grow_passes [] ds g few b a = node_passes ds g (λ at rest. refused 15 at) b few (known F.program ds) refl (search (weight g) n) refl (dist (weight g) n) (open_at (dist (weight g) n)) tt
  grow_passes (p ∷ todo) ds g few b a =
      let first : ℕ → List ℕ → Checked = λ at bs. check (suc n) F todo (ds ++ true ∷ []) (decide g p true) at bs in
      let second : ℕ → List ℕ → Checked = λ at bs. check (suc n) F todo (ds ++ false ∷ []) (decide g p false) at bs in
      let t = grow n F todo (ds ++ true ∷ []) (decide g p true) in
      let f = grow n F todo (ds ++ false ∷ []) (decide g p false) in
      node_passes ds g (λ at rest. and_then (first (suc at) rest) second) b few (known F.program ds) refl (search (weight g) n) refl (dist (weight g) n) (join t f)
      (join_passes ds g first second t f
      (grow_passes todo (ds ++ true ∷ []) (decide g p true) few (bounds_decide (suc n) F.ranges g p true a.0 b) a.1)
      (grow_passes todo (ds ++ false ∷ []) (decide g p false) few (bounds_decide (suc n) F.ranges g p false a.0 b) a.1))

  -- ---- (b) where it is open the values are in range and the formula holds
  abbrev pub Meant : Growth → Type 0
  Meant (shut t) = Unit {0}
  Meant (open_at x) = InRange F.ranges x × (truth x F.program ≡ true)

  join_meant : (t f : Growth) → Meant t → Meant f → Meant (join t f)
  join_meant (open_at x) f h k = h
  join_meant (shut t) (open_at x) h k = k
  join_meant (shut t) (shut f) h k = tt

  open_meant : (ds : List Bool) (g : Grid) → Records (suc n) F.ranges (places F.program) g ds → known F.program ds ≡ passes → search (weight g) n ≡ none → Meant (open_at (dist (weight g) n))
  open_meant ds g r e d =
      let m = dist_greatest (weight g) n (rw d at (search_is (weight g) n)) in
      let x = dist (weight g) n in
      let q = r x m.at_zero m.meets in
      (q.0, rw e at (known_says x F.program ds q.1))

  node_meant : (ds : List Bool) (g : Grid) → Records (suc n) F.ranges (places F.program) g ds → (k : Three) → known F.program ds ≡ k → (s : Option (List ℕ)) → search (weight g) n ≡ s → (r : Growth) → (k ≡ open? → Meant r) → Meant (at_node k s (dist (weight g) n) r)
  node_meant ds g rec fails e s d r h = tt
  node_meant ds g rec passes e (some c) d r h = tt
  node_meant ds g rec passes e none d r h = open_meant ds g rec e d
  node_meant ds g rec open? e (some c) d r h = tt
  node_meant ds g rec open? e none d r h = h refl

  grow_meant : (todo done : List Place) (ds : List Bool) (g : Grid) → places F.program ≡ done ++ todo → length done ≡ length ds → length F.ranges < suc n → Every (SmallPlace F.ranges) todo → InBounds (suc n) F.ranges g → Records (suc n) F.ranges (places F.program) g ds → Meant (grow n F todo ds g)
  unfolding grow
  grow_meant [] done ds g e l h a b r =
      let all : length (places F.program) ≤ length ds = omega (arith, ap length e, length-append done []) in
      node_meant ds g r (known F.program ds) refl (search (weight g) n) refl (open_at (dist (weight g) n)) (λ o. absurd (never_open (known F.program ds) (known_sure F.program ds all) o))
  grow_meant (p ∷ todo) done ds g e l h a b r =
      node_meant ds g r (known F.program ds) refl (search (weight g) n) refl _
      (λ o. join_meant (grow n F todo (ds ++ true ∷ []) (decide g p true)) (grow n F todo (ds ++ false ∷ []) (decide g p false))
      (grow_meant todo (done ++ p ∷ []) (ds ++ true ∷ []) (decide g p true) (e ∙ sym (append_assoc done (p ∷ []) todo)) (snoc_lengths done p ds true l) h a.1 (bounds_decide (suc n) F.ranges g p true a.0 b) (next true))
      (grow_meant todo (done ++ p ∷ []) (ds ++ false ∷ []) (decide g p false) (e ∙ sym (append_assoc done (p ∷ []) todo)) (snoc_lengths done p ds false l) h a.1 (bounds_decide (suc n) F.ranges g p false a.0 b) (next false)))
    where
      below : (v : ℕ) → T (present F.ranges v) → v < suc n
      below v t = omega (arith, present_below F.ranges v t)

      next : (d : Bool) → Records (suc n) F.ranges (places F.program) (decide g p d) (ds ++ d ∷ [])
      next d = rw e (records_decide (suc n) F.ranges done p todo g ds d b.sized (below p.left a.0.left_is) (below p.right a.0.right_is) l (rw e at r))

  -- ---- the writer and the checker of a formula
  module _ (proper : Fit (suc n) F) where
    pub shut_passes : (t : Tree) → grow_tree n F ≡ shut t → (at : ℕ) (rest : List ℕ) → check_tree (suc n) F at (bytes_of t ++ rest) ≡ good (at + length (bytes_of t), rest)
    shut_passes t e = rw e at (grow_passes (places F.program) [] (start (suc n) F.ranges) proper.few (bounds_start (suc n) F.ranges proper.ranges_small) proper.places_small)

    pub open_holds : (x : Values) → grow_tree n F ≡ open_at x → InRange F.ranges x × (truth x F.program ≡ true)
    open_holds x e = rw e at (grow_meant (places F.program) [] [] (start (suc n) F.ranges) refl refl proper.some_vertex proper.places_small (bounds_start (suc n) F.ranges proper.ranges_small) (records_start (suc n) F.ranges (places F.program) proper.some_vertex))

    -- (c) shut exactly where the formula fails on all values in range
    pub shut_fails : (t : Tree) → grow_tree n F ≡ shut t → (ρ : Values) → InRange F.ranges ρ → truth ρ F.program ≡ false
    shut_fails t e = sound (suc n) F proper.ranges_small 0 (bytes_of t ++ []) (0 + length (bytes_of t)) [] (shut_passes t e 0 [])

    pub fails_shut : ((ρ : Values) → InRange F.ranges ρ → truth ρ F.program ≡ false) → (t : Tree) × (grow_tree n F ≡ shut t)
    fails_shut f = go (grow_tree n F) refl
      where
        go : (r : Growth) → grow_tree n F ≡ r → (t : Tree) × (grow_tree n F ≡ shut t)
        go (shut t) e = (t, e)
        go (open_at x) e = let h = open_holds x e in absurd (true≢false (sym h.1 ∙ f x h.0))

    -- and open exactly where it holds on some
    pub holds_open : (ρ : Values) → InRange F.ranges ρ → truth ρ F.program ≡ true → (x : Values) × (grow_tree n F ≡ open_at x)
    holds_open ρ h t = go (grow_tree n F) refl
      where
        go : (r : Growth) → grow_tree n F ≡ r → (x : Values) × (grow_tree n F ≡ open_at x)
        go (open_at x) e = (x, e)
        go (shut u) e = absurd (true≢false (sym t ∙ shut_fails u e ρ h))
