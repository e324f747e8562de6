-- A sheet is checked alike over more vertex numbers, but for the cycles that only then may be named.
use Prim.Native.Nat.{ℕ, zero, suc, ◌+◌, ◌<◌}
use mathlib.Core.Path.{◌≡◌, refl, ap, ◌∙◌, subst}
use mathlib.Core.Logic.{◌⊎◌, inl, inr}
use mathlib.Core.Bool.{Bool, true, false, cond}
use mathlib.Core.List.{List, [], ◌∷◌, ◌++◌}
use native.Mathlib.Omega.{arith}
use borrow.Author.Tests.{leb-true, leb-false}
use lib.ListN.{length, get_or, drop}
use lib.Dec.{eqb, leb}
use lib.IntN.{pos}
use lib.Signed.{lt_z}
use Rattle.page_numbers.specs.Outcome.{Outcome, good, refused}
use Rattle.page_meaning.specs.Contents.{Question}
use Rattle.page_meaning.specs.Limits.{Limits, vertices_for}
use Rattle.page_walks.specs.Grid.{Grid, weight}
use Rattle.page_walks.specs.Walk.{closed}
use Rattle.page_formulas.specs.Formulas.{Formula, formulas}
use Rattle.page_formulas.specs.Program.{Place, places}
use Rattle.page_formulas.specs.ProperFormulas.{SmallPlace}
use Rattle.page_questions.specs.Guarantees.{Every, NoLower}
use Rattle.page_sheets.specs.Facts.{start, decide}
use Rattle.page_sheets.specs.RaisedLimits.{LongerCycle}
use Rattle.page_sheets.specs.Sheet.{Answer, field, yes_end, check_yes, check_body, marked, versioned, check_sheet_under}
use Rattle.page_sheets.specs.Tree.{Checked, and_then, Vertices, vertices, cycle_end, node, check, check_tree}
use Rattle.page_sheets.specs.Trees.{check_trees}
use Rattle.page_sheets.proofs.Fit.{Fit}
use Rattle.page_sheets.proofs.GridSizes.{start_alike, decide_alike}
use Rattle.page_sheets.proofs.HeldFacts.{InBounds, bounds_start, bounds_decide}
use Rattle.page_sheets.proofs.Remainders.{HandsOn, check_hands}

-- ---- what stands at an offset

at_byte : (s : List ℕ) (at b : ℕ) (rest : List ℕ) → drop at s ≡ b ∷ rest → (get_or s at 0 ≡ b) × (drop (suc at) s ≡ rest)
at_byte [] zero b rest e = absurd (let z : ◌≡◌ {A = ℕ} 0 1 = cc in omega arith)
at_byte [] (suc at) b rest e = absurd (let z : ◌≡◌ {A = ℕ} 0 1 = cc in omega arith)
at_byte (x ∷ s) zero b rest e = (cc, cc)
at_byte (x ∷ s) (suc at) b rest e = at_byte s at b rest e

past : (s : List ℕ) (at : ℕ) (used rest : List ℕ) → drop at s ≡ used ++ rest → (o : ℕ) → o ≡ at + length used → drop o s ≡ rest
past s at [] rest e o d = let same : o ≡ at = omega arith in rw same e
past s at (b ∷ used) rest e o d = past s (suc at) used rest (at_byte s at b (used ++ rest) e).1 o (omega arith)

module _ (l m : Limits) (more : NoLower l m) (sheet : List ℕ) where
  -- answered alike; or refused for a longer cycle
  abbrev pub Alike : {A : Type 0} → Outcome A → Outcome A → Type 0
  Alike x y = (x ≡ y) ⊎ LongerCycle l m sheet x

  abbrev N : ℕ
  N = vertices_for l

  abbrev M : ℕ
  M = vertices_for m

  -- what follows
  then_alike : (x y : Checked) (k j : ℕ → List ℕ → Checked) → Alike x y → ((o : ℕ) (r : List ℕ) → x ≡ good (o, r) → Alike (k o r) (j o r)) → Alike (and_then x k) (and_then y j)
  then_alike x y k j (inr c) f = inr (c.0, ap (λ z. and_then z k) c.1, c.2, c.3)
  then_alike x y k j (inl e) f = subst (λ z. Alike (and_then x k) (and_then z j)) e (go x f)
    where
      go : (x : Checked) → ((o : ℕ) (r : List ℕ) → x ≡ good (o, r) → Alike (k o r) (j o r)) → Alike (and_then x k) (and_then x j)
      go (good (o, r)) f = f o r refl
      go (refused n o) f = inl refl

  module _ (F : Formula) (p : Fit (vertices_for l) F) (o : Fit (vertices_for m) F) where
    few : (length F.ranges < N) × (length F.ranges < M)
    few = (p.some_vertex, o.some_vertex)

    cycle_alike : (g h : Grid) (at : ℕ) (r : Vertices) → weight g ≡ weight h → cycle_end g at r ≡ cycle_end h at r
    cycle_alike g h at (good (c, o, r)) e = ap (λ w. cond (lt_z (closed w c) (pos 0)) (good (o, r)) (refused 15 at)) e
    cycle_alike g h at (refused n o) e = refl

    -- a node 2 whose count is n
    count_alike : (at n : ℕ) (x y : Checked) → get_or sheet (suc at) 0 ≡ n → x ≡ y → Alike (cond (leb n N) x (refused 14 (suc at))) (cond (leb n M) y (refused 14 (suc at)))
    count_alike at n x y c e = go (leb n N) (leb n M) refl refl
      where
        go : (b d : Bool) → leb n N ≡ b → leb n M ≡ d → Alike (cond b x (refused 14 (suc at))) (cond d y (refused 14 (suc at)))
        go true true i j = inl e
        go true false i j = absurd (omega (arith, leb-true n N i, leb-false n M j, more.columns))
        go false true i j = inr (suc at, refl, omega (arith, c, leb-false n N i), omega (arith, c, leb-true n M j))
        go false false i j = inl refl

    node_alike : (ds : List Bool) (g h : Grid) (at : ℕ) (bs : List ℕ) (branch branch' : List ℕ → Checked) → drop at sheet ≡ bs → weight g ≡ weight h → ((rest : List ℕ) → drop (suc at) sheet ≡ rest → Alike (branch rest) (branch' rest)) → Alike (node N F ds g at bs branch) (node M F ds h at bs branch')
    node_alike ds g h at [] branch branch' d e k = inl refl
    node_alike ds g h at (zero ∷ bs) branch branch' d e k = inl refl
    node_alike ds g h at (suc zero ∷ bs) branch branch' d e k = inl refl
    node_alike ds g h at (suc (suc zero) ∷ []) branch branch' d e k = inl refl
    node_alike ds g h at (suc (suc zero) ∷ (zero ∷ bs)) branch branch' d e k = inl refl
    node_alike ds g h at (suc (suc zero) ∷ (suc n ∷ bs)) branch branch' d e k =
        let c = (at_byte sheet (suc at) (suc n) bs (at_byte sheet at 2 (suc n ∷ bs) d).1).0 in
        count_alike at (suc n) _ _ c (cycle_alike g h at (vertices F.ranges (suc n) (suc (suc at)) bs) e)
    node_alike ds g h at (suc (suc (suc zero)) ∷ bs) branch branch' d e k = k bs (at_byte sheet at 3 bs d).1
    node_alike ds g h at (suc (suc (suc (suc b))) ∷ bs) branch branch' d e k = inl refl

    check_alike : (todo : List Place) (ds : List Bool) (g h : Grid) (at : ℕ) (bs : List ℕ) → drop at sheet ≡ bs → Every (SmallPlace F.ranges) todo → InBounds N F.ranges g → InBounds M F.ranges h → weight g ≡ weight h → Alike (check N F todo ds g at bs) (check M F todo ds h at bs)
    unfolding check
    check_alike [] ds g h at bs d a b c e = node_alike ds g h at bs _ _ d e (λ rest i. inl refl)
    check_alike (q ∷ todo) ds g h at bs d a b c e =
        let half : (t : Bool) (at : ℕ) (rest : List ℕ) → drop at sheet ≡ rest → Alike (check N F todo (ds ++ t ∷ []) (decide g q t) at rest) (check M F todo (ds ++ t ∷ []) (decide h q t) at rest) =
        λ t at rest i.
        check_alike todo (ds ++ t ∷ []) (decide g q t) (decide h q t) at rest i a.1 (bounds_decide N F.ranges g q t a.0 b) (bounds_decide M F.ranges h q t a.0 c)
        (decide_alike N M F.ranges few g h q t a.0 b.sized c.sized e) in
        node_alike ds g h at bs _ _ d e (λ rest i. then_alike (first rest) _ _ _ (half true (suc at) rest i) (λ o r f. half false o r (left rest i o r f)))
      where
        first : List ℕ → Checked
        first rest = check N F todo (ds ++ true ∷ []) (decide g q true) (suc at) rest

        left : (rest : List ℕ) → drop (suc at) sheet ≡ rest → (o : ℕ) (r : List ℕ) → first rest ≡ good (o, r) → drop o sheet ≡ r
        left rest i o r f = let x = subst (HandsOn (suc at) rest) f (check_hands N F todo (ds ++ true ∷ []) (decide g q true) (suc at) rest) in past sheet (suc at) x.0 r (i ∙ x.1) o x.2

    tree_alike : (at : ℕ) (bs : List ℕ) → drop at sheet ≡ bs → Alike (check_tree N F at bs) (check_tree M F at bs)
    tree_alike at bs d = check_alike (places F.program) [] (start N F.ranges) (start M F.ranges) at bs d p.places_small (bounds_start N F.ranges p.ranges_small) (bounds_start M F.ranges o.ranges_small) (start_alike N M F.ranges few)

    tree_left : (at : ℕ) (bs : List ℕ) → drop at sheet ≡ bs → (e : ℕ) (r : List ℕ) → check_tree N F at bs ≡ good (e, r) → drop e sheet ≡ r
    tree_left at bs d e r f = let x = subst (HandsOn at bs) f (check_hands N F (places F.program) [] (start N F.ranges) at bs) in past sheet at x.0 r (d ∙ x.1) e x.2

  -- ---- all formulas, and whole sheets

  trees_alike : (Fs : List Formula) → Every (Fit (vertices_for l)) Fs → Every (Fit (vertices_for m)) Fs → (at : ℕ) (bs : List ℕ) → drop at sheet ≡ bs → Alike (check_trees N Fs at bs) (check_trees M Fs at bs)
  unfolding check_trees
  trees_alike [] p o at bs d = inl refl
  trees_alike (F ∷ Fs) p o at bs d =
      then_alike (check_tree N F at bs) _ _ _ (tree_alike F p.0 o.0 at bs d)
      (λ e r f. trees_alike Fs p.1 o.1 e r (tree_left F p.0 o.0 at bs d e r f))

  end_alike : (x y : Checked) → Alike x y → Alike (yes_end x) (yes_end y)
  end_alike x y (inl e) = inl (ap yes_end e)
  end_alike x y (inr c) = inr (c.0, ap yes_end c.1, c.2, c.3)

  field_alike : (at w : ℕ) (ok : Bool) (number : ℕ) (x y : Answer) → Alike x y → Alike (field sheet at w ok number x) (field sheet at w ok number y)
  field_alike at w ok number x y h = go (leb (at + w) (length sheet)) ok
    where
      go : (b c : Bool) → Alike (cond b (cond c x (refused number at)) (refused 11 at)) (cond b (cond c y (refused number at)) (refused 11 at))
      go true true = h
      go true false = inl refl
      go false c = inl refl

  pub sheet_alike : (q : Question) (a : ℕ) → Every (Fit (vertices_for l)) (formulas q a) → Every (Fit (vertices_for m)) (formulas q a) → Alike (check_sheet_under l q a sheet) (check_sheet_under m q a sheet)
  unfolding check_sheet_under check_yes
  sheet_alike q a p o =
      field_alike 0 3 (marked sheet) 12 _ _
      (field_alike 3 2 (versioned sheet) 13 _ _
      (field_alike 5 1 (eqb (get_or sheet 5 0) a) 14 _ _
      (field_alike 6 1 (leb (get_or sheet 6 0) 1) 14 _ _ (body (get_or sheet 6 0)))))
    where
      body : (v : ℕ) → Alike (check_body l q a sheet v) (check_body m q a sheet v)
      body zero = end_alike _ _ (trees_alike (formulas q a) p o 7 (drop 7 sheet) refl)
      body (suc v) = inl refl
