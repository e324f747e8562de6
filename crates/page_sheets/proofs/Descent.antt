-- What the fast rule comes to, by the values that meet the facts of a node: shut where the formula is true at none of them, else open.
-- So the first open leaf is reached by going down once, with an answer at each node whether the formula is open there.
use Prim.Native.Nat.{ℕ, suc, ◌≤◌, ◌<◌}
use mathlib.Core.Path.{◌≡◌, refl, sym, ap, ◌∙◌, subst}
use mathlib.Core.Logic.{◌⊎◌, inl, inr}
use mathlib.Core.Bool.{Bool, true, false, not, cond, true≢false}
use mathlib.Core.Option.{Option}
use mathlib.Core.List.{List, [], ◌∷◌, ◌++◌, append_assoc}
use native.Mathlib.Omega.{arith}
use lib.ListN.{length, length-append}
use lib.Dec.{T}
use lib.IntN.{ℤ, pos, negsuc, ◌+ℤ◌, neg_ℤ}
use lib.Signed.{◌≤ℤ◌, ◌<ℤ◌, lt_z_yes, lt_z_no}
use Rattle.page_numbers.proofs.Bridge.{+law, neg_up, neg_dn, ints}
use Rattle.page_numbers.proofs.Machine.{le_true, le_false, true_le, false_le, lt_true, lt_false, true_lt, false_lt}
use Rattle.page_walks.specs.Grid.{Grid, weight}
use Rattle.page_walks.specs.Nearness.{Weights, Least}
use Rattle.page_walks.specs.Search.{search}
use Rattle.page_walks.specs.Walk.{Sat}
use Rattle.page_walks.proofs.Nearness.{least_sat, relax_least, relaxed_old, relaxed_fact, relaxed_both, fact_round}
use Rattle.page_formulas.specs.Formulas.{Formula}
use Rattle.page_formulas.specs.Knowledge.{Three, fails, passes, open?, known}
use Rattle.page_formulas.specs.Program.{Values, Place, test, truth, places}
use Rattle.page_formulas.specs.Truths.{Agrees}
use Rattle.page_formulas.proofs.Truths.{known_says, known_sure}
use Rattle.page_questions.specs.Guarantees.{Every}
use Rattle.page_sheets.specs.Facts.{taken, decide}
use Rattle.page_sheets.specs.FastRule.{after, strained, calm_node, strained_node, half, fast, side_of}
use Rattle.page_sheets.specs.Growth.{join, Growth, shut, open_at}
use Rattle.page_sheets.specs.Tree.{Tree, false_leaf}
use Rattle.page_sheets.proofs.OwnVertices.{Ends, SameBelow}
use Rattle.page_sheets.proofs.Growth.{never_open}
use Rattle.page_sheets.proofs.Soundness.{agrees_snoc, snoc_lengths}

-- ---- a place that is as taken is a fact, and the other way round
module _ (x : Values) (p : Place) where
  pub taken_fact : (d : Bool) → test x p ≡ d → x (taken p d).left ≤ℤ (x (taken p d).right +ℤ (taken p d).most)
  taken_fact true e = omega (ints, le_true (x p.left) (x p.right +ℤ p.most) e)
  taken_fact false e = omega (ints, le_false (x p.left) (x p.right +ℤ p.most) e, +law (x p.right) p.most, +law (x p.left) (taken p false).most, +law (neg_ℤ p.most) (negsuc 0), neg_up p.most, neg_dn p.most)

  pub fact_taken : (d : Bool) → x (taken p d).left ≤ℤ (x (taken p d).right +ℤ (taken p d).most) → test x p ≡ d
  fact_taken true h = true_le (x p.left) (x p.right +ℤ p.most) (omega ints)
  fact_taken false h = false_le (x p.left) (x p.right +ℤ p.most) (omega (ints, +law (x p.right) p.most, +law (x p.left) (taken p false).most, +law (neg_ℤ p.most) (negsuc 0), neg_up p.most, neg_dn p.most))

shut_open : {t : Tree} {x : Values} → shut t ≡ open_at x → ⊥
shut_open {t} {x} e = subst Shut e tt
  where
    Shut : Growth → Type 0
    Shut (shut u) = Unit {0}
    Shut (open_at y) = ⊥

module _ (n : ℕ) (F : Formula) where
  -- values that meet the facts, at which the formula is true
  pub record TrueIn (near : Weights) (x : Values) : Type 0 where
    pub at_zero : x 0 ≡ pos 0
    pub sat : Sat near (suc n) x
    pub true_is : truth x F.program ≡ true

  -- on the way down: these places are decided and those are left, and values that meet the facts agree with the decisions
  pub record Down (done todo : List Place) (ds : List Bool) (near : Weights) : Type 0 where
    pub split_is : places F.program ≡ done ++ todo
    pub as_many : length done ≡ length ds
    pub least : Least (suc n) near
    pub agreeing : (x : Values) → Sat near (suc n) x → Agrees x (places F.program) ds
    pub ends : Every (Ends n F) todo

  -- one decision more
  module _ (done : List Place) (p : Place) (todo : List Place) (ds : List Bool) (near : Weights) (w : Down done (p ∷ todo) ds near) (d : Bool) where
    ends_of : (b : Bool) → ((taken p b).right < suc n) × ((taken p b).left < suc n)
    ends_of true = (w.ends.0.1, w.ends.0.0)
    ends_of false = (w.ends.0.0, w.ends.0.1)

    abbrev q : Place
    q = taken p d

    pub old_facts : (x : Values) → Sat (after near q) (suc n) x → Sat near (suc n) x
    old_facts x s = relaxed_old (suc n) near w.least q.right q.left q.most (ends_of d).0 (ends_of d).1 x s

    pub new_fact : (x : Values) → Sat (after near q) (suc n) x → test x p ≡ d
    new_fact x s = fact_taken x p d (relaxed_fact (suc n) near w.least q.right q.left q.most (ends_of d).0 (ends_of d).1 x s)

    pub both_facts : (x : Values) → Sat near (suc n) x → test x p ≡ d → Sat (after near q) (suc n) x
    both_facts x s e = relaxed_both (suc n) near w.least q.right q.left q.most (ends_of d).0 (ends_of d).1 x s (taken_fact x p d e)

    pub calm_fact : (x : Values) → Sat near (suc n) x → test x p ≡ d → pos 0 ≤ℤ (near q.left q.right +ℤ q.most)
    calm_fact x s e = fact_round (suc n) near w.least q.right q.left q.most (ends_of d).0 (ends_of d).1 x s (taken_fact x p d e)

    pub down_next : pos 0 ≤ℤ (near q.left q.right +ℤ q.most) → Down (done ++ p ∷ []) todo (ds ++ d ∷ []) (after near q)
    down_next h = record {
      split_is = w.split_is ∙ sym (append_assoc done (p ∷ []) todo);
      as_many = snoc_lengths done p ds d w.as_many;
      least = relax_least (suc n) near w.least q.right q.left q.most (ends_of d).0 (ends_of d).1 h;
      agreeing = λ x s. rw w.split_is (agrees_snoc x done p todo ds d w.as_many (rw w.split_is at (w.agreeing x (old_facts x s))) (new_fact x s));
      ends = w.ends.1;
    }

  -- the same of a closure in a table
  module _ (near table : Weights) (e : SameBelow n F near table) where
    pub sat_table : (x : Values) → Sat near (suc n) x → Sat table (suc n) x
    unfolding Sat
    sat_table x s u v hu hv = rw (← e u v hu hv) (s u v hu hv)

    pub table_sat : (x : Values) → Sat table (suc n) x → Sat near (suc n) x
    unfolding Sat
    table_sat x s u v hu hv = rw (e u v hu hv) (s u v hu hv)

    pub true_table : (x : Values) → TrueIn table x → TrueIn near x
    true_table x s = record { at_zero = s.at_zero; sat = table_sat x s.sat; true_is = s.true_is }

    pub table_true : (x : Values) → TrueIn near x → TrueIn table x
    table_true x s = record { at_zero = s.at_zero; sat = sat_table x s.sat; true_is = s.true_is }

    pub down_table : (done todo : List Place) (ds : List Bool) → Down done todo ds near → Down done todo ds table
    down_table done todo ds w = record {
      split_is = w.split_is;
      as_many = w.as_many;
      least = record { itself = λ u hu. sym (e u u hu hu) ∙ w.least.itself u hu; triangle = λ u v x hu hv hx. rw (← e u x hu hx, ← e u v hu hv, ← e v x hv hx) (w.least.triangle u v x hu hv hx) };
      agreeing = λ x s. w.agreeing x (table_sat x s);
      ends = w.ends;
    }

  -- ---- what a growth says of the values that meet the facts
  abbrev pub Told : Weights → Growth → Type 0
  Told near (shut t) = (x : Values) → ¬ TrueIn near x
  Told near (open_at x) = TrueIn near x

  calm_told : (done todo : List Place) (ds : List Bool) (near : Weights) → Down done todo ds near → (k : Three) → known F.program ds ≡ k → (r : Growth) → (k ≡ open? → Told near r) → Told near (calm_node k (near 0) r)
  calm_told done todo ds near w fails e r h = λ x s. true≢false (sym s.true_is ∙ (rw e at (known_says x F.program ds (w.agreeing x s.sat))))
  calm_told done todo ds near w passes e r h =
      let s : Sat near (suc n) (near 0) = least_sat (suc n) near w.least (omega arith) in
      record { at_zero = w.least.itself 0 (omega arith); sat = s; true_is = rw e at (known_says (near 0) F.program ds (w.agreeing (near 0) s)) }
  calm_told done todo ds near w open? e r h = h refl

  -- a half of the branch at p: the same of the values that give p this truth
  abbrev HalfTold : Place → Bool → Weights → Growth → Type 0
  HalfTold p d near (shut t) = (x : Values) → TrueIn near x → test x p ≡ d → ⊥
  HalfTold p d near (open_at x) = TrueIn near x

  join_told : (p : Place) (near : Weights) (t f : Growth) → HalfTold p true near t → HalfTold p false near f → Told near (join t f)
  join_told p near (open_at x) f h k = h
  join_told p near (shut t) (open_at x) h k = k
  join_told p near (shut t) (shut f) h k = λ x s. go x s (test x p) refl
    where
      go : (x : Values) → TrueIn near x → (b : Bool) → test x p ≡ b → ⊥
      go x s true e = h x s e
      go x s false e = k x s e

  half_told : (done : List Place) (p : Place) (todo : List Place) (ds : List Bool) (near : Weights) → Down done (p ∷ todo) ds near → (d : Bool) (ds' : List Bool) (g : Grid) (r : Growth) → (pos 0 ≤ℤ (near (taken p d).left (taken p d).right +ℤ (taken p d).most) → Told (after near (taken p d)) r) → HalfTold p d near (half n F near (taken p d) ds' g r)
  half_told done p todo ds near w d ds' g r h = go (strained near (taken p d)) (λ t. lt_z_yes t) (λ t. lt_z_no t) (known F.program ds') (search (weight g) n)
    where
      never : (near (taken p d).left (taken p d).right +ℤ (taken p d).most) <ℤ pos 0 → (x : Values) → TrueIn near x → test x p ≡ d → ⊥
      never l x s e = omega (ints, calm_fact done p todo ds near w d x s.sat e)

      pass : (r : Growth) → Told (after near (taken p d)) r → HalfTold p d near r
      pass (shut t) k = λ x s e. k x (record { at_zero = s.at_zero; sat = both_facts done p todo ds near w d x s.sat e; true_is = s.true_is })
      pass (open_at x) k = record { at_zero = k.at_zero; sat = old_facts done p todo ds near w d x k.sat; true_is = k.true_is }

      go : (b : Bool) → (T b → (near (taken p d).left (taken p d).right +ℤ (taken p d).most) <ℤ pos 0) → (T (not b) → pos 0 ≤ℤ (near (taken p d).left (taken p d).right +ℤ (taken p d).most)) → (k : Three) (o : Option (List ℕ)) → HalfTold p d near (cond b (strained_node k o) r)
      go true yes' no' fails o = never (yes' tt)
      go true yes' no' passes o = never (yes' tt)
      go true yes' no' open? o = never (yes' tt)
      go false yes' no' k o = pass r (h (no' tt))

  pub fast_told : (todo done : List Place) (ds : List Bool) (g : Grid) (near : Weights) → Down done todo ds near → Told near (fast n F todo ds g near)
  unfolding fast
  fast_told [] done ds g near w =
      let all : length (places F.program) ≤ length ds = omega (arith, ap length w.split_is, length-append done [], w.as_many) in
      calm_told done [] ds near w (known F.program ds) refl (open_at (near 0)) (λ o. absurd (never_open (known F.program ds) (known_sure F.program ds all) o))
  fast_told (p ∷ todo) done ds g near w =
      calm_told done (p ∷ todo) ds near w (known F.program ds) refl _
      (λ o. join_told p near (side_of n F p todo ds g near true) (side_of n F p todo ds g near false)
      (half_told done p todo ds near w true (ds ++ true ∷ []) (decide g p true) _ (λ h. fast_told todo (done ++ p ∷ []) (ds ++ true ∷ []) (decide g p true) (after near (taken p true)) (down_next done p todo ds near w true h)))
      (half_told done p todo ds near w false (ds ++ false ∷ []) (decide g p false) _ (λ h. fast_told todo (done ++ p ∷ []) (ds ++ false ∷ []) (decide g p false) (after near (taken p false)) (down_next done p todo ds near w false h))))

  module _ (todo done : List Place) (ds : List Bool) (g : Grid) (near : Weights) (w : Down done todo ds near) where
    -- a shut tree: the formula is true at no values that meet the facts
    pub fast_shut : (t : Tree) → fast n F todo ds g near ≡ shut t → (x : Values) → ¬ TrueIn near x
    fast_shut t e = rw e at (fast_told todo done ds g near w)

    -- an open leaf: it is true at the leaf's
    pub fast_open : (x : Values) → fast n F todo ds g near ≡ open_at x → TrueIn near x
    fast_open x e = rw e at (fast_told todo done ds g near w)

    -- and the other way round, from an answer: it is true at some
    pub true_open : (y : Values) → TrueIn near y → (x : Values) × (fast n F todo ds g near ≡ open_at x)
    true_open y s = go (fast n F todo ds g near) refl
      where
        go : (r : Growth) → fast n F todo ds g near ≡ r → (x : Values) × (fast n F todo ds g near ≡ open_at x)
        go (open_at x) e = (x, e)
        go (shut t) e = absurd (fast_shut t e y s)

    -- at none
    pub none_shut : ((y : Values) → ¬ TrueIn near y) → (t : Tree) × (fast n F todo ds g near ≡ shut t)
    none_shut f = go (fast n F todo ds g near) refl
      where
        go : (r : Growth) → fast n F todo ds g near ≡ r → (t : Tree) × (fast n F todo ds g near ≡ shut t)
        go (open_at x) e = absurd (f x (fast_open x e))
        go (shut t) e = (t, e)

  -- ---- one step down

  -- the formula is known to be true: this is the leaf
  pub leaf_known : (todo : List Place) (ds : List Bool) (g : Grid) (near : Weights) → known F.program ds ≡ passes → fast n F todo ds g near ≡ open_at (near 0)
  unfolding fast
  leaf_known [] ds g near e = rw e
  leaf_known (p ∷ todo) ds g near e = rw e

  -- to be false: no leaf here is open
  pub leaf_false : (todo : List Place) (ds : List Bool) (g : Grid) (near : Weights) → known F.program ds ≡ fails → fast n F todo ds g near ≡ shut false_leaf
  unfolding fast
  leaf_false [] ds g near e = rw e
  leaf_false (p ∷ todo) ds g near e = rw e

  module _ (done : List Place) (p : Place) (todo : List Place) (ds : List Bool) (g : Grid) (near : Weights) (w : Down done (p ∷ todo) ds near) (unsure : known F.program ds ≡ open?) where
    -- does taking p so close a negative cycle?
    abbrev pub closing : Bool → ℤ
    closing d = near (taken p d).left (taken p d).right +ℤ (taken p d).most

    -- what the half comes to where it doesn't
    abbrev pub below : Bool → Growth
    below d = fast n F todo (ds ++ d ∷ []) (decide g p d) (after near (taken p d))

    both_halves : fast n F (p ∷ todo) ds g near ≡ join (side_of n F p todo ds g near true) (side_of n F p todo ds g near false)
    unfolding fast
    both_halves = rw unsure

    side_calm : (d : Bool) → pos 0 ≤ℤ closing d → side_of n F p todo ds g near d ≡ below d
    side_calm d h = let e : strained near (taken p d) ≡ false = false_lt (closing d) (pos 0) (omega ints) in rw e

    side_cut : (d : Bool) → closing d <ℤ pos 0 → (t : Tree) × (side_of n F p todo ds g near d ≡ shut t)
    side_cut d h = let e : strained near (taken p d) ≡ true = true_lt (closing d) (pos 0) (omega ints) in rw e (go (known F.program (ds ++ d ∷ [])) (search (weight (decide g p d)) n))
      where
        go : (k : Three) (o : Option (List ℕ)) → (t : Tree) × (strained_node k o ≡ shut t)
        go fails o = (_, refl)
        go passes o = (_, refl)
        go open? o = (_, refl)

    -- into the true half, where the formula is open there
    pub down_true : pos 0 ≤ℤ closing true → (y : Values) → TrueIn (after near p) y → fast n F (p ∷ todo) ds g near ≡ below true
    down_true h y s =
        let o = true_open todo (done ++ p ∷ []) (ds ++ true ∷ []) (decide g p true) (after near p) (down_next done p todo ds near w true h) y s in
        both_halves ∙ ap (λ t. join t (side_of n F p todo ds g near false)) (side_calm true h ∙ o.1) ∙ sym o.1

    -- the true half is shut: its fact closes a negative cycle, or the formula is true at no values that meet it
    abbrev pub TrueShut : Type 0
    TrueShut = (closing true <ℤ pos 0) ⊎ ((y : Values) → ¬ TrueIn (after near p) y)

    true_shut : TrueShut → (t : Tree) × (side_of n F p todo ds g near true ≡ shut t)
    true_shut (inl h) = side_cut true h
    true_shut (inr f) = go (strained near p) refl
      where
        go : (b : Bool) → strained near p ≡ b → (t : Tree) × (side_of n F p todo ds g near true ≡ shut t)
        go true e = side_cut true (omega (ints, lt_true (closing true) (pos 0) e))
        go false e =
            let h : pos 0 ≤ℤ closing true = omega (ints, lt_false (closing true) (pos 0) e) in
            let r = none_shut todo (done ++ p ∷ []) (ds ++ true ∷ []) (decide g p true) (after near p) (down_next done p todo ds near w true h) f in
            (r.0, side_calm true h ∙ r.1)

    -- else into the false half
    pub down_false : TrueShut → (x : Values) → fast n F (p ∷ todo) ds g near ≡ open_at x → (pos 0 ≤ℤ closing false) × (below false ≡ open_at x)
    down_false k x e = go (true_shut k) (strained near (taken p false)) refl
      where
        second : (t : Tree) → side_of n F p todo ds g near true ≡ shut t → join (shut t) (side_of n F p todo ds g near false) ≡ open_at x
        second t f = ap (λ r. join r (side_of n F p todo ds g near false)) (sym f) ∙ sym both_halves ∙ e

        open_of : (t : Tree) (r : Growth) → join (shut t) r ≡ open_at x → r ≡ open_at x
        open_of t (open_at y) h = h
        open_of t (shut u) h = absurd (shut_open h)

        go : (t : Tree) × (side_of n F p todo ds g near true ≡ shut t) → (b : Bool) → strained near (taken p false) ≡ b → (pos 0 ≤ℤ closing false) × (below false ≡ open_at x)
        go (t, f) true c =
            let u = side_cut false (omega (ints, lt_true (closing false) (pos 0) c)) in
            absurd (shut_open (ap (λ r. join (shut t) r) (sym u.1) ∙ second t f))
        go (t, f) false c =
            let h : pos 0 ≤ℤ closing false = omega (ints, lt_false (closing false) (pos 0) c) in
            (h, sym (side_calm false h) ∙ open_of t (side_of n F p todo ds g near false) (second t f))
