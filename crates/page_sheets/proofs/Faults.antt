-- The check of a sheet gives the first fault of its fields, and with none of them at fault the verdict that the sheet has.
use Prim.Native.Nat.{ℕ, zero, suc, ◌+◌, ◌≤◌, ◌<◌}
use mathlib.Core.Path.{◌≡◌, refl, sym, ap, ap₂, subst, ◌∙◌}
use mathlib.Core.Logic.{◌↔◌, ◌≢◌, inl, inr}
use mathlib.Core.Bool.{Bool, true, false, ◌&&◌, cond}
use mathlib.Core.List.{List, [], ◌∷◌, ◌++◌, append-nil}
use native.Mathlib.Omega.{arith}
use borrow.Author.Tests.{le-leb, lt-leb, leb-true, leb-false}
use lib.ListN.{length, get_or, take, drop, drop_of_length-le}
use lib.Seq.{drop-cons}
use lib.Dec.{eqb, leb, ltb}
use lib.IntN.{ℤ, pos}
use lib.Signed.{lt_z}
use Rattle.page_numbers.specs.Outcome.{good, refused}
use Rattle.page_meaning.specs.Contents.{Question}
use Rattle.page_meaning.specs.Limits.{most_vertices, limits}
use Rattle.page_walks.specs.Grid.{Grid, weight}
use Rattle.page_walks.specs.Walk.{closed}
use Rattle.page_formulas.specs.Formulas.{Formula, formulas, no_formula}
use Rattle.page_formulas.specs.Knowledge.{Three, fails, passes, open?, known}
use Rattle.page_formulas.specs.Program.{Place, places}
use Rattle.page_formulas.specs.Vertices.{Ranges, present}
use Rattle.page_sheets.specs.Facts.{start, decide}
use Rattle.page_sheets.specs.Faults.{Field, test, whole, as_said, number_of, place_of, Run, run, followed, is_node, is_false, vertex_fields, cycle_fields, rest_fields, node_fields, tree_fields, trees_fields, yes_fields, value_fields, no_fields, body_fields, sheet_fields, verdict_by, verdict_in, AllSaid, Fault, FirstFault}
use Rattle.page_sheets.specs.Rows.{fields, field_at, value_at, field_ok}
use Rattle.page_sheets.specs.Sheet.{Verdict, say_yes, say_no, Answer, field, yes_end, check_yes, check_fields, no_end, check_rows, check_no, check_body, marked, versioned, check_sheet_under, check_sheet}
use Rattle.page_sheets.specs.Tree.{Checked, and_then, more, vertices, false_node, cycle_end, cycle_node, node, check}
use Rattle.page_sheets.specs.Trees.{check_trees}

-- ---- the first fault of some fields, or else an answer

unfoldable judge : {A : Type 0} → (ℕ → ℕ → A) → List ℕ → List Field → A → A
judge bad s [] a = a
judge bad s (f ∷ fs) a = cond (whole s f) (cond (as_said f) (judge bad s fs a) (bad (number_of f) (place_of f))) (bad 11 (place_of f))

-- what becomes of it in another's hands, which hand refusals on
judge_then : {A B : Type 0} (bad : ℕ → ℕ → A) (bad' : ℕ → ℕ → B) (s : List ℕ) (h : A → B) → ((n p : ℕ) → h (bad n p) ≡ bad' n p)
    → (fs gs : List Field) (a : A) (b : B) → h a ≡ judge bad' s gs b → h (judge bad s fs a) ≡ judge bad' s (fs ++ gs) b
unfolding judge
judge_then bad bad' s h on [] gs a b e = e
judge_then bad bad' s h on (f ∷ fs) gs a b e = go (whole s f) (as_said f) (judge_then bad bad' s h on fs gs a b e)
  where
    go : (w t : Bool) → h (judge bad s fs a) ≡ judge bad' s (fs ++ gs) b
        → h (cond w (cond t (judge bad s fs a) (bad (number_of f) (place_of f))) (bad 11 (place_of f))) ≡ cond w (cond t (judge bad' s (fs ++ gs) b) (bad' (number_of f) (place_of f))) (bad' 11 (place_of f))
    go true true k = k
    go true false k = on (number_of f) (place_of f)
    go false t k = on 11 (place_of f)

module _ (s : List ℕ) where
  -- what stands from an offset on, by whether a byte is left
  at_byte : (P : List ℕ → Bool → Type 0) (at : ℕ) → ((at < length s) → P (get_or s at 0 ∷ drop (suc at) s) true) → P [] false → P (drop at s) (leb (at + 1) (length s))
  at_byte P at h k = go (leb (at + 1) (length s)) refl
    where
      go : (b : Bool) → leb (at + 1) (length s) ≡ b → P (drop at s) b
      go true e = let l : at < length s = omega (arith, leb-true (at + 1) (length s) e) in subst (λ bs. P bs true) (sym (drop-cons s at 0 l)) (h l)
      go false e = let l : length s ≤ at = omega (arith, leb-false (at + 1) (length s) e) in subst (λ bs. P bs false) (sym (drop_of_length-le s l)) k

  -- ---- trees

  vertices_judged : (rs : Ranges) (n at : ℕ) → vertices rs n at (drop at s) ≡ judge refused s (vertex_fields s rs n at) (good (take n (drop at s), at + n, drop (at + n) s))
  unfolding vertices vertex_fields judge
  vertices_judged rs zero at = let e : at + 0 ≡ at = omega arith in rw e refl
  vertices_judged rs (suc n) at =
      let v = get_or s at 0 in
      let fs = vertex_fields s rs n (suc at) in
      let end : at + suc n ≡ suc at + n = omega arith in
      at_byte (λ bs w. vertices rs (suc n) at bs ≡ cond w (cond (present rs v) (judge refused s fs (good (take (suc n) bs, at + suc n, drop (at + suc n) s))) (refused 14 at)) (refused 11 at)) at
      (λ l. ap (λ r. cond (present rs v) r (refused 14 at)) (
      ap (more v) (vertices_judged rs n (suc at))
      ∙ judge_then refused refused s (more v) (λ n p. refl) fs [] _ _ refl
      ∙ ap (λ gs. judge refused s gs (good (v ∷ take n (drop (suc at) s), suc at + n, drop (suc at + n) s))) (append-nil fs)
      ∙ ap (λ o. judge refused s fs (good (v ∷ take n (drop (suc at) s), o, drop o s))) (sym end)))
      refl

  module _ (N : ℕ) (F : Formula) where
    cycle_judged : (g : Grid) (at : ℕ) → let r = cycle_fields s N F g at (get_or s (suc at) 0) in cycle_node N F g at (drop (suc at) s) ≡ judge refused s r.fields (good (r.next, drop r.next s))
    unfolding judge
    cycle_judged g at =
        let n = get_or s (suc at) 0 in
        let r = cycle_fields s N F g at n in
        let later = judge {A = Checked} refused s (vertex_fields s F.ranges n (suc (suc at)) ++ (test (lt_z (closed (weight g) (take n (drop (suc (suc at)) s))) (pos 0)) 15 at ∷ [])) (good (r.next, drop r.next s)) in
        at_byte (λ bs w. cycle_node N F g at bs ≡ cond w (cond (leb 1 n && leb n N) later (refused 14 (suc at))) (refused 11 (suc at))) (suc at)
        (λ l. count n later (ends n))
        refl
      where
        ends : (n : ℕ) → cycle_end g at (vertices F.ranges n (suc (suc at)) (drop (suc (suc at)) s)) ≡ judge refused s (vertex_fields s F.ranges n (suc (suc at)) ++ (test (lt_z (closed (weight g) (take n (drop (suc (suc at)) s))) (pos 0)) 15 at ∷ [])) (good (suc (suc at) + n, drop (suc (suc at) + n) s))
        ends n = ap (cycle_end g at) (vertices_judged F.ranges n (suc (suc at))) ∙ judge_then refused refused s (cycle_end g at) (λ n p. refl) (vertex_fields s F.ranges n (suc (suc at))) _ _ _ refl

        count : (n : ℕ) (later : Checked) → cycle_end g at (vertices F.ranges n (suc (suc at)) (drop (suc (suc at)) s)) ≡ later → cycle_node N F g at (n ∷ drop (suc (suc at)) s) ≡ cond (leb 1 n && leb n N) later (refused 14 (suc at))
        count zero later e = refl
        count (suc n) later e = ap (λ r. cond (leb (suc n) N) r (refused 14 (suc at))) e ∙ ap (λ b. cond (b && leb (suc n) N) later (refused 14 (suc at))) (sym (le-leb 1 (suc n) (omega arith)))

    module _ (ds : List Bool) (g : Grid) (at : ℕ) (branch : List ℕ → Checked) (halves : Run) (e : branch (drop (suc at) s) ≡ judge refused s halves.fields (good (halves.next, drop halves.next s))) where
      rest_judged : (b : ℕ) → let r = rest_fields s N F ds g at halves b in node N F ds g at (b ∷ drop (suc at) s) branch ≡ cond (is_node b) (judge refused s r.fields (good (r.next, drop r.next s))) (refused 14 at)
      unfolding judge
      rest_judged zero = refl
      rest_judged (suc zero) = go (known F.program ds)
        where
          go : (k : Three) → false_node k at (drop (suc at) s) ≡ cond (is_false k) (good (suc at, drop (suc at) s)) (refused 15 at)
          go fails = refl
          go passes = refl
          go open? = refl
      rest_judged (suc (suc zero)) = cycle_judged g at
      rest_judged (suc (suc (suc zero))) = e
      rest_judged (suc (suc (suc (suc b)))) = ap (λ t. cond t (good (suc at, drop (suc at) s)) (refused 14 at)) (sym (ap₂ ◌&&◌ (le-leb 1 (suc (suc (suc (suc b)))) (omega arith)) (lt-leb (suc (suc (suc (suc b)))) 3 (omega arith))))

      node_judged : let r = node_fields s N F ds g at halves in node N F ds g at (drop at s) branch ≡ judge refused s r.fields (good (r.next, drop r.next s))
      unfolding judge
      node_judged =
          let b = get_or s at 0 in
          let r = rest_fields s N F ds g at halves b in
          at_byte (λ bs w. node N F ds g at bs branch ≡ cond w (cond (is_node b) (judge refused s r.fields (good (r.next, drop r.next s))) (refused 14 at)) (refused 11 at)) at
          (λ l. rest_judged b)
          refl

    tree_judged : (todo : List Place) (ds : List Bool) (g : Grid) (at : ℕ) → let r = tree_fields s N F todo ds g at in check N F todo ds g at (drop at s) ≡ judge refused s r.fields (good (r.next, drop r.next s))
    unfolding check tree_fields judge
    tree_judged [] ds g at = node_judged ds g at _ (run (test false 15 at ∷ []) (suc at)) refl
    tree_judged (p ∷ todo) ds g at =
        let x = tree_fields s N F todo (ds ++ true ∷ []) (decide g p true) (suc at) in
        let y = tree_fields s N F todo (ds ++ false ∷ []) (decide g p false) x.next in
        node_judged ds g at _ (followed x (λ o. tree_fields s N F todo (ds ++ false ∷ []) (decide g p false) o))
        (ap (λ r. and_then r (λ o r. check N F todo (ds ++ false ∷ []) (decide g p false) o r)) (tree_judged todo (ds ++ true ∷ []) (decide g p true) (suc at))
        ∙ judge_then refused refused s (λ r. and_then r (λ o r. check N F todo (ds ++ false ∷ []) (decide g p false) o r)) (λ n p. refl) x.fields y.fields _ _ (tree_judged todo (ds ++ false ∷ []) (decide g p false) x.next))

  trees_judged : (Fs : List Formula) (at : ℕ) → let r = trees_fields s Fs at in check_trees most_vertices Fs at (drop at s) ≡ judge refused s r.fields (good (r.next, drop r.next s))
  unfolding check_trees trees_fields judge
  trees_judged [] at = refl
  trees_judged (F ∷ Fs) at =
      let x = tree_fields s most_vertices F (places F.program) [] (start most_vertices F.ranges) at in
      ap (λ r. and_then r (λ o r. check_trees most_vertices Fs o r)) (tree_judged most_vertices F (places F.program) [] (start most_vertices F.ranges) at)
      ∙ judge_then refused refused s (λ r. and_then r (λ o r. check_trees most_vertices Fs o r)) (λ n p. refl) x.fields (trees_fields s Fs x.next).fields _ _ (trees_judged Fs x.next)

  yes_judged : (Fs : List Formula) → check_yes most_vertices Fs s ≡ judge refused s (yes_fields s Fs) (good say_yes)
  unfolding check_yes judge
  yes_judged Fs =
      let r = trees_fields s Fs 7 in
      ap yes_end (trees_judged Fs 7) ∙ judge_then refused refused s yes_end (λ n p. refl) r.fields (test (leb (length s) r.next) 16 0 ∷ []) _ _ (ended r.next)
    where
      ended : (o : ℕ) → yes_end (good (o, drop o s)) ≡ cond (leb (length s) o) (good say_yes) (refused 16 0)
      ended o = go (leb (length s) o) refl
        where
          go : (b : Bool) → leb (length s) o ≡ b → yes_end (good (o, drop o s)) ≡ cond b (good say_yes) (refused 16 0)
          go true d = ap (λ bs. yes_end (good (o, bs))) (drop_of_length-le s (leb-true (length s) o d))
          go false d = ap (λ bs. yes_end (good (o, bs))) (drop-cons s o 0 (leb-false (length s) o d))

  -- ---- rows

  values_judged : (ok : ℕ → ℤ → Bool) (k j : ℕ) (next : Answer) (gs : List Field) (b : Answer) → next ≡ judge refused s gs b → check_fields ok s k j next ≡ judge refused s (value_fields s ok k j ++ gs) b
  unfolding check_fields value_fields judge
  values_judged ok zero j next gs b e = e
  values_judged ok (suc k) j next gs b e = ap (λ r. cond (leb (field_at j + 4) (length s)) (cond (ok j (value_at s j)) r (refused 15 (field_at j))) (refused 11 (field_at j))) (values_judged ok k (suc j) next gs b e)

  no_judged : (q : Question) (Fs : List Formula) → check_no q Fs s ≡ judge refused s (no_fields s q Fs) (good say_no)
  unfolding check_no check_rows no_end judge
  no_judged q Fs =
      let i = get_or s 7 0 in
      let F = get_or Fs i no_formula in
      ap (λ r. cond (leb 8 (length s)) (cond (ltb i (length Fs)) r (refused 14 7)) (refused 11 7)) (values_judged (field_ok q i s) (fields q F) 0 _ _ (good say_no) refl)

  body_judged : (q : Question) (a : ℕ) (v : ℕ) → check_body limits q a s v ≡ judge refused s (body_fields s q a v) (good (verdict_by v))
  body_judged q a zero = yes_judged (formulas q a)
  body_judged q a (suc v) = no_judged q (formulas q a)

  sheet_judged : (q : Question) (a : ℕ) → check_sheet q a s ≡ judge refused s (sheet_fields s q a) (good (verdict_in s))
  unfolding check_sheet_under judge
  sheet_judged q a =
      ap (λ r. field s 0 3 (marked s) 12 (field s 3 2 (versioned s) 13 (field s 5 1 (eqb (get_or s 5 0) a) 14 (field s 6 1 (leb (get_or s 6 0) 1) 14 r))))
      (body_judged q a (get_or s 6 0))

-- ---- the first fault

module _ {A : Type 0} (bad : ℕ → ℕ → A) (number place : A → ℕ) (is_number : (n p : ℕ) → number (bad n p) ≡ n) (is_place : (n p : ℕ) → place (bad n p) ≡ p) (s : List ℕ) (a : A) (apart : (n p : ℕ) → a ≢ bad n p) where
  fault_found : (fs : List Field) (n p : ℕ) → judge bad s fs a ≡ bad n p → FirstFault s fs n p
  unfolding judge
  fault_found [] n p e = absurd (apart n p e)
  fault_found (f ∷ fs) n p e = go (whole s f) (as_said f) refl refl e (λ d. fault_found fs n p d)
    where
      here : Fault s f n p → FirstFault s (f ∷ fs) n p
      here x = record { before = []; field = f; after = fs; order = refl; sound = tt; fault = x }

      same : (m o : ℕ) → bad m o ≡ bad n p → (n ≡ m) × (p ≡ o)
      same m o d = (sym (is_number n p) ∙ ap number (sym d) ∙ is_number m o, sym (is_place n p) ∙ ap place (sym d) ∙ is_place m o)

      go : (w t : Bool) → whole s f ≡ w → as_said f ≡ t → cond w (cond t (judge bad s fs a) (bad (number_of f) (place_of f))) (bad 11 (place_of f)) ≡ bad n p → (judge bad s fs a ≡ bad n p → FirstFault s fs n p) → FirstFault s (f ∷ fs) n p
      go true true u v d later =
          let x = later d in
          record { before = f ∷ x.before; field = x.field; after = x.after; order = ap (λ l. f ∷ l) x.order; sound = (u, v, x.sound); fault = x.fault }
      go true false u v d later = let e = same (number_of f) (place_of f) d in here (inr (u, v, e.0, e.1))
      go false t u v d later = let e = same 11 (place_of f) d in here (inl (u, e.0, e.1))

  fault_judged : (before : List Field) (f : Field) (after : List Field) (n p : ℕ) → AllSaid s before → Fault s f n p → judge bad s (before ++ (f ∷ after)) a ≡ bad n p
  unfolding judge
  fault_judged [] f after n p h (inl x) = rw (x.0, x.1, x.2) refl
  fault_judged [] f after n p h (inr x) = rw (x.0, x.1, x.2, x.3) refl
  fault_judged (g ∷ gs) f after n p h x = rw (h.0, h.1) (fault_judged gs f after n p h.2 x)

  said_judged : (fs : List Field) → AllSaid s fs → judge bad s fs a ≡ a
  unfolding judge
  said_judged [] h = refl
  said_judged (f ∷ fs) h = rw (h.0, h.1) (said_judged fs h.2)

  judged_said : (fs : List Field) (b : A) → ((n p : ℕ) → b ≢ bad n p) → judge bad s fs a ≡ b → AllSaid s fs × (a ≡ b)
  unfolding judge
  judged_said [] b k e = (tt, e)
  judged_said (f ∷ fs) b k e = go (whole s f) (as_said f) refl refl e (λ d. judged_said fs b k d)
    where
      go : (w t : Bool) → whole s f ≡ w → as_said f ≡ t → cond w (cond t (judge bad s fs a) (bad (number_of f) (place_of f))) (bad 11 (place_of f)) ≡ b → (judge bad s fs a ≡ b → AllSaid s fs × (a ≡ b)) → AllSaid s (f ∷ fs) × (a ≡ b)
      go true true u v d later = let x = later d in ((u, v, x.0), x.1)
      go true false u v d later = absurd (k _ _ (sym d))
      go false t u v d later = absurd (k _ _ (sym d))

-- an answer's number, 100 where there is none, and its place
abbrev pub number_in : Answer → ℕ
number_in (good v) = 100
number_in (refused n p) = n

abbrev pub place_in : Answer → ℕ
place_in (good v) = 0
place_in (refused n p) = p

abbrev Refuses : Answer → Type 0
Refuses (good v) = ⊥
Refuses (refused n p) = Unit {0}

pub says_apart : (v : Verdict) (n p : ℕ) → good v ≢ refused n p
says_apart v n p e = subst Refuses (sym e) tt

-- each number of a sheet, at each place, exactly when
pub sheet_refused : (q : Question) (a : ℕ) (s : List ℕ) (n p : ℕ) → (check_sheet q a s ≡ refused n p) ↔ FirstFault s (sheet_fields s q a) n p
sheet_refused q a s n p = (forth, back)
  where
    forth : check_sheet q a s ≡ refused n p → FirstFault s (sheet_fields s q a) n p
    forth e = fault_found refused number_in place_in (λ n p. refl) (λ n p. refl) s (good (verdict_in s)) (says_apart (verdict_in s)) (sheet_fields s q a) n p (sym (sheet_judged s q a) ∙ e)

    back : FirstFault s (sheet_fields s q a) n p → check_sheet q a s ≡ refused n p
    back x =
        sheet_judged s q a
        ∙ ap (λ fs. judge refused s fs (good (verdict_in s))) x.order
        ∙ fault_judged refused number_in place_in (λ n p. refl) (λ n p. refl) s (good (verdict_in s)) (says_apart (verdict_in s)) x.before x.field x.after n p x.sound x.fault

-- and the verdict
pub sheet_taken : (q : Question) (a : ℕ) (s : List ℕ) (v : Verdict) → (check_sheet q a s ≡ good v) ↔ (AllSaid s (sheet_fields s q a) × (verdict_in s ≡ v))
sheet_taken q a s v = (forth, back)
  where
    verdict_or : Answer → Verdict
    verdict_or (good w) = w
    verdict_or (refused n p) = v

    forth : check_sheet q a s ≡ good v → AllSaid s (sheet_fields s q a) × (verdict_in s ≡ v)
    forth e = let x = judged_said refused number_in place_in (λ n p. refl) (λ n p. refl) s (good (verdict_in s)) (says_apart (verdict_in s)) (sheet_fields s q a) (good v) (says_apart v) (sym (sheet_judged s q a) ∙ e) in (x.0, ap verdict_or x.1)

    back : AllSaid s (sheet_fields s q a) × (verdict_in s ≡ v) → check_sheet q a s ≡ good v
    back h = sheet_judged s q a ∙ said_judged refused number_in place_in (λ n p. refl) (λ n p. refl) s (good (verdict_in s)) (says_apart (verdict_in s)) (sheet_fields s q a) h.0 ∙ ap good h.1
