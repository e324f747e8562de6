-- Which numbers a check gives: 20, the reader's 1 to 9, or 11 to 16. So 0 is no refusal's number.
use Prim.Native.Nat.{ℕ, zero, suc, ◌+◌, ◌≤◌}
use mathlib.Core.Path.{◌≡◌, refl, subst}
use mathlib.Core.Logic.{◌⊎◌, inl, inr}
use mathlib.Core.Bool.{Bool, true, false, ◌||◌, cond}
use mathlib.Core.List.{List, [], ◌∷◌}
use native.Mathlib.Omega.{arith}
use lib.ListN.{length, get_or, drop}
use lib.Dec.{eqb, leb, ltb}
use lib.IntN.{ℤ, pos}
use lib.Signed.{lt_z}
use Rattle.page_numbers.specs.Outcome.{good, refused}
use Rattle.page_meaning.specs.Limits.{most_vertices, limits}
use Rattle.page_meaning.specs.Contents.{Question}
use Rattle.page_walks.specs.Grid.{Grid, weight}
use Rattle.page_walks.specs.Walk.{closed}
use Rattle.page_formulas.specs.Formulas.{Formula, formulas, no_formula}
use Rattle.page_formulas.specs.Knowledge.{Three, fails, passes, open?, known}
use Rattle.page_formulas.specs.Program.{Place, places, truth}
use Rattle.page_formulas.specs.Vertices.{Ranges, present}
use Rattle.page_questions.specs.Reader.{Read, read_of}
use Rattle.page_questions.proofs.Refusals.{refused_bounds}
use Rattle.page_sheets.specs.Facts.{start, decide}
use Rattle.page_sheets.specs.Tree.{Checked, and_then, Vertices, more, vertices, false_node, cycle_end, node, check}
use Rattle.page_sheets.specs.Trees.{check_trees}
use Rattle.page_sheets.specs.Rows.{field_at, value_at, field_ok, fields, read_values}
use Rattle.page_sheets.specs.Sheet.{say_no, Answer, field, yes_end, check_yes, check_fields, no_end, check_rows, check_no, check_body, marked, versioned, check_sheet_under, check_sheet}
use Rattle.page_sheets.specs.Answers.{check_for, check_under, check_of}

-- a number of the sheet's own
abbrev pub Own : ℕ → Type 0
Own n = (11 ≤ n) × (n ≤ 16)

-- of a tree's check, and of its vertices
abbrev Tried : Checked → Type 0
Tried (good (o, r)) = Unit {0}
Tried (refused n o) = Own n

abbrev Named : Vertices → Type 0
Named (good (c, o, r)) = Unit {0}
Named (refused n o) = Own n

-- of an answer
abbrev Numbered : Answer → Type 0
Numbered (good v) = Unit {0}
Numbered (refused n p) = Own n

own : (n : ℕ) → 11 ≤ n → n ≤ 16 → Own n
own n a b = (a, b)

vertices_named : (rs : Ranges) (n at : ℕ) (bs : List ℕ) → Named (vertices rs n at bs)
unfolding vertices
vertices_named rs zero at bs = tt
vertices_named rs (suc n) at [] = (omega arith, omega arith)
vertices_named rs (suc n) at (v ∷ bs) = go (present rs v) (vertices rs n (suc at) bs) (vertices_named rs n (suc at) bs)
  where
    go : (b : Bool) (r : Vertices) → Named r → Named (cond b (more v r) (refused 14 at))
    go true (good (c, o, r)) h = tt
    go true (refused m o) h = h
    go false r h = (omega arith, omega arith)

then_tried : (x : Checked) (k : ℕ → List ℕ → Checked) → Tried x → ((o : ℕ) (r : List ℕ) → Tried (k o r)) → Tried (and_then x k)
then_tried (good (o, r)) k h f = f o r
then_tried (refused n o) k h f = h

module _ (N : ℕ) (F : Formula) where
  node_tried : (ds : List Bool) (g : Grid) (at : ℕ) (bs : List ℕ) (branch : List ℕ → Checked) → ((rest : List ℕ) → Tried (branch rest)) → Tried (node N F ds g at bs branch)
  node_tried ds g at [] branch k = (omega arith, omega arith)
  node_tried ds g at (zero ∷ bs) branch k = (omega arith, omega arith)
  node_tried ds g at (suc zero ∷ bs) branch k = go (known F.program ds)
    where
      go : (t : Three) → Tried (false_node t at bs)
      go fails = tt
      go passes = (omega arith, omega arith)
      go open? = (omega arith, omega arith)
  node_tried ds g at (suc (suc zero) ∷ []) branch k = (omega arith, omega arith)
  node_tried ds g at (suc (suc zero) ∷ (zero ∷ bs)) branch k = (omega arith, omega arith)
  node_tried ds g at (suc (suc zero) ∷ (suc n ∷ bs)) branch k = go (leb (suc n) N) (vertices F.ranges (suc n) (suc (suc at)) bs) (vertices_named F.ranges (suc n) (suc (suc at)) bs)
    where
      sum : (o : ℕ) (r : List ℕ) (b : Bool) → Tried (cond b (good (o, r)) (refused 15 at))
      sum o r true = tt
      sum o r false = (omega arith, omega arith)

      go : (b : Bool) (r : Vertices) → Named r → Tried (cond b (cycle_end g at r) (refused 14 (suc at)))
      go true (good (c, o, r)) h = sum o r (lt_z (closed (weight g) c) (pos 0))
      go true (refused m o) h = h
      go false r h = (omega arith, omega arith)
  node_tried ds g at (suc (suc (suc zero)) ∷ bs) branch k = k bs
  node_tried ds g at (suc (suc (suc (suc b))) ∷ bs) branch k = (omega arith, omega arith)

  check_tried : (todo : List Place) (ds : List Bool) (g : Grid) (at : ℕ) (bs : List ℕ) → Tried (check N F todo ds g at bs)
  unfolding check
  check_tried [] ds g at bs = node_tried ds g at bs (λ rest. refused 15 at) (λ rest. own 15 (omega arith) (omega arith))
  check_tried (p ∷ todo) ds g at bs =
      node_tried ds g at bs _ (λ rest. then_tried (check N F todo _ (decide g p true) (suc at) rest) _ (check_tried todo _ (decide g p true) (suc at) rest) (λ o r. check_tried todo _ (decide g p false) o r))

trees_tried : (N : ℕ) (Fs : List Formula) (at : ℕ) (bs : List ℕ) → Tried (check_trees N Fs at bs)
unfolding check_trees
trees_tried N [] at bs = tt
trees_tried N (F ∷ Fs) at bs = then_tried (check N F (places F.program) [] (start N F.ranges) at bs) _ (check_tried N F (places F.program) [] (start N F.ranges) at bs) (λ o r. trees_tried N Fs o r)

field_numbered : (s : List ℕ) (at w : ℕ) (ok : Bool) (number : ℕ) (next : Answer) → Own number → Numbered next → Numbered (field s at w ok number next)
field_numbered s at w ok number next h k = go (leb (at + w) (length s)) ok
  where
    go : (b o : Bool) → Numbered (cond b (cond o next (refused number at)) (refused 11 at))
    go true true = k
    go true false = h
    go false o = (omega arith, omega arith)

yes_numbered : (Fs : List Formula) (s : List ℕ) → Numbered (check_yes most_vertices Fs s)
unfolding check_yes
yes_numbered Fs s = go (check_trees most_vertices Fs 7 (drop 7 s)) (trees_tried most_vertices Fs 7 (drop 7 s))
  where
    go : (x : Checked) → Tried x → Numbered (yes_end x)
    go (good (o, [])) h = tt
    go (good (o, b ∷ r)) h = (omega arith, omega arith)
    go (refused n o) h = h

fields_numbered : (ok : ℕ → ℤ → Bool) (s : List ℕ) (k j : ℕ) (next : Answer) → Numbered next → Numbered (check_fields ok s k j next)
unfolding check_fields
fields_numbered ok s zero j next h = h
fields_numbered ok s (suc k) j next h = field_numbered s (field_at j) 4 (ok j (value_at s j)) 15 _ (own 15 (omega arith) (omega arith)) (fields_numbered ok s k (suc j) next h)

end_numbered : (q : Question) (F : Formula) (s : List ℕ) → Numbered (no_end q F s)
unfolding no_end
end_numbered q F s = go (truth (read_values q F s) F.program) (leb (length s) (field_at (fields q F)))
  where
    go : (t b : Bool) → Numbered (cond t (cond b (good say_no) (refused 16 0)) (refused 15 7))
    go true true = tt
    go true false = (omega arith, omega arith)
    go false b = (omega arith, omega arith)

no_numbered : (q : Question) (Fs : List Formula) (s : List ℕ) → Numbered (check_no q Fs s)
unfolding check_no check_rows
no_numbered q Fs s =
    let i = get_or s 7 0 in
    let F = get_or Fs i no_formula in
    field_numbered s 7 1 (ltb i (length Fs)) 14 _ (own 14 (omega arith) (omega arith)) (fields_numbered (field_ok q i s) s (fields q F) 0 (no_end q F s) (end_numbered q F s))

sheet_numbered : (q : Question) (a : ℕ) (s : List ℕ) → Numbered (check_sheet q a s)
unfolding check_sheet_under
sheet_numbered q a s =
    field_numbered s 0 3 (marked s) 12 _ (own 12 (omega arith) (omega arith))
    (field_numbered s 3 2 (versioned s) 13 _ (own 13 (omega arith) (omega arith))
    (field_numbered s 5 1 (eqb (get_or s 5 0) a) 14 _ (own 14 (omega arith) (omega arith))
    (field_numbered s 6 1 (leb (get_or s 6 0) 1) 14 _ (own 14 (omega arith) (omega arith)) (body (get_or s 6 0)))))
  where
    body : (v : ℕ) → Numbered (check_body limits q a s v)
    body zero = yes_numbered (formulas q a) s
    body (suc v) = no_numbered q (formulas q a) s

pub sheet_own : (q : Question) (a : ℕ) (s : List ℕ) (n p : ℕ) → check_sheet q a s ≡ refused n p → Own n
sheet_own q a s n p e = subst Numbered e (sheet_numbered q a s)

-- ---- any bytes

abbrev pub Given : ℕ → Type 0
Given n = (n ≡ 20) ⊎ (((1 ≤ n) × (n ≤ 9)) ⊎ Own n)

abbrev AllGiven : Answer → Type 0
AllGiven (good v) = Unit {0}
AllGiven (refused n p) = Given n

pub check_given : (a : ℕ) (s sheet : List ℕ) (n p : ℕ) → check_of a s sheet ≡ refused n p → Given n
unfolding check_under
check_given a s sheet n p e = subst AllGiven e (asked (eqb a 1 || eqb a 2))
  where
    own_given : (x : Answer) → Numbered x → AllGiven x
    own_given (good v) h = tt
    own_given (refused m o) h = inr (inr h)

    question : (r : Read) → read_of s ≡ r → AllGiven (check_for limits a sheet r)
    question (good q) h = own_given (check_sheet q a sheet) (sheet_numbered q a sheet)
    question (refused m o) h = let b = refused_bounds s m o h in inr (inl (b.0, b.1))

    asked : (b : Bool) → AllGiven (check_for limits a sheet (cond b (read_of s) (refused 20 0)))
    asked true = question (read_of s) refl
    asked false = inl refl
