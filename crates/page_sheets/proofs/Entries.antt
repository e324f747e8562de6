-- The entries of a yes sheet that passes are bytes: each of them was tested.
use Prim.Native.Nat.{ℕ, zero, suc, ◌+◌, ◌*◌, ◌≤◌, ◌<◌}
use mathlib.Core.Path.{◌≡◌, ap, subst, ◌∙◌}
use mathlib.Core.Bool.{Bool, true, false, ◌&&◌, cond}
use mathlib.Core.List.{List, [], ◌∷◌}
use native.Mathlib.Omega.{arith}
use lib.ListN.{length, get_or, drop}
use lib.Seq.{get_or-drop}
use lib.Dec.{T, eqb, leb, leb→le, eqb→eq}
use lib.IntN.{pos}
use lib.Signed.{lt_z}
use Rattle.page_numbers.specs.Outcome.{good, refused}
use Rattle.page_meaning.specs.Contents.{Question}
use Rattle.page_meaning.specs.Limits.{most_vertices, limits}
use Rattle.page_meaning.proofs.Truth.{and_l, and_r}
use Rattle.page_walks.specs.Grid.{Grid, weight}
use Rattle.page_walks.specs.Walk.{closed}
use Rattle.page_formulas.specs.Formulas.{Formula, formulas}
use Rattle.page_formulas.specs.Knowledge.{Three, fails, passes, open?, known}
use Rattle.page_formulas.specs.Program.{Place, places}
use Rattle.page_formulas.specs.Vertices.{Ranges, present}
use Rattle.page_questions.specs.Guarantees.{Every}
use Rattle.page_sheets.specs.Facts.{start, decide}
use Rattle.page_sheets.specs.Sheet.{say_yes, yes_end, check_yes, check_body, marked, versioned, check_sheet_under, check_sheet}
use Rattle.page_sheets.specs.Tree.{Checked, and_then, Vertices, more, vertices, false_node, cycle_end, node, check}
use Rattle.page_sheets.specs.Trees.{check_trees}
use Rattle.page_sheets.proofs.Fields.{field_says}
use Rattle.page_sheets.proofs.Fit.{Fit, present_below}
use Rattle.page_sheets.proofs.PassingSheets.{no_passes, body_says}

abbrev Byte : ℕ → Type 0
Byte b = b < 256

-- if what is left is bytes, so is what there was
abbrev Told : Checked → List ℕ → Type 0
Told (good (o, r)) bs = Every Byte r → Every Byte bs
Told (refused n o) bs = Unit {0}

abbrev Named : Vertices → List ℕ → Type 0
Named (good (c, o, r)) bs = Every Byte r → Every Byte bs
Named (refused n o) bs = Unit {0}

vertices_bytes : (rs : Ranges) → length rs < most_vertices → (n at : ℕ) (bs : List ℕ) → Named (vertices rs n at bs) bs
unfolding vertices
vertices_bytes rs l zero at bs = λ h. h
vertices_bytes rs l (suc n) at [] = tt
vertices_bytes rs l (suc n) at (v ∷ bs) = go (present rs v) (λ t. present_below rs v t) (vertices rs n (suc at) bs) (vertices_bytes rs l n (suc at) bs)
  where
    go : (b : Bool) → (T b → v ≤ length rs) → (r : Vertices) → Named r bs → Named (cond b (more v r) (refused 14 at)) (v ∷ bs)
    go true f (good (c, o, r)) h = λ k. (omega (arith, f tt, l), h k)
    go true f (refused m o) h = tt
    go false f r h = tt

then_told : (x : Checked) (k : ℕ → List ℕ → Checked) (bs : List ℕ) → Told x bs → ((o : ℕ) (r : List ℕ) → Told (k o r) r) → Told (and_then x k) bs
then_told (good (o, r)) k bs h f = go (k o r) (f o r)
  where
    go : (y : Checked) → Told y r → Told y bs
    go (good (p, t)) g = λ e. h (g e)
    go (refused n p) g = tt
then_told (refused n o) k bs h f = tt

told_more : (b : ℕ) → Byte b → (x : Checked) (bs : List ℕ) → Told x bs → Told x (b ∷ bs)
told_more b l (good (o, r)) bs h = λ k. (l, h k)
told_more b l (refused n o) bs h = tt

module _ (F : Formula) (small : length F.ranges < most_vertices) where
  node_bytes : (ds : List Bool) (g : Grid) (at : ℕ) (bs : List ℕ) (branch : List ℕ → Checked) → ((rest : List ℕ) → Told (branch rest) rest) → Told (node most_vertices F ds g at bs branch) bs
  node_bytes ds g at [] branch k = tt
  node_bytes ds g at (zero ∷ bs) branch k = tt
  node_bytes ds g at (suc zero ∷ bs) branch k = go (known F.program ds)
    where
      go : (t : Three) → Told (false_node t at bs) (1 ∷ bs)
      go fails = λ h. (omega arith, h)
      go passes = tt
      go open? = tt
  node_bytes ds g at (suc (suc zero) ∷ []) branch k = tt
  node_bytes ds g at (suc (suc zero) ∷ (zero ∷ bs)) branch k = tt
  node_bytes ds g at (suc (suc zero) ∷ (suc n ∷ bs)) branch k = go (leb (suc n) most_vertices) (λ t. leb→le (suc n) most_vertices t) (vertices F.ranges (suc n) (suc (suc at)) bs) (vertices_bytes F.ranges small (suc n) (suc (suc at)) bs)
    where
      sum : (o : ℕ) (r : List ℕ) → (Every Byte r → Every Byte (2 ∷ suc n ∷ bs)) → (b : Bool) → Told (cond b (good (o, r)) (refused 15 at)) (2 ∷ suc n ∷ bs)
      sum o r h true = h
      sum o r h false = tt

      go : (b : Bool) → (T b → suc n ≤ most_vertices) → (r : Vertices) → Named r bs → Told (cond b (cycle_end g at r) (refused 14 (suc at))) (2 ∷ suc n ∷ bs)
      go true f (good (c, o, r)) h = sum o r (λ k. (omega arith, (omega (arith, f tt), h k))) (lt_z (closed (weight g) c) (pos 0))
      go true f (refused m o) h = tt
      go false f r h = tt
  node_bytes ds g at (suc (suc (suc zero)) ∷ bs) branch k = told_more 3 (omega arith) (branch bs) bs (k bs)
  node_bytes ds g at (suc (suc (suc (suc b))) ∷ bs) branch k = tt

  check_bytes : (todo : List Place) (ds : List Bool) (g : Grid) (at : ℕ) (bs : List ℕ) → Told (check most_vertices F todo ds g at bs) bs
  unfolding check
  check_bytes [] ds g at bs = node_bytes ds g at bs (λ rest. refused 15 at) (λ rest. tt)
  check_bytes (p ∷ todo) ds g at bs =
      node_bytes ds g at bs _ (λ rest. then_told (check most_vertices F todo _ (decide g p true) (suc at) rest) _ rest (check_bytes todo _ (decide g p true) (suc at) rest) (λ o r. check_bytes todo _ (decide g p false) o r))

trees_bytes : (Fs : List Formula) → Every (Fit most_vertices) Fs → (at : ℕ) (bs : List ℕ) → Told (check_trees most_vertices Fs at bs) bs
unfolding check_trees
trees_bytes [] a at bs = λ h. h
trees_bytes (F ∷ Fs) a at bs = then_told (check most_vertices F (places F.program) [] (start most_vertices F.ranges) at bs) _ bs (check_bytes F a.0.some_vertex (places F.program) [] (start most_vertices F.ranges) at bs) (λ o r. trees_bytes Fs a.1 o r)

-- the trees of a yes sheet that passes
yes_bytes : (Fs : List Formula) → Every (Fit most_vertices) Fs → (s : List ℕ) → check_yes most_vertices Fs s ≡ good say_yes → Every Byte (drop 7 s)
unfolding check_yes
yes_bytes Fs a s = go (check_trees most_vertices Fs 7 (drop 7 s)) (trees_bytes Fs a 7 (drop 7 s))
  where
    go : (x : Checked) → Told x (drop 7 s) → yes_end x ≡ good say_yes → Every Byte (drop 7 s)
    go (good (o, [])) h e = h tt
    go (good (o, b ∷ r)) h e = absurd (let z : ◌≡◌ {A = ℕ} 0 1 = cc in omega arith)
    go (refused n o) h e = absurd (let z : ◌≡◌ {A = ℕ} 0 1 = cc in omega arith)

every_entry : (bs : List ℕ) → Every Byte bs → (i : ℕ) → get_or bs i 0 < 256
every_entry [] a i = omega arith
every_entry (b ∷ bs) a zero = a.0
every_entry (b ∷ bs) a (suc i) = every_entry bs a.1 i

-- the header's seven
record Headed (a : ℕ) (s : List ℕ) : Type 0 where
  mark : (get_or s 0 0 ≡ 86) × (get_or s 1 0 ≡ 85) × (get_or s 2 0 ≡ 83)
  version : get_or s 3 0 + 256 * get_or s 4 0 ≡ 1
  asked : get_or s 5 0 ≡ a
  verdict : get_or s 6 0 ≤ 1

headed : (q : Question) (a : ℕ) (s : List ℕ) → check_sheet q a s ≡ good say_yes → Headed a s
unfolding check_sheet_under
headed q a s e =
    let m = field_says s 0 3 (marked s) 12 _ say_yes e in
    let n = field_says s 3 2 (versioned s) 13 _ say_yes m.2 in
    let o = field_says s 5 1 (eqb (get_or s 5 0) a) 14 _ say_yes n.2 in
    let v = field_says s 6 1 (leb (get_or s 6 0) 1) 14 _ say_yes o.2 in
    let two = and_l (eqb (get_or s 0 0) 86 && eqb (get_or s 1 0) 85) (eqb (get_or s 2 0) 83) m.1 in
    record {
      mark = (eqb→eq (get_or s 0 0) 86 (and_l (eqb (get_or s 0 0) 86) (eqb (get_or s 1 0) 85) two), eqb→eq (get_or s 1 0) 85 (and_r (eqb (get_or s 0 0) 86) (eqb (get_or s 1 0) 85) two), eqb→eq (get_or s 2 0) 83 (and_r (eqb (get_or s 0 0) 86 && eqb (get_or s 1 0) 85) (eqb (get_or s 2 0) 83) m.1));
      version = eqb→eq (get_or s 3 0 + 256 * get_or s 4 0) 1 n.1;
      asked = eqb→eq (get_or s 5 0) a o.1;
      verdict = leb→le (get_or s 6 0) 1 v.1;
    }

entries : (a : ℕ) → a < 256 → (s : List ℕ) → Headed a s → Every Byte (drop 7 s) → (i : ℕ) → get_or s i 0 < 256
entries a l s h k zero = omega (arith, h.mark.0)
entries a l s h k (suc zero) = omega (arith, h.mark.1)
entries a l s h k (suc (suc zero)) = omega (arith, h.mark.2)
entries a l s h k (suc (suc (suc zero))) = omega (arith, h.version)
entries a l s h k (suc (suc (suc (suc zero)))) = omega (arith, h.version)
entries a l s h k (suc (suc (suc (suc (suc zero))))) = omega (arith, h.asked)
entries a l s h k (suc (suc (suc (suc (suc (suc zero)))))) = omega (arith, h.verdict)
entries a l s h k (suc (suc (suc (suc (suc (suc (suc i))))))) =
    let same : 7 + i ≡ suc (suc (suc (suc (suc (suc (suc i)))))) = omega arith in
    subst (λ b. b < 256) (get_or-drop 7 s i 0 ∙ ap (λ n. get_or s n 0) same) (every_entry (drop 7 s) k i)

pub sheet_bytes : (q : Question) (a : ℕ) → a < 256 → (s : List ℕ) → Every (Fit most_vertices) (formulas q a) → check_sheet q a s ≡ good say_yes → (i : ℕ) → get_or s i 0 < 256
sheet_bytes q a l s fit e = entries a l s (headed q a s e) (body (get_or s 6 0) (body_says q a s say_yes e))
  where
    body : (v : ℕ) → check_body limits q a s v ≡ good say_yes → Every Byte (drop 7 s)
    body zero d = yes_bytes (formulas q a) fit s d
    body (suc v) d = absurd (let n = (no_passes q (formulas q a) s say_yes d).0 in let z : ◌≡◌ {A = ℕ} 0 1 = cc in omega arith)
