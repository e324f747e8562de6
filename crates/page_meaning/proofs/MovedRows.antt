-- The change of a stored row and of a full row: the two agree.
use Prim.Native.Nat.{ℕ, zero, suc, ◌+◌, ◌≤◌, ◌<◌}
use native.Mathlib.Omega.{arith}
use mathlib.Core.Path.{◌≡◌, refl, sym, ap, ap₂, ◌∙◌, fun_ext}
use mathlib.Core.Logic.{inl, inr, ◌≢◌}
use mathlib.Core.Bool.{Bool, true, false, not, ◌&&◌}
use mathlib.Core.List.{List, [], ◌∷◌, ◌++◌, map, head-eq_of_cons-eq, tail-eq_of_cons-eq}
use lib.ListN.{length, get_or, replicate, length-map, get_or-append}
use lib.IntN.{ℤ, pos, ◌+ℤ◌}
use lib.Dec.{T}
use Rattle.page_meaning.specs.Condition.{Condition, Row, Token, compare, both, either, negate, Side, constant, column, step, run, meets, side_of, top, holds, unequal}
use Rattle.page_meaning.specs.Contents.{Question, Mode, keep, become, shift, Values, Table, Range, look, first, fits, in_range, new_value, new_values, new_row, place, Full, row}
use Rattle.page_meaning.specs.WellFormed.{Mine, SideUses, TokenUses, Uses, Reads}
use Rattle.page_meaning.specs.Claims.{kept}
use Rattle.page_meaning.specs.Trouble.{moved, new_fits, differ_over}
use Rattle.page_meaning.proofs.Words.{put}
use Rattle.page_meaning.proofs.Truth.{and_in, or_cases, or_l, or_r, parts, test, not_unequal, unequal_not}

-- ---- a condition sees the columns that it names

module _ (P : ℕ → Type 0) (r s : Row) (same : (i : ℕ) → P i → r i ≡ s i) where
  side_agree : (x : Side) → SideUses P x → side_of x r ≡ side_of x s
  side_agree (constant k) u = refl
  side_agree (column i k) u = ap (λ z. z +ℤ k) (same i u)

  step_agree : (t : Token) (st : List Bool) → TokenUses P t → step r t st ≡ step s t st
  step_agree (compare op i x) st u = ap₂ (λ a b. holds op a b ∷ st) (same i u.0) (side_agree x u.1)
  step_agree both st u = refl
  step_agree either st u = refl
  step_agree negate [] u = refl
  step_agree negate (a ∷ st) u = refl

  run_agree : (c : Condition) (st : List Bool) → Uses P c → run r c st ≡ run s c st
  unfolding run
  run_agree [] st u = refl
  run_agree (t ∷ c) st u = run_agree c (step r t st) u.1 ∙ ap (run s c) (step_agree t st u.0)

  meets_agree : (c : Condition) → Uses P c → meets c r ≡ meets c s
  unfolding meets
  meets_agree c u = ap top (run_agree c [] u)

  new_agree : (ms : List Mode) (vs : Values) → Reads P ms → new_values ms vs r ≡ new_values ms vs s
  new_agree [] vs u = refl
  new_agree (m ∷ ms) [] u = refl
  new_agree (keep ∷ ms) (v ∷ vs) u = ap (λ l. v ∷ l) (new_agree ms vs u)
  new_agree (become k ∷ ms) (v ∷ vs) u = ap (λ l. k ∷ l) (new_agree ms vs u)
  new_agree (shift j k ∷ ms) (v ∷ vs) u = ap₂ (λ a l. (a +ℤ k) ∷ l) (same j u.0) (new_agree ms vs u.1)

-- a stored row reads the same at its place and in a full row
at_place : (f r b : Values) (i : ℕ) → length f ≤ i → i < length f + length r → look (replicate (length f) (pos 0) ++ r) i ≡ look (f ++ (r ++ b)) i
at_place [] r b i h k = sym (get_or-append r b (pos 0) i (omega arith))
at_place (x ∷ f) r b zero h k = absurd (omega arith)
at_place (x ∷ f) r b (suc i) h k = at_place f r b i (omega arith) (omega arith)

-- new values in a full row, column by column
moved_at : (f r b : Values) (ms : List Mode) (s : Row) → length ms ≡ length r → (i : ℕ)
    → look (f ++ (new_values ms r s ++ b)) i ≡ new_value (get_or (replicate (length f) keep ++ ms) i keep) s (look (f ++ (r ++ b)) i)
moved_at (x ∷ f) r b ms s e zero = refl
moved_at (x ∷ f) r b ms s e (suc i) = moved_at f r b ms s e i
moved_at [] [] b [] s e i = refl
moved_at [] [] b (m ∷ ms) s e i = absurd (omega arith)
moved_at [] (v ∷ r) b [] s e i = absurd (omega arith)
moved_at [] (v ∷ r) b (m ∷ ms) s e zero = refl
moved_at [] (v ∷ r) b (m ∷ ms) s e (suc i) = moved_at [] r b ms s (omega arith) i

-- the columns not kept decide whether the new row fits
absorb : (a : Bool) {b c : Bool} → T a → b ≡ c → a && b ≡ c
absorb true t e = e
absorb false t e = absurd t

fits_new : (t : Table) (ms : List Mode) (r : Values) (s : Row) → T (fits t r) → fits t (new_values ms r s) ≡ new_fits t ms s
unfolding new_fits
fits_new [] [] [] s h = refl
fits_new [] (m ∷ ms) [] s h = refl
fits_new [] ms (v ∷ r) s h = absurd h
fits_new (g ∷ t) ms [] s h = absurd h
fits_new (g ∷ t) [] (v ∷ r) s h = absorb (in_range g v) (search parts) (fits_new t [] r s (search parts))
fits_new (g ∷ t) (keep ∷ ms) (v ∷ r) s h = absorb (in_range g v) (search parts) (fits_new t ms r s (search parts))
fits_new (g ∷ t) (become k ∷ ms) (v ∷ r) s h = ap (λ b. in_range g k && b) (fits_new t ms r s (search parts))
fits_new (g ∷ t) (shift j k ∷ ms) (v ∷ r) s h = ap (λ b. in_range g (s j +ℤ k) && b) (fits_new t ms r s (search parts))

-- ---- visible parts differ exactly where a visible column not kept does

module _ (mode : ℕ → Mode) (a b : Row) where
  -- one column's test
  abbrev apart : ℕ → Bool
  apart i = not (kept (mode i)) && holds unequal (a i) (b i)

  pub differ_yes : (is : List ℕ) → T (differ_over mode is a b) → map a is ≢ map b is
  differ_yes [] t e = t
  differ_yes (i ∷ is) t e = elim (or_cases (apart i) (differ_over mode is a b) t) [ inl u ↦ unequal_not (a i) (b i) (search parts) (head-eq_of_cons-eq e) | inr u ↦ differ_yes is u (tail-eq_of_cons-eq e) ]

  -- kept columns are as in u and w, which have the same visible part
  pub differ_no : (u w : Row) → ((i : ℕ) → T (kept (mode i)) → (a i ≡ u i) × (b i ≡ w i)) → (is : List ℕ) → map u is ≡ map w is → ¬ T (differ_over mode is a b) → map a is ≡ map b is
  differ_no u w k [] e f = refl
  differ_no u w k (i ∷ is) e f =
      ap₂ (λ x l. x ∷ l)
      (elim (test (kept (mode i))) [ inl t ↦ (k i t).0 ∙ head-eq_of_cons-eq e ∙ sym (k i t).1 | inr t ↦ not_unequal (a i) (b i) (λ x. f (or_l (apart i) (differ_over mode is a b) (search and_in))) ])
      (differ_no u w k is (tail-eq_of_cons-eq e) (λ t. f (or_r (apart i) (differ_over mode is a b) t)))

pub kept_same : (m : Mode) (r : Row) (v : ℤ) → T (kept m) → new_value m r v ≡ v
kept_same keep r v t = refl
kept_same (become k) r v t = absurd t
kept_same (shift j k) r v t = absurd t

-- ---- the full row after the change

abbrev pub move : Question → List Mode → Full → Full
move q ms x = record { before = x.before; here = new_row q ms x.here; after = x.after }

-- its parts have their tables' widths
pub record Wide (q : Question) (x : Full) : Type 0 where
  pub before : length x.before ≡ first q
  pub here : T (fits q.changed x.here)

pub fits_length : (t : List Range) (r : Values) → T (fits t r) → length r ≡ length t
fits_length [] [] h = refl
fits_length [] (v ∷ r) h = absurd h
fits_length (g ∷ t) [] h = absurd h
fits_length (g ∷ t) (v ∷ r) h = ap suc (fits_length t r (search parts))

module _ (q : Question) (x : Full) (w : Wide q x) where
  -- what stands in a column of the changed table
  here_same : (i : ℕ) → Mine q i → place q x.here i ≡ row x i
  here_same i m = let e = w.before in let k = fits_length q.changed x.here w.here in
      rw (← e) (at_place x.before x.here x.after i (omega arith) (omega arith))

  pub selected_same : (d : Condition) → Uses (Mine q) d → meets d (place q x.here) ≡ meets d (row x)
  selected_same d u = meets_agree (Mine q) (place q x.here) (row x) here_same d u

  pub fits_same : (ms : List Mode) → Reads (Mine q) ms → fits q.changed (new_row q ms x.here) ≡ new_fits q.changed ms (row x)
  fits_same ms u = ap (fits q.changed) (new_agree (Mine q) (place q x.here) (row x) here_same ms x.here u) ∙ fits_new q.changed ms x.here (row x) w.here

  pub row_same : (ms : List Mode) → Reads (Mine q) ms → length ms ≡ length q.changed → row (move q ms x) ≡ moved q ms (row x)
  unfolding moved
  row_same ms u e = let k = fits_length q.changed x.here w.here in
      fun_ext (λ i. ap (λ l. look (x.before ++ (l ++ x.after)) i) (new_agree (Mine q) (place q x.here) (row x) here_same ms x.here u) ∙ rw w.before at (moved_at x.before x.here x.after ms (row x) (omega arith) i))

-- another row of the changed table in its place
abbrev pub with : Full → Values → Full
with x n = record { before = x.before; here = n; after = x.after }

new_become : (n r : Values) (s : Row) → length n ≡ length r → new_values (map become n) r s ≡ n
new_become [] [] s e = refl
new_become [] (v ∷ r) s e = absurd (omega arith)
new_become (k ∷ n) [] s e = absurd (omega arith)
new_become (k ∷ n) (v ∷ r) s e = ap (λ l. k ∷ l) (new_become n r s (omega arith))

pub reads_become : (P : ℕ → Type 0) (n : Values) → Reads P (map become n)
reads_become P [] = tt
reads_become P (k ∷ n) = reads_become P n

pub put_same : (q : Question) (x : Full) → Wide q x → (n : Values) → T (fits q.changed n) → row (with x n) ≡ put q n (row x)
put_same q x w n h = let k = fits_length q.changed x.here w.here in let l = fits_length q.changed n h in
    ap (λ m. look (x.before ++ (m ++ x.after))) (sym (new_become n x.here (place q x.here) (omega arith))) ∙ row_same q x w (map become n) (reads_become (Mine q) n) (length-map n become ∙ l)
