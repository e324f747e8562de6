-- Rows in range come from assignments in range, and back.
use Prim.Native.Nat.{ℕ, zero, suc, ◌+◌, ◌<◌}
use mathlib.Core.Path.{◌≡◌, refl, sym, ap₂, ◌∙◌, subst}
use mathlib.Core.Bool.{Bool, true, false, ◌||◌, cond}
use mathlib.Core.Option.{Option, none, some}
use mathlib.Core.List.{List, [], ◌∷◌, ◌++◌, map, append-nil, head-eq_of_cons-eq, tail-eq_of_cons-eq}
use native.Mathlib.Omega.{arith}
use lib.ListN.{length, get_or, length-map, get_or-append}
use lib.Dec.{T, eqb, eqb→eq, eqb_refl}
use lib.IntN.{ℤ, pos}
use lib.Signed.{◌≤ℤ◌, le_z}
use Rattle.page_numbers.proofs.Bridge.{ints, +law}
use Rattle.page_meaning.specs.Contents.{Question, Range, columns, look, fits, in_range, part}
use Rattle.page_meaning.specs.Contents as M
use Rattle.page_meaning.proofs.Truth.{and_l, and_r, and_in, or_l, or_r}
use Rattle.page_meaning.proofs.MovedRows.{fits_length}
use Rattle.page_questions.specs.Guarantees.{Every}
use Rattle.page_formulas.specs.Program.{Values, value}
use Rattle.page_formulas.specs.Vertices.{Ranges, Inside, InRange}
use Rattle.page_formulas.specs.Formulas.{vertex, first_sight, among, second_sight, first_ranges, hidden_ranges, both_ranges, assign, tabulate, row_of1, row_of2}
use Rattle.page_formulas.proofs.Compilation.{Sees}
use Rattle.page_formulas.proofs.Usability.{Exists}

-- ---- ranges, position by position

abbrev pub Ranged : Option Range → ℤ → Type 0
Ranged none x = Unit {0}
Ranged (some g) x = (g.lo ≤ℤ x) × (x ≤ℤ g.hi)

pub within_at : (ρ : Values) (v : ℕ) (rs : Ranges) → Inside ρ v rs → (i : ℕ) → Ranged (get_or rs i none) (ρ (v + i))
within_at ρ v [] w i = tt
within_at ρ v (none ∷ rs) w zero = tt
within_at ρ v (some g ∷ rs) w zero = let e : v + 0 ≡ v = omega arith in rw e (w.0, w.1)
within_at ρ v (none ∷ rs) w (suc i) = subst (λ j. Ranged (get_or rs i none) (ρ j)) (omega arith) (within_at ρ (suc v) rs w i)
within_at ρ v (some g ∷ rs) w (suc i) = subst (λ j. Ranged (get_or rs i none) (ρ j)) (omega arith) (within_at ρ (suc v) rs w.2 i)

pub within_by : (ρ : Values) (v : ℕ) (rs : Ranges) → ((i : ℕ) → Ranged (get_or rs i none) (ρ (v + i))) → Inside ρ v rs
within_by ρ v [] h = tt
within_by ρ v (none ∷ rs) h = within_by ρ (suc v) rs (λ i. subst (λ j. Ranged (get_or rs i none) (ρ j)) (omega arith) (h (suc i)))
within_by ρ v (some g ∷ rs) h = let e : v + 0 ≡ v = omega arith in let b = rw e at (h 0) in
    (b.0, b.1, within_by ρ (suc v) rs (λ i. subst (λ j. Ranged (get_or rs i none) (ρ j)) (omega arith) (h (suc i))))

ranged_out : (g : Range) (x : ℤ) → T (in_range g x) → Ranged (some g) x
unfolding in_range
ranged_out g x t = (record { le = and_r (le_z x g.hi) (le_z g.lo x) t }, record { le = and_l (le_z x g.hi) (le_z g.lo x) t })

ranged_in : (g : Range) (x : ℤ) → Ranged (some g) x → T (in_range g x)
unfolding in_range
ranged_in g x b = and_in (le_z x g.hi) (le_z g.lo x) b.1.le b.0.le

-- a row in range, and what stands after it
fits_at : (gs : List Range) (u : M.Values) → T (fits gs u) → (hs : Ranges) (w : M.Values) → ((i : ℕ) → Ranged (get_or hs i none) (look w i)) → (i : ℕ) → Ranged (get_or (map some gs ++ hs) i none) (look (u ++ w) i)
fits_at [] [] t hs w h i = h i
fits_at [] (x ∷ u) t hs w h i = absurd t
fits_at (g ∷ gs) [] t hs w h i = absurd t
fits_at (g ∷ gs) (x ∷ u) t hs w h zero = ranged_out g x (and_l (in_range g x) (fits gs u) t)
fits_at (g ∷ gs) (x ∷ u) t hs w h (suc i) = fits_at gs u (and_r (in_range g x) (fits gs u) t) hs w h i

fits_tabulate : (gs : List Range) (f : ℕ → ℤ) → ((i : ℕ) → Ranged (get_or (map some gs) i none) (f i)) → T (fits gs (tabulate (length gs) f))
unfolding tabulate
fits_tabulate [] f h = tt
fits_tabulate (g ∷ gs) f h = and_in (in_range g (f 0)) (fits gs (tabulate (length gs) (λ i. f (suc i)))) (ranged_in g (f 0) (h 0)) (fits_tabulate gs (λ i. f (suc i)) (λ i. h (suc i)))

-- the ranges of the first row, and those after them
ranged_first : (gs : List Range) (hs : Ranges) (i : ℕ) (x : ℤ) → Ranged (get_or (map some gs ++ hs) i none) x → Ranged (get_or (map some gs) i none) x
ranged_first [] hs i x h = tt
ranged_first (g ∷ gs) hs zero x h = h
ranged_first (g ∷ gs) hs (suc i) x h = ranged_first gs hs i x h

module _ {A : Type 0} where
  pub get_d_after : (a b : List A) (d : A) (n i : ℕ) → n ≡ length a → get_or (a ++ b) (n + i) d ≡ get_or b i d
  get_d_after [] b d n i e = let z : n + i ≡ i = omega arith in rw z refl
  get_d_after (x ∷ a) b d zero i e = absurd (omega arith)
  get_d_after (x ∷ a) b d (suc n) i e = let z : suc n + i ≡ suc (n + i) = omega arith in rw z (get_d_after a b d n i (omega arith))

pub hidden_at : (vs : List ℕ) (k : ℕ) (gs : List Range) (i : ℕ) → get_or (hidden_ranges vs k gs) i none ≡ cond (among vs (k + i)) none (get_or (map some gs) i none)
unfolding hidden_ranges
hidden_at vs k [] i = either_way (among vs (k + i)) none
  where
    either_way : (b : Bool) (o : Option Range) → o ≡ cond b o o
    either_way true o = refl
    either_way false o = refl
hidden_at vs k (g ∷ gs) zero = let e : k + 0 ≡ k = omega arith in rw e refl
hidden_at vs k (g ∷ gs) (suc i) = let e : k + suc i ≡ suc k + i = omega arith in rw e (hidden_at vs (suc k) gs i)

value_vertex : (ρ : Values) (v : ℕ) → value ρ (vertex v) ≡ ρ v
value_vertex ρ v = omega (ints, +law (ρ v) (pos 0))

-- ---- from rows to an assignment

module _ (q : Question) where
  hidden_in : (gs : List Range) (w : M.Values) → T (fits gs w) → (vs : List ℕ) (i : ℕ) → Ranged (get_or (hidden_ranges vs 0 gs) i none) (look w i)
  hidden_in gs w t vs i = rw (hidden_at vs 0 gs i) (go (among vs (0 + i)))
    where
      base : Ranged (get_or (map some gs) i none) (look w i)
      base = subst (λ l. Ranged (get_or (map some gs) i none) (look l i)) (append-nil w) (ranged_first gs [] i (look (w ++ []) i) (fits_at gs w t [] [] (λ j. tt) i))

      go : (b : Bool) → Ranged (cond b none (get_or (map some gs) i none)) (look w i)
      go true = tt
      go false = base

  pub assign_one : (u : M.Values) → T (fits (columns q) u) → InRange (first_ranges (columns q)) (assign u [])
  assign_one u t = record { at_zero = refl; within = subst (Inside (assign u []) 1) (append-nil (first_ranges (columns q))) (within_by (assign u []) 1 (first_ranges (columns q) ++ []) (λ i. let e : 1 + i ≡ suc i = omega arith in rw e (fits_at (columns q) u t [] [] (λ j. tt) i))) }

  pub assign_two : (u w : M.Values) → T (fits (columns q) u) → T (fits (columns q) w) → InRange (both_ranges q) (assign u w)
  assign_two u w t s = record { at_zero = refl; within = within_by (assign u w) 1 (both_ranges q) (λ i. let e : 1 + i ≡ suc i = omega arith in rw e (fits_at (columns q) u t (hidden_ranges q.visible 0 (columns q)) w (hidden_in (columns q) w s q.visible) i)) }

  pub assign_sees_one : (u w : M.Values) → T (fits (columns q) u) → Sees (Exists q) (assign u w) first_sight (look u)
  assign_sees_one u w t i h = value_vertex (assign u w) (suc i) ∙ get_or-append u w (pos 0) i (omega (arith, fits_length (columns q) u t))

  -- visible columns that are shared
  among_same : (a b : ℕ → ℤ) (vs : List ℕ) → map a vs ≡ map b vs → (i : ℕ) → T (among vs i) → a i ≡ b i
  unfolding among
  among_same a b [] e i t = absurd t
  among_same a b (j ∷ vs) e i t = go (eqb j i) (λ h. eqb→eq j i h) t (among_same a b vs (tail-eq_of_cons-eq e) i)
    where
      go : (c : Bool) → (T c → j ≡ i) → T (c || among vs i) → (T (among vs i) → a i ≡ b i) → a i ≡ b i
      go true f t g = rw (← (f tt)) (head-eq_of_cons-eq e)
      go false f t g = g t

  pub assign_sees_two : (u w : M.Values) → T (fits (columns q) u) → part q (look u) ≡ part q (look w) → Sees (Exists q) (assign u w) (second_sight q) (look w)
  unfolding part
  assign_sees_two u w t e i h = value_vertex (assign u w) (second_sight q i).vertex ∙ go (among q.visible i) (among_same (look u) (look w) q.visible e i)
    where
      go : (b : Bool) → (T b → look u i ≡ look w i) → assign u w (cond b (suc i) (suc (length (columns q) + i))) ≡ look w i
      go true f = get_or-append u w (pos 0) i (omega (arith, fits_length (columns q) u t)) ∙ f tt
      go false f = get_d_after u w (pos 0) (length (columns q)) i (sym (fits_length (columns q) u t))

  -- ---- from an assignment to rows

  look_tabulate : (n : ℕ) (f : ℕ → ℤ) (i : ℕ) → i < n → look (tabulate n f) i ≡ f i
  unfolding tabulate
  look_tabulate zero f i h = absurd (omega arith)
  look_tabulate (suc n) f zero h = refl
  look_tabulate (suc n) f (suc i) h = look_tabulate n (λ j. f (suc j)) i (omega arith)

  pub sees_one : (ρ : Values) → Sees (Exists q) ρ first_sight (look (row_of1 q ρ))
  sees_one ρ i h = value_vertex ρ (suc i) ∙ sym (look_tabulate (length (columns q)) (λ j. ρ (suc j)) i h)

  pub sees_two : (ρ : Values) → Sees (Exists q) ρ (second_sight q) (look (row_of2 q ρ))
  sees_two ρ i h = value_vertex ρ (second_sight q i).vertex ∙ sym (look_tabulate (length (columns q)) (λ j. ρ (second_sight q j).vertex) i h)

  pub row_of1_fits : (ρ : Values) (hs : Ranges) → InRange (first_ranges (columns q) ++ hs) ρ → T (fits (columns q) (row_of1 q ρ))
  row_of1_fits ρ hs r = fits_tabulate (columns q) (λ i. ρ (suc i)) (λ i. ranged_first (columns q) hs i (ρ (suc i)) (subst (λ j. Ranged (get_or (first_ranges (columns q) ++ hs) i none) (ρ j)) (omega arith) (within_at ρ 1 (first_ranges (columns q) ++ hs) r.within i)))

  pub row_of2_fits : (ρ : Values) → InRange (both_ranges q) ρ → T (fits (columns q) (row_of2 q ρ))
  row_of2_fits ρ r = fits_tabulate (columns q) (λ i. ρ (second_sight q i).vertex) at
    where
      n : ℕ
      n = length (columns q)

      hs : Ranges
      hs = hidden_ranges q.visible 0 (columns q)

      inside : (i : ℕ) → Ranged (get_or (both_ranges q) i none) (ρ (suc i))
      inside i = subst (λ j. Ranged (get_or (both_ranges q) i none) (ρ j)) (omega arith) (within_at ρ 1 (both_ranges q) r.within i)

      hidden : (i : ℕ) → get_or (both_ranges q) (n + i) none ≡ cond (among q.visible i) none (get_or (first_ranges (columns q)) i none)
      hidden i = let e : 0 + i ≡ i = omega arith in get_d_after (first_ranges (columns q)) hs none n i (sym (length-map (columns q) some)) ∙ rw e at (hidden_at q.visible 0 (columns q) i)

      at : (i : ℕ) → Ranged (get_or (first_ranges (columns q)) i none) (ρ (second_sight q i).vertex)
      at i = go (among q.visible i) (subst (λ o. Ranged o (ρ (suc (n + i)))) (hidden i) (inside (n + i)))
        where
          go : (b : Bool) → Ranged (cond b none (get_or (first_ranges (columns q)) i none)) (ρ (suc (n + i))) → Ranged (get_or (first_ranges (columns q)) i none) (ρ (cond b (suc i) (suc (n + i))))
          go true h = ranged_first (columns q) hs i (ρ (suc i)) (inside i)
          go false h = h

  -- the visible columns are shared
  among_all : (vs : List ℕ) → Every (λ i. T (among vs i)) vs
  unfolding among
  among_all [] = tt
  among_all (j ∷ vs) = (or_l (eqb j j) (among vs j) (eqb_refl j), more vs (among_all vs))
    where
      more : (is : List ℕ) → Every (λ i. T (among vs i)) is → Every (λ i. T (among (j ∷ vs) i)) is
      more [] h = tt
      more (i ∷ is) h = (or_r (eqb j i) (among vs i) h.0, more is h.1)

  pub rows_share : (ρ : Values) → Every (Exists q) q.visible → part q (look (row_of1 q ρ)) ≡ part q (look (row_of2 q ρ))
  unfolding part
  rows_share ρ h = go q.visible h (among_all q.visible)
    where
      at : (i : ℕ) (b : Bool) → T b → ρ (suc i) ≡ ρ (cond b (suc i) (suc (length (columns q) + i)))
      at i true t = refl
      at i false t = absurd t

      go : (is : List ℕ) → Every (Exists q) is → Every (λ i. T (among q.visible i)) is → map (look (row_of1 q ρ)) is ≡ map (look (row_of2 q ρ)) is
      go [] e a = refl
      go (i ∷ is) e a = ap₂ (λ x l. x ∷ l)
          (look_tabulate (length (columns q)) (λ j. ρ (suc j)) i e.0 ∙ at i (among q.visible i) a.0 ∙ sym (look_tabulate (length (columns q)) (λ j. ρ (second_sight q j).vertex) i e.0))
          (go is e.1 a.1)
