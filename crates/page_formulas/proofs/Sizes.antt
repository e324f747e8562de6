-- How large programs are: their places join vertices that the formula has, with small constants, and there are few.
use Prim.Native.Nat.{ℕ, suc, ◌+◌, ◌*◌, ◌≤◌}
use mathlib.Core.Path.{◌≡◌, refl, sym, ap, subst}
use mathlib.Core.Bool.{Bool, true, false, cond}
use mathlib.Core.List.{List, [], ◌∷◌, ◌++◌, foldl}
use native.Mathlib.Omega.{arith}
use lib.ListN.{length, length-append}
use lib.Dec.{T}
use lib.IntN.{ℤ, pos, negsuc, neg_ℤ, ◌-ℤ◌}
use lib.Signed.{◌≤ℤ◌}
use Rattle.page_numbers.specs.Numbers.{up, dn}
use Rattle.page_numbers.proofs.Bridge.{ints, +up, +dn, neg_up, neg_dn}
use Rattle.page_meaning.specs.Condition.{Op, less, at_most, equal, at_least, more, unequal, Side, constant, column, compare, both, either, negate, Condition}
use Rattle.page_meaning.specs.Contents.{Range, Table, Mode, keep, become, shift}
use Rattle.page_meaning.specs.Claims.{kept}
use Rattle.page_meaning.specs.WellFormed.{SideUses, Uses, Reads}
use Rattle.page_questions.specs.Reader.{counted}
use Rattle.page_questions.specs.Guarantees.{Every, RangeOk, ConstantOk, SideOk, TokenOk, ConditionOk, ModeOk}
use Rattle.page_formulas.specs.Program.{Term, Place, Instr, place, and_i, or_i, not_i, true_i, false_i, Program, places}
use Rattle.page_formulas.specs.Compilation.{Sight, at_most_place, below_place, comparison, constant_term, plus, side_term, compile}
use Rattle.page_formulas.specs.Parts.{joined, denied, condition_program}
use Rattle.page_formulas.specs.Vertices.{Ranges, present}
use Rattle.page_formulas.specs.Formulas.{bounded, bounded_all, differs_new, differs_over}
use Rattle.page_formulas.specs.Costs.{condition_cost}
use Rattle.page_formulas.specs.ProperFormulas.{billion, large, highest, SmallPlace}

-- ---- programs: small places, at most n of them, at most m instructions

pub record Sized (rs : Ranges) (p : Program) (n m : ℕ) : Type 0 where
  pub small : Every (SmallPlace rs) (places p)
  pub few : length (places p) ≤ n
  pub short : length p ≤ m

pub places_append : (p r : Program) → places (p ++ r) ≡ places p ++ places r
unfolding places
places_append [] r = refl
places_append (place x ∷ p) r = ap (λ l. x ∷ l) (places_append p r)
places_append (and_i ∷ p) r = places_append p r
places_append (or_i ∷ p) r = places_append p r
places_append (not_i ∷ p) r = places_append p r
places_append (true_i ∷ p) r = places_append p r
places_append (false_i ∷ p) r = places_append p r

every_append : {A : Type 0} (P : A → Type 0) (a b : List A) → Every P a → Every P b → Every P (a ++ b)
every_append P [] b h k = k
every_append P (x ∷ a) b h k = (h.0, every_append P a b h.1 k)

module _ (rs : Ranges) where
  pub size_append : (p r : Program) {n m k l : ℕ} → Sized rs p n m → Sized rs r k l → Sized rs (p ++ r) (n + k) (m + l)
  size_append p r {n} {m} {k} {l} x y = record {
    small = subst (Every (SmallPlace rs)) (sym (places_append p r)) (every_append (SmallPlace rs) (places p) (places r) x.small y.small);
    few = omega (arith, ap length (places_append p r), length-append (places p) (places r), x.few, y.few);
    short = omega (arith, length-append p r, x.short, y.short);
  }

  pub size_most : {p : Program} {n m : ℕ} (k l : ℕ) → Sized rs p n m → n ≤ k → m ≤ l → Sized rs p k l
  size_most k l x h i = record { small = x.small; few = omega (arith, x.few); short = omega (arith, x.short) }

  size_none : Sized rs [] 0 0
  unfolding places
  size_none = record { small = tt; few = omega arith; short = omega arith }

  -- one instruction that is no place
  pub size_join : (i : Instr) → places (i ∷ []) ≡ [] → Sized rs (i ∷ []) 0 1
  size_join i e = record { small = subst (Every (SmallPlace rs)) (sym e) tt; few = omega (arith, ap length e); short = omega arith }

  size_place : (p : Place) → SmallPlace rs p → Sized rs (place p ∷ []) 1 1
  unfolding places
  size_place p h = record { small = (h, tt); few = omega arith; short = omega arith }

  pub size_joined : (i : Instr) → places (i ∷ []) ≡ [] → {p r : Program} {n m k l : ℕ} → Sized rs p n m → Sized rs r k l → Sized rs (joined i p r) (n + k) (m + (l + 1))
  size_joined i e {p} {r} {n} {m} {k} {l} x y = size_most (n + k) (m + (l + 1)) (size_append p (r ++ (i ∷ [])) x (size_append r (i ∷ []) y (size_join i e))) (omega arith) (omega arith)

  pub size_not : {p : Program} {n m : ℕ} → Sized rs p n m → Sized rs (denied p) n (m + 1)
  unfolding places
  size_not {p} {n} {m} x = size_most n (m + 1) (size_append p (not_i ∷ []) x (size_join not_i refl)) (omega arith) (omega arith)

  pub record SmallTerm (B : ℕ) (t : Term) : Type 0 where
    pub is : T (present rs t.vertex)
    pub high : up t.offset ≤ B
    pub low : dn t.offset ≤ B

  module _ (A B : ℕ) (l r : Term) (x : SmallTerm A l) (y : SmallTerm B r) (h : A + B ≤ highest) where
    at_most_small : SmallPlace rs (at_most_place l r)
    at_most_small = record {
      left_is = x.is;
      right_is = y.is;
      high = omega (arith, +up r.offset (neg_ℤ l.offset), neg_up l.offset, x.low, y.high);
      low = omega (arith, +dn r.offset (neg_ℤ l.offset), neg_dn l.offset, x.high, y.low);
    }

    below_small : SmallPlace rs (below_place l r)
    below_small = record {
      left_is = x.is;
      right_is = y.is;
      high = omega (arith, +up (r.offset -ℤ l.offset) (negsuc 0), +up r.offset (neg_ℤ l.offset), neg_up l.offset, x.low, y.high);
      low = omega (arith, +dn (r.offset -ℤ l.offset) (negsuc 0), +dn r.offset (neg_ℤ l.offset), neg_dn l.offset, x.high, y.low);
    }

  -- a comparison has at most two places and four instructions
  pub size_comparison : (A B : ℕ) (op : Op) (l r : Term) → SmallTerm A l → SmallTerm B r → A + B ≤ highest → Sized rs (comparison op l r) 2 4
  unfolding places
  size_comparison A B op l r x y h = go op
    where
      h' : B + A ≤ highest
      h' = omega arith

      le : SmallPlace rs (at_most_place l r)
      le = at_most_small A B l r x y h

      ge : SmallPlace rs (at_most_place r l)
      ge = at_most_small B A r l y x h'

      single : (p : Place) → SmallPlace rs p → Sized rs (place p ∷ []) 2 4
      single p s = size_most 2 4 (size_place p s) (omega arith) (omega arith)

      go : (op : Op) → Sized rs (comparison op l r) 2 4
      go less = single (below_place l r) (below_small A B l r x y h)
      go at_most = single (at_most_place l r) le
      go equal = record { small = (le, (ge, tt)); few = omega arith; short = omega arith }
      go at_least = single (at_most_place r l) ge
      go more = single (below_place r l) (below_small B A r l y x h')
      go unequal = record { small = (le, (ge, tt)); few = omega arith; short = omega arith }

  -- ---- conditions and range tests, under a sight

  abbrev pub SmallSight : (ℕ → Type 0) → ℕ → Sight → Type 0
  SmallSight P B σ = (i : ℕ) → P i → SmallTerm B (σ i)

  pub small_constant : (B : ℕ) (k : ℤ) → up k ≤ B → dn k ≤ B → SmallTerm B (constant_term k)
  small_constant B k h l = record { is = tt; high = h; low = l }

  pub small_plus : (B D : ℕ) (t : Term) (k : ℤ) → SmallTerm B t → up k ≤ D → dn k ≤ D → SmallTerm (B + D) (plus t k)
  small_plus B D t k x h l = record { is = x.is; high = omega (arith, +up t.offset k, x.high); low = omega (arith, +dn t.offset k, x.low) }

-- ---- an accepted number's size
between : (x : ℤ) (B : ℕ) → neg_ℤ (pos B) ≤ℤ x → x ≤ℤ pos B → (up x ≤ B) × (dn x ≤ B)
between (pos n) B l h = (omega (ints, neg_up (pos B), neg_dn (pos B)), omega (ints, neg_up (pos B), neg_dn (pos B)))
between (negsuc n) B l h = (omega (ints, neg_up (pos B), neg_dn (pos B)), omega (ints, neg_up (pos B), neg_dn (pos B)))

pub constant_size : (k : ℤ) → ConstantOk k → (up k ≤ large) × (dn k ≤ large)
constant_size k c = between k large c.low c.high

pub range_size : (g : Range) → RangeOk g → (up g.hi ≤ billion) × (dn g.hi ≤ billion) × (up g.lo ≤ billion) × (dn g.lo ≤ billion)
range_size g r =
    let h = between g.hi billion (omega (ints, r.low, r.ordered, r.high)) r.high in
    let l = between g.lo billion r.low (omega (ints, r.low, r.ordered, r.high)) in (h.0, h.1, l.0, l.1)

module _ (rs : Ranges) (P : ℕ → Type 0) where
  module _ (B : ℕ) (b : B ≤ large) (σ : Sight) (sight : SmallSight rs P B σ) where
    side_small : (s : Side) → SideUses P s → SideOk s → SmallTerm rs (B + large) (side_term σ s)
    side_small (constant k) u o = let c = constant_size k o in small_constant rs (B + large) k (omega (arith, c.0)) (omega (arith, c.1))
    side_small (column i k) u o = let c = constant_size k o in small_plus rs B large (σ i) k (sight i u) c.0 c.1

    -- two places a comparison, and three instructions more than tokens; the comparisons counted on from n
    abbrev Counted : Condition → ℕ → Type 0
    Counted c n = (k : ℕ) × (foldl counted n c ≡ n + k) × Sized rs (compile σ c) (2 * k) (length c + 3 * k)

    -- a token that joins
    one_token : (i : Instr) → places (i ∷ []) ≡ [] → (c : Condition) (k : ℕ) → Sized rs (compile σ c) (2 * k) (length c + 3 * k) → Sized rs (i ∷ compile σ c) (2 * k) (suc (length c) + 3 * k)
    one_token i e c k x = size_most rs (2 * k) (suc (length c) + 3 * k) (size_append rs (i ∷ []) (compile σ c) (size_join rs i e) x) (omega arith) (omega arith)

    compile_size : (c : Condition) → Uses P c → Every TokenOk c → (n : ℕ) → Counted c n
    unfolding compile places
    compile_size [] u o n = (0, omega arith, size_none rs)
    compile_size (compare op i s ∷ c) u o n =
        let r = compile_size c u.1 o.1 (n + 1) in
        let here = size_comparison rs B (B + large) op (σ i) (side_term σ s) (sight i u.0.0) (side_small s u.0.1 o.0) (omega arith) in
        (suc r.0, omega (arith, r.1), size_most rs (2 * suc r.0) (suc (length c) + 3 * suc r.0) (size_append rs (comparison op (σ i) (side_term σ s)) (compile σ c) here r.2) (omega arith) (omega arith))
    compile_size (both ∷ c) u o n = let r = compile_size c u.1 o.1 n in (r.0, r.1, one_token and_i refl c r.0 r.2)
    compile_size (either ∷ c) u o n = let r = compile_size c u.1 o.1 n in (r.0, r.1, one_token or_i refl c r.0 r.2)
    compile_size (negate ∷ c) u o n = let r = compile_size c u.1 o.1 n in (r.0, r.1, one_token not_i refl c r.0 r.2)

    pub size_condition : (c : Condition) → Uses P c → ConditionOk c → Sized rs (condition_program σ c) condition_cost.places condition_cost.instructions
    unfolding places
    size_condition [] u o = size_most rs condition_cost.places condition_cost.instructions (size_join rs true_i refl) (omega arith) (omega arith)
    size_condition (t ∷ ts) u o = let r = compile_size (t ∷ ts) u o.constants 0 in
        size_most rs condition_cost.places condition_cost.instructions r.2 (omega (arith, r.1, o.few_comparisons)) (omega (arith, r.1, o.few_comparisons, o.few_tokens))

    -- a column's range tests
    size_bounded : (t : Term) → SmallTerm rs (B + large) t → (g : Range) → RangeOk g → Sized rs (bounded t g) 2 4
    unfolding places
    size_bounded t x g r = let z = range_size g r in
        let hi = small_constant rs billion g.hi z.0 z.1 in
        let lo = small_constant rs billion g.lo z.2 z.3 in
        record {
          small = (at_most_small rs (B + large) billion t (constant_term g.hi) x hi (omega arith), (at_most_small rs billion (B + large) (constant_term g.lo) t lo x (omega arith), tt));
          few = omega arith;
          short = omega arith;
        }

    one_more : (t : Term) → SmallTerm rs (B + large) t → (g : Range) → RangeOk g → (p : Program) (n : ℕ) → Sized rs p (2 * n) (4 * n) → Sized rs (bounded t g ++ p) (2 * suc n) (4 * suc n)
    one_more t x g r p n y = size_most rs (2 * suc n) (4 * suc n) (size_append rs (bounded t g) p (size_bounded t x g r) y) (omega arith) (omega arith)

    pub size_bounded_all : (gs : Table) (ms : List Mode) → Every RangeOk gs → Every ModeOk ms → Reads P ms → Sized rs (bounded_all σ gs ms) (2 * length gs) (4 * length gs)
    unfolding bounded_all
    size_bounded_all [] ms r o u = size_none rs
    size_bounded_all (g ∷ gs) [] r o u = size_most rs (2 * suc (length gs)) (4 * suc (length gs)) (size_none rs) (omega arith) (omega arith)
    size_bounded_all (g ∷ gs) (keep ∷ ms) r o u = size_most rs (2 * suc (length gs)) (4 * suc (length gs)) (size_bounded_all gs ms r.1 o.1 u) (omega arith) (omega arith)
    size_bounded_all (g ∷ gs) (become k ∷ ms) r o u = let c = constant_size k o.0 in
        one_more (constant_term k) (small_constant rs (B + large) k (omega (arith, c.0)) (omega (arith, c.1))) g r.0 (bounded_all σ gs ms) (length gs) (size_bounded_all gs ms r.1 o.1 u)
    size_bounded_all (g ∷ gs) (shift j k ∷ ms) r o u = let c = constant_size k o.0 in
        one_more (plus (σ j) k) (small_plus rs B large (σ j) k (sight j u.0) c.0 c.1) g r.0 (bounded_all σ gs ms) (length gs) (size_bounded_all gs ms r.1 o.1 u.1)

  -- columns of two rows
  pub size_differs_over : (σ τ : Sight) → SmallSight rs P large σ → SmallSight rs P large τ → (mode : ℕ → Mode) (is : List ℕ) → Every P is → Sized rs (differs_over mode σ τ is) (2 * length is) (5 * length is)
  unfolding differs_over places
  size_differs_over σ τ x y mode [] e = size_none rs
  size_differs_over σ τ x y mode (i ∷ is) e =
      size_most rs (2 * suc (length is)) (5 * suc (length is)) (size_append rs (differs_new (mode i) (σ i) (τ i)) (differs_over mode σ τ is) (go (kept (mode i))) (size_differs_over σ τ x y mode is e.1)) (omega arith) (omega arith)
    where
      go : (k : Bool) → Sized rs (cond k [] (comparison unequal (σ i) (τ i) ++ (or_i ∷ []))) 2 5
      go true = size_most rs 2 5 (size_none rs) (omega arith) (omega arith)
      go false = size_append rs (comparison unequal (σ i) (τ i)) (or_i ∷ []) (size_comparison rs large large unequal (σ i) (τ i) (x i e.0) (y i e.0) (omega arith)) (size_join rs or_i refl)
