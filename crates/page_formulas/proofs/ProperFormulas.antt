-- Every formula of an accepted question is proper: few vertices, small ranges, places between its vertices with small constants,
-- few places (FORMAT 7.3), and a program that fits the code's room.
use Prim.Native.Nat.{ℕ, suc, ◌+◌, ◌*◌, ◌≤◌, ◌<◌}
use mathlib.Core.Path.{refl}
use mathlib.Core.Bool.{Bool, true, false, cond}
use mathlib.Core.Option.{some}
use mathlib.Core.List.{List, [], ◌∷◌, ◌++◌, map}
use native.Mathlib.Omega.{arith}
use lib.ListN.{length, length-map, length-append}
use lib.Dec.{T, eqb}
use lib.IntN.{ℤ}
use lib.Signed.{◌≤ℤ◌, le_z}
use Rattle.page_numbers.proofs.Bridge.{ints}
use Rattle.page_meaning.specs.Limits.{most_columns, most_vertices, most_decisions}
use Rattle.page_meaning.specs.Condition.{Condition}
use Rattle.page_meaning.specs.Contents.{Question, Change, insert, delete, modify, Mode, become, Range, columns, columns_of, fits, in_range}
use Rattle.page_meaning.specs.Contents as M
use Rattle.page_meaning.specs.Claims.{Part, Line, single, double, mode_at, read_parts, formulas_by}
use Rattle.page_meaning.specs.WellFormed.{Uses, ChangeOk}
use Rattle.page_meaning.proofs.Truth.{and_l, and_r}
use Rattle.page_questions.specs.Guarantees.{Every, RangeOk, ConstantOk, ConditionOk, ModeOk, ChangeAccepted, Ascending, Accepted}
use Rattle.page_formulas.specs.Program.{Program, places, and_i, or_i, true_i, false_i}
use Rattle.page_formulas.specs.Compilation.{Sight}
use Rattle.page_formulas.specs.Parts.{condition_program}
use Rattle.page_formulas.specs.Vertices.{Ranges}
use Rattle.page_formulas.specs.Formulas.{Formula, first_sight, second_sight, first_ranges, hidden_ranges, both_ranges, bounded_all, differs_over, programs, formula, irrelevance, computability, formulas}
use Rattle.page_formulas.specs.Costs.{Cost, condition_cost, costs, most_instructions, Fits}
use Rattle.page_formulas.specs.ProperFormulas.{large, Nonempty, SmallRange, Proper}
use Rattle.page_formulas.proofs.Usability.{Exists, Contexts, Doable, Usable, usable, contexts_doable}
use Rattle.page_formulas.proofs.Readings.{Match, match_parts, every_formula}
use Rattle.page_formulas.proofs.Sizes.{Sized, size_append, size_most, size_join, size_joined, size_not, SmallSight, range_size, size_condition, size_bounded_all, size_differs_over}
use Rattle.page_formulas.proofs.Forms.{Pushes, pushes_joined, pushes_not, pushes_more, pushes_true, condition_pushes, keeps_bounded, pushes_differs}
use Rattle.page_formulas.proofs.RowVertices.{first_every, both_every, hidden_length, first_in_one, first_in_both, second_in_both, after_small}

-- a part: its size, and that it pushes one value
pub record Measured (rs : Ranges) (p : Program) (c : Cost) : Type 0 where
  pub sized : Sized rs p c.places c.instructions
  pub pushes : Pushes p

-- what an accepted question says of what its formulas are read under
pub record Sound (q : Question) (d : Condition) (ms : List Mode) : Type 0 where
  pub doable : Doable q d ms
  pub condition : ConditionOk d
  pub modes : Every ModeOk ms

every_left : {A : Type 0} (P : A → Type 0) (a b : List A) → Every P (a ++ b) → Every P a
every_left P [] b h = tt
every_left P (x ∷ a) b h = (h.0, every_left P a b h.1)

every_right : {A : Type 0} (P : A → Type 0) (a b : List A) → Every P (a ++ b) → Every P b
every_right P [] b h = h
every_right P (x ∷ a) b h = every_right P a b h.1

ascending_short : (low high : ℕ) (is : List ℕ) → low ≤ high → Ascending low high is → low + length is ≤ high
ascending_short low high [] h a = omega arith
ascending_short low high (i ∷ is) h a = omega (arith, ascending_short (suc i) high is a.1 a.2, a.0)

module _ (q : Question) (a : Accepted q) where
  fine : Usable q
  fine = usable q a

  changed_ranges : Every RangeOk q.changed
  changed_ranges = every_left RangeOk q.changed (columns_of q.back) (every_right RangeOk (columns_of q.front) (q.changed ++ columns_of q.back) a.ranges)

  changed_few : length q.changed ≤ most_columns
  changed_few = omega (arith, length-append (columns_of q.front) (q.changed ++ columns_of q.back), length-append q.changed (columns_of q.back), a.few_columns)

  visible_few : length q.visible ≤ most_columns
  visible_few = omega (arith, ascending_short 0 (length (columns q)) q.visible (omega arith) a.visible, a.few_columns)

  -- ---- one law a word, in a formula with ranges rs

  module _ (rs : Ranges) (d : Condition) (ms : List Mode) (o : Sound q d ms) where
    abbrev Small : ℕ → Sight → Unit {0} → Type 0
    Small B σ t = SmallSight rs (Exists q) B σ

    condition_size : (B : ℕ) → B ≤ large → (σ : Sight) → SmallSight rs (Exists q) B σ → (c : Condition) → Uses (Exists q) c → ConditionOk c → Measured rs (condition_program σ c) condition_cost
    condition_size B h σ x c u ok = record { sized = size_condition rs (Exists q) B h σ x c u ok; pushes = condition_pushes σ c ok }

    tests_size : (σ : Sight) → SmallSight rs (Exists q) 0 σ → Sized rs (bounded_all σ q.changed ms) (2 * most_columns) (4 * most_columns)
    tests_size σ x =
        let r = size_bounded_all rs (Exists q) 0 (omega arith) σ x q.changed ms changed_ranges o.modes o.doable.reads in
        size_most rs (2 * most_columns) (4 * most_columns) r (omega (arith, changed_few)) (omega (arith, changed_few))

    words_fit : Match (Small 0) (Small large) (Measured rs) (programs q d ms) costs
    unfolding places
    words_fit = record {
      same = λ σ t x j h. let y = x j h in record { is = y.is; high = omega (arith, y.high); low = omega (arith, y.low) };
      F = λ σ t x. after_small q rs σ x ms o.modes o.doable.reads;
      C = λ σ t x. condition_size large (omega arith) σ x q.condition fine.uses a.condition;
      D = λ σ t x. condition_size 0 (omega arith) σ x d o.doable.uses o.condition;
      ranged = λ σ t x.
          record { sized = size_most rs (2 * most_columns) (4 * most_columns + 1) (size_append rs (true_i ∷ []) (bounded_all σ q.changed ms) (size_join rs true_i refl) (tests_size σ x)) (omega arith) (omega arith); pushes = pushes_more pushes_true (keeps_bounded σ q.changed ms) };
      M = λ σ t x.
          let c = condition_size 0 (omega arith) σ x d o.doable.uses o.condition in
          record { sized = size_append rs (condition_program σ d) (bounded_all σ q.changed ms) c.sized (tests_size σ x); pushes = pushes_more c.pushes (keeps_bounded σ q.changed ms) };
      differ = λ σ τ t u x y.
          let r = size_differs_over rs (Exists q) σ τ x y (mode_at q ms) q.visible fine.visible in
          record { sized = size_most rs (2 * most_columns) (5 * most_columns + 1) (size_append rs (false_i ∷ []) (differs_over (mode_at q ms) σ τ q.visible) (size_join rs false_i refl) r) (omega (arith, visible_few)) (omega (arith, visible_few)); pushes = pushes_differs (mode_at q ms) σ τ q.visible };
      deny = λ x. record { sized = size_not rs x.sized; pushes = pushes_not x.pushes };
      both = λ x y. record { sized = size_joined rs and_i refl x.sized y.sized; pushes = pushes_joined and_i refl x.pushes y.pushes };
      either = λ x y. record { sized = size_joined rs or_i refl x.sized y.sized; pushes = pushes_joined or_i refl x.pushes y.pushes };
    }

    parts_fit : (σ : Bool → Sight) → ((i : Bool) → SmallSight rs (Exists q) 0 (σ i)) → (p : Part) (ps : List Part) → Measured rs (read_parts (programs q d ms) σ p ps) (read_parts costs (λ i. tt) p ps)
    parts_fit σ x p ps = match_parts (Small 0) (Small large) (Measured rs) words_fit σ (λ i. tt) x p ps

  -- ---- whole formulas

  some_range : (g : Range) → RangeOk g → Nonempty (some g)
  some_range g r = r.ordered

  both_small : (i : Bool) → SmallSight (both_ranges q) (Exists q) 0 (cond i (second_sight q) first_sight)
  both_small true = second_in_both q
  both_small false = first_in_both q

  proper_by : {F : Formula} {c : Cost} → length F.ranges < most_vertices → Every SmallRange F.ranges → Every Nonempty F.ranges → Measured F.ranges F.program c → c.places ≤ most_decisions → c.instructions ≤ most_instructions → Proper F
  proper_by v s n x p i = record { vertices = v; ranges_small = s; ranges_some = n; places_small = x.sized.small; few_places = omega (arith, x.sized.few); short = omega (arith, x.sized.short); formed = x.pushes.on 0 }

  -- one vertex a column of each row
  ranges_short : (d : Condition) (ms : List Mode) (l : Line) → length (formula q d ms l).ranges ≤ 2 * length (columns q)
  ranges_short d ms (single p ps) = omega (arith, length-map (columns q) some)
  ranges_short d ms (double p ps) = omega (arith, length-append (first_ranges (columns q)) (hidden_ranges q.visible 0 (columns q)), length-map (columns q) some, hidden_length q.visible 0 (columns q))

  line_proper : (d : Condition) (ms : List Mode) → Sound q d ms → (l : Line) → Fits l → Proper (formula q d ms l)
  line_proper d ms o (single p ps) f =
      proper_by (omega (arith, ranges_short d ms (single p ps), a.few_columns)) (first_every SmallRange tt range_size (columns q) a.ranges) (first_every Nonempty tt some_range (columns q) a.ranges)
      (parts_fit (first_ranges (columns q)) d ms o (λ i. first_sight) (λ i. first_in_one q) p ps) f.places f.instructions
  line_proper d ms o (double p ps) f =
      proper_by (omega (arith, ranges_short d ms (double p ps), a.few_columns))
      (both_every SmallRange tt range_size q.visible (columns q) (columns q) a.ranges a.ranges) (both_every Nonempty tt some_range q.visible (columns q) (columns q) a.ranges a.ranges)
      (parts_fit (both_ranges q) d ms o (λ i. cond i (second_sight q) first_sight) both_small p ps) f.places f.instructions

  -- an inserted row's values are constants of the question
  value_ok : (g : Range) (v : ℤ) → RangeOk g → T (in_range g v) → ConstantOk v
  unfolding in_range
  value_ok g v r t =
      let h : v ≤ℤ g.hi = record { le = and_l (le_z v g.hi) (le_z g.lo v) t } in
      let l : g.lo ≤ℤ v = record { le = and_r (le_z v g.hi) (le_z g.lo v) t } in
      record { low = omega (ints, h, l, r.low, r.high); high = omega (ints, h, l, r.low, r.high) }

  values_ok : (gs : List Range) (n : M.Values) → Every RangeOk gs → T (fits gs n) → Every ModeOk (map become n)
  values_ok gs [] r t = tt
  values_ok [] (v ∷ n) r t = absurd t
  values_ok (g ∷ gs) (v ∷ n) r t = (value_ok g v r.0 (and_l (in_range g v) (fits gs n) t), values_ok gs n r.1 (and_r (in_range g v) (fits gs n) t))

  contexts_sound : (ch : Change) → ChangeOk q ch → ChangeAccepted ch → Contexts (Doable q) ch → Contexts (Sound q) ch
  contexts_sound (insert new) f o u = λ n i. record { doable = u n i; condition = record { shaped = tt; few_tokens = omega arith; few_comparisons = omega arith; constants = tt }; modes = values_ok q.changed n changed_ranges (f n i) }
  contexts_sound (delete d) f o u = record { doable = u; condition = o; modes = tt }
  contexts_sound (modify d ms) f o u = record { doable = u; condition = o.0; modes = o.1 }

  -- what every line of the table makes is so of every formula
  formulas_are : (P : Formula → Type 0) → ((d : Condition) (ms : List Mode) → Sound q d ms → (l : Line) → Fits l → P (formula q d ms l)) → (asked : ℕ) → Every P (formulas q asked)
  formulas_are P line asked = go (eqb asked 1)
    where
      all : (b : Bool) → Every P (formulas_by (formula q) q q.change b)
      all = every_formula P (formula q) (Sound q) line q q.change (contexts_sound q.change a.well_formed a.change (contexts_doable q q.change fine.change))

      go : (b : Bool) → Every P (cond b (irrelevance q q.change) (computability q q.change))
      go true = all true
      go false = all false

  pub formulas_proper : (asked : ℕ) → Every Proper (formulas q asked)
  formulas_proper = formulas_are Proper line_proper

  pub formulas_short : (asked : ℕ) → Every (λ F. length F.ranges ≤ 2 * length (columns q)) (formulas q asked)
  formulas_short = formulas_are (λ F. length F.ranges ≤ 2 * length (columns q)) (λ d ms o l f. ranges_short d ms l)
