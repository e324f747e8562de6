-- What a question guarantees that was read.
use mathlib.Core.Path.{◌≡◌, sym, subst, ◌∙◌}
use mathlib.Core.List.{List, [], ◌∷◌, ◌++◌}
use Prim.Native.Nat.{ℕ, suc, ◌+◌, ◌-◌, ◌≤◌, ◌<◌}
use native.Mathlib.Omega.{arith}
use lib.Dec.{ltb, leb}
use lib.ListN.{length, get_or, take, drop, length-drop, length-map}
use lib.Seq.{length-take-le}
use lib.IntN.{neg_ℤ}
use Rattle.page_numbers.specs.Outcome.{Outcome, good, refused}
use Rattle.page_meaning.specs.Limits.{Limits, limits}
use Rattle.page_meaning.specs.Condition.{Condition, compare, both, either, negate, Side, constant, column}
use Rattle.page_meaning.specs.Contents.{Range, Change, insert, delete, modify, Version, Question, columns}
use Rattle.page_meaning.specs.WellFormed.{SideUses, Uses, Reads, WellFormed}
use Rattle.page_questions.specs.Layout.{Column, ranges_of, total, first_of, width_of, table_of, visible_from, version_by, question_from}
use Rattle.page_questions.specs.Reader.{At, many, byte, int, up_to, farthest, width_at, column_at, condition_at, change_at, ending, from_change, from_condition, from_visible, from_columns, from_widths, from_changed, from_kind, from_tables, from_version, marked, version_in, versioned, read_under, read_of}
use Rattle.page_questions.specs.Guarantees.{Every, RangeOk, ChangeAccepted, Ascending, AcceptedUnder, Accepted}
use Rattle.page_questions.proofs.Invariants.{Holds, Finds, holds_so, Between, Inside, then_holds, cond_holds, byte_holds, int_holds, many_holds}
use Rattle.page_questions.proofs.Conditions.{every_snoc, Sound, condition_holds}
use Rattle.page_questions.proofs.Changes.{ChangeFits, change_holds}
use Rattle.page_questions.proofs.Sums.{total_snoc}
use Rattle.page_questions.proofs.Layouts.{tables_length, total_split, each_some, every_at, every_take, every_drop, table_length, columns_from, columns_count, first_from, ascending}

-- ---- columns

column_holds : (s : List ℕ) (p : ℕ) → Finds (λ c. RangeOk c.range) (column_at s p)
unfolding column_at
column_holds s p =
    then_holds (Inside (neg_ℤ farthest) farthest) (λ a. RangeOk a.value.range) (int s 5 (neg_ℤ farthest) farthest p) _ (int_holds s 5 (neg_ℤ farthest) farthest p) λ lo p l.
    then_holds (Inside lo farthest) (λ a. RangeOk a.value.range) (int s 5 lo farthest p) _ (int_holds s 5 lo farthest p) λ hi p h.
    then_holds (Between 0 (up_to 1)) (λ a. RangeOk a.value.range) (byte s 4 0 (up_to 1) p) _ (byte_holds s 4 0 (up_to 1) p) λ v p w.
    record { low = l.0; ordered = h.0; high = h.1 }

every_ranges : (cs : List Column) → Every (λ c. RangeOk c.range) cs → Every RangeOk (ranges_of cs)
every_ranges [] h = tt
every_ranges (c ∷ cs) h = (h.0, every_ranges cs h.1)

-- ---- the whole question

-- what holds of more columns holds of the columns used
side_uses : (P Q : ℕ → Type 0) → ((i : ℕ) → P i → Q i) → (k : Side) → SideUses P k → SideUses Q k
side_uses P Q f (constant k) h = tt
side_uses P Q f (column i k) h = f i h

uses_so : (P Q : ℕ → Type 0) → ((i : ℕ) → P i → Q i) → (c : Condition) → Uses P c → Uses Q c
uses_so P Q f [] h = tt
uses_so P Q f (compare o i k ∷ c) h = ((f i h.0.0, side_uses P Q f k h.0.1), uses_so P Q f c h.1)
uses_so P Q f (both ∷ c) h = (tt, uses_so P Q f c h.1)
uses_so P Q f (either ∷ c) h = (tt, uses_so P Q f c h.1)
uses_so P Q f (negate ∷ c) h = (tt, uses_so P Q f c h.1)

-- under any limits
module _ (l : Limits) where
  abbrev Widths : List ℕ → Type 0
  Widths ws = Every (λ w. 1 ≤ w) ws × (total ws ≤ l.columns)

  width_holds : (s ws : List ℕ) (p : ℕ) → Widths ws → Finds (λ w. Widths (ws ++ (w ∷ []))) (width_at l.columns s ws p)
  width_holds s ws p h =
      holds_so {A = At ℕ} (λ a. Between 1 (up_to (l.columns - total ws)) a.value) (λ a. Widths (ws ++ (a.value ∷ [])))
      (λ a b. (every_snoc (λ w. 1 ≤ w) ws a.value h.0 b.0, omega (arith, total_snoc ws a.value, h.1, b.1)))
      (width_at l.columns s ws p) (byte_holds s 4 1 (up_to (l.columns - total ws)) p)

  no_table : Widths []
  unfolding total
  no_table = (tt, omega arith)

  -- the tables' widths were read
  record Tabled (tables t : ℕ) (ws : List ℕ) : Type 0 where
    few : tables ≤ l.tables
    changed : t < tables
    widths : Widths ws
    count : length ws ≡ tables

  module _ (s : List ℕ) (kind t tables : ℕ) (ws : List ℕ) (h : Tabled tables t ws) where
    inside : t < length ws
    inside = omega (arith, h.changed, h.count)

    -- and the columns
    module _ (cs : List Column) (whole : length cs ≡ total ws) (ranges : Every (λ c. RangeOk c.range) cs) (some : 1 ≤ length (visible_from 0 cs)) where
      abbrev gs : List Range
      gs = ranges_of cs

      -- a column of the changed table
      abbrev OwnFrom : ℕ → ℕ → Type 0
      OwnFrom low i = Between low (low + length (table_of ws t gs)) i

      well_formed : (v : Version) (c : Condition) (ch : Change) → ChangeFits s (first_of ws t) (table_of ws t gs) ch → WellFormed (question_from v ws t cs c ch)
      unfolding question_from
      well_formed v c (insert rows) fit = fit.1
      well_formed v c (delete d) fit = subst (λ low. Uses (OwnFrom low) d) (sym (first_from ws t cs inside whole v c (delete d))) fit.1
      well_formed v c (modify d ms) fit =
          let low = sym (first_from ws t cs inside whole v c (modify d ms)) in
          (subst (λ n. Uses (OwnFrom n) d) low fit.2, subst (λ n. Reads (OwnFrom n) ms) low fit.3, fit.4)

      change_accepted : (ch : Change) → ChangeFits s (first_of ws t) (table_of ws t gs) ch → ChangeAccepted ch
      change_accepted (insert rows) fit = fit.0
      change_accepted (delete d) fit = fit.0
      change_accepted (modify d ms) fit = (fit.0, fit.1)

      as_accepted : (v : Version) (c : Condition) (ch : Change) → Sound s 0 (total ws) c → ChangeFits s (first_of ws t) (table_of ws t gs) ch → AcceptedUnder l (question_from v ws t cs c ch)
      unfolding question_from
      as_accepted v c ch sound fit =
          let split = total_split ws t inside in
          let long : length gs ≡ total ws = length-map cs (λ c. c.range) ∙ whole in
          let count = columns_count ws t cs inside whole v c ch in
          record {
            well_formed = well_formed v c ch fit;
            few_tables = omega (
              arith,
              tables_length (take t ws) gs,
              tables_length (drop (suc t) ws) (drop (first_of ws t + width_of ws t) gs),
              length-take-le t ws (omega (arith, inside)),
              length-drop (suc t) ws,
              h.few,
              h.count,
              inside,
            );
            each_front = each_some (take t ws) gs (every_take (λ w. 1 ≤ w) t ws h.widths.0) (omega arith);
            changed = omega (arith, table_length ws t cs inside whole, every_at ws t inside h.widths.0);
            each_back = each_some (drop (suc t) ws) (drop (first_of ws t + width_of ws t) gs) (every_drop (λ w. 1 ≤ w) (suc t) ws h.widths.0) (simp length-drop (omega arith));
            few_columns = omega (arith, count, h.widths.1);
            ranges = subst (Every RangeOk) (sym (columns_from ws t cs inside whole v c ch)) (every_ranges cs ranges);
            some_visible = some;
            visible = subst (λ n. Ascending 0 n (visible_from 0 cs)) (omega (arith, count)) (ascending 0 cs);
            exist = uses_so (Between 0 (total ws)) (λ i. i < length (columns (question_from v ws t cs c ch))) (λ i b. omega (arith, count, b.1)) c sound.uses;
            condition = sound.ok;
            change = change_accepted ch fit;
          }

      from_condition_lem : (p : ℕ) → Holds (AcceptedUnder l) (from_condition s kind t ws cs p)
      unfolding from_condition from_change ending
      from_condition_lem p =
          then_holds (Sound s 0 (total ws)) (AcceptedUnder l) (condition_at s 0 (total ws) p) _ (condition_holds s 0 (total ws) p) λ c p sound.
          then_holds (ChangeFits s (first_of ws t) (table_of ws t gs)) (AcceptedUnder l) (change_at s kind (first_of ws t) (table_of ws t gs) p) _
          (change_holds s (first_of ws t) (table_of ws t gs) kind p) λ ch p fit.
          cond_holds (AcceptedUnder l) (ltb p (length s)) _ _ (λ e. tt) (λ e. as_accepted (version_by (get_or s 3 0)) c ch sound fit)

    from_visible_lem : (cs : List Column) (p : ℕ) → length cs ≡ total ws → Every (λ c. RangeOk c.range) cs → Holds (AcceptedUnder l) (from_visible s kind t ws cs p)
    unfolding from_visible
    from_visible_lem cs p whole ranges = go (visible_from 0 cs) (λ i. from_condition_lem cs whole ranges i p)
      where
        seen : List ℕ → Outcome Question
        seen [] = refused 8 p
        seen (i ∷ is) = from_condition s kind t ws cs p

        go : (is : List ℕ) → (1 ≤ length is → Holds (AcceptedUnder l) (from_condition s kind t ws cs p)) → Holds (AcceptedUnder l) (seen is)
        go [] f = tt
        go (i ∷ is) f = f (omega arith)

    from_columns_lem : (p : ℕ) → Holds (AcceptedUnder l) (from_columns s kind t ws p)
    unfolding from_columns
    from_columns_lem p =
        then_holds (λ cs. Every (λ c. RangeOk c.range) cs × (length cs ≡ total ws)) (AcceptedUnder l) (many (λ cs p. column_at s p) (total ws) [] p) _ columns_hold
        λ cs p g. from_visible_lem cs p g.1 g.0
      where
        columns_hold : Finds (λ cs. Every (λ c. RangeOk c.range) cs × (length cs ≡ total ws)) (many (λ cs p. column_at s p) (total ws) [] p)
        columns_hold = many_holds (λ cs p. column_at s p) (Every (λ c. RangeOk c.range)) (total ws)
            (λ cs p b g. holds_so {A = At Column} (λ a. RangeOk a.value.range) (λ a. Every (λ c. RangeOk c.range) (cs ++ (a.value ∷ [])))
            (λ a r. every_snoc (λ c. RangeOk c.range) cs a.value g r) (column_at s p) (column_holds s p)) (total ws) [] p (omega arith) tt

  pub from_tables_lem : (s : List ℕ) (p : ℕ) → Holds (AcceptedUnder l) (from_tables l s p)
  unfolding from_tables from_kind from_changed from_widths
  from_tables_lem s p =
      then_holds (Between 1 (up_to l.tables)) (AcceptedUnder l) (byte s 4 1 (up_to l.tables) p) _ (byte_holds s 4 1 (up_to l.tables) p) λ tables p few.
      then_holds (Between 1 (up_to 3)) (AcceptedUnder l) (byte s 4 1 (up_to 3) p) _ (byte_holds s 4 1 (up_to 3) p) λ kind p k.
      then_holds (Between 0 tables) (AcceptedUnder l) (byte s 4 0 tables p) _ (byte_holds s 4 0 tables p) λ t p below.
      then_holds (λ ws. Widths ws × (length ws ≡ tables)) (AcceptedUnder l) (many (width_at l.columns s) tables [] p) _
      (many_holds (width_at l.columns s) Widths tables (λ ws p b h. width_holds s ws p h) tables [] p (omega arith) no_table) λ ws p h.
      from_columns_lem s kind t tables ws (record { few = omega (arith, few.1); changed = below.1; widths = h.0; count = h.1 }) p

  pub read_holds : (s : List ℕ) → Holds (AcceptedUnder l) (read_under l s)
  unfolding read_under from_version
  read_holds s =
      cond_holds (AcceptedUnder l) (leb 3 (length s)) _ _
      (λ e. cond_holds (AcceptedUnder l) (marked s) _ _
      (λ e. cond_holds (AcceptedUnder l) (leb 5 (length s)) _ _
      (λ e. cond_holds (AcceptedUnder l) (versioned (version_in s)) _ _ (λ e. from_tables_lem s 5) (λ e. tt))
      (λ e. tt))
      (λ e. tt))
      (λ e. tt)

  -- a question that was read is as FORMAT 1 to 3 says a question is
  pub accepted_under : (s : List ℕ) (q : Question) → read_under l s ≡ good q → AcceptedUnder l q
  accepted_under s q e = subst (Holds (AcceptedUnder l)) e (read_holds s)

pub accepted : (s : List ℕ) (q : Question) → read_of s ≡ good q → Accepted q
accepted s q e = accepted_under limits s q e
