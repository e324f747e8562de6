-- From the head to the end: what the fields that were read make of the rest.
use Rattle.std.specs.Prelude.{ℕ, zero, suc, ◌+◌, ◌-◌, ◌≤◌, ◌<◌, ◌≡◌, Bool, true, false, cond, leb, length, List, [], ◌∷◌, map, take, drop, get_or, Result, Ok, Err}
use Rattle.std.specs.Result.{IsErrAnd}
use Rattle.std.proofs.lemmas.Result.{err_from_is_err_and}
use mathlib.Core.Path.{refl, sym, ap, subst, ◌∙◌}
use native.Mathlib.Omega.{arith}
use lib.Seq.{take-take, length-take-le}
use lib.ListN.{length-drop}
use Rattle.std.proofs.lemmas.List.{take-map, drop-map}
use Rattle.page_numbers.specs.Outcome.{Outcome, good, refused}
use borrow.Author.Tests.{lt-ltb, le-ltb}
use Rattle.page_meaning.specs.Contents as M
use Rattle.page_meaning.specs.Contents.{Version}
use Rattle.page_questions.specs.Guarantees.{Accepted}
use Rattle.page_questions.proofs.Steps.{not_both}
use Rattle.page_questions.proofs.Invariants.{Holds}
use Rattle.page_questions.proofs.Guarantees.{from_tables_lem}
use Rattle.page_meaning.specs.Limits.{limits, most_tables, most_columns}
use Rattle.page_questions.specs.Layout as L
use Rattle.page_questions.specs.Reader as Reader
use Rattle.page_questions.specs.Reader.{Read, up_to, byte, many, width_at, column_at, condition_at, change_at, ending, from_change, from_condition, from_visible, from_columns, from_widths, from_changed, from_kind, from_tables, from_version, read_under, read_of, marked, versioned, version_in}
use Rattle.refusal.specs.Outcomes.{outcome_of}
use Rattle.refusal.specs.declared.Refusal.{Refusal}
use Rattle.question.specs.Held.{Reads, ShapeHeld, meant, version_of, question_with, verb_number, widths_of, column_of, condition_of, change_of}
use Rattle.question.specs.Parts.{ranges_at}
use Rattle.question.specs.declared.types.Column.{Column}
use Rattle.question.specs.declared.types.Condition.{Condition}
use Rattle.question.specs.declared.types.Change.{Change}
use Rattle.question.specs.declared.types.Shape.{Shape}
use Rattle.question.specs.declared.types.Verb.{Verb}
use Rattle.question.specs.declared.types.Version as types
use Rattle.question.specs.declared.types.Question.{Question}
use Rattle.fields.specs.Steps.{Steps}
use Rattle.fields.specs.declared.cursor.Cursor.{Cursor}
use Rattle.fields.proofs.Chain.{Ends, ends_after}
use Rattle.changes.specs.Changes.{ranges_in}
use Rattle.tables.specs.Shapes.{some}
use Rattle.reader.specs.Head.{version_at, head}

-- what was refused
pub reads_refused : {r : Result Question Refusal} (e : Refusal) {o : Read} → IsErrAnd r (λ d. d ≡ e) → meant (Err e) ≡ o → Reads r o
reads_refused {r = r} e h m = let p = err_from_is_err_and r h in rw (p.1, p.2) (record { meaning = m; held = tt })

-- ---- the changed table's ranges

map_take : {A B : Type 0} (g : A → B) (n : ℕ) (l : List A) → map g (take n l) ≡ take n (map g l)
map_take g zero l = refl
map_take g (suc n) [] = refl
map_take g (suc n) (a ∷ l) = ap (λ t. g a ∷ t) (map_take g n l)

-- a window of the first n elements is a window of the whole
window : {A : Type 0} (width first n : ℕ) (l : List A) → first + width ≤ n → take width (drop first (take n l)) ≡ take width (drop first l)
window width zero n l h = take-take width n l (omega arith)
window width (suc first) zero l h = absurd (omega arith)
window width (suc first) (suc n) [] h = refl
window width (suc first) (suc n) (a ∷ l) h = window width first n l (omega arith)

-- the changed table's columns, cut out as the code does
module _ (h : Shape) (columns : List Column) (l : h.first + h.width ≤ length columns) where
  as_many : (h.first + h.width) - h.first ≡ h.width
  as_many = omega arith

  cut_length : length (take ((h.first + h.width) - h.first) (drop h.first columns)) ≡ h.width
  cut_length = rw as_many (length-take-le h.width (drop h.first columns) (simp length-drop (omega arith)))

  cut_ranges : ranges_in (take ((h.first + h.width) - h.first) (drop h.first columns)) ≡ ranges_at columns h.first h.width
  cut_ranges = simp (as_many, take-map, drop-map)

  pub cut_change : (kind : ℕ) {at new : Cursor} {c : Result Change Refusal}
      → Steps (change_of (length (take ((h.first + h.width) - h.first) (drop h.first columns)))) (λ s p. change_at s kind h.first (ranges_in (take ((h.first + h.width) - h.first) (drop h.first columns))) p) at c new
      → Steps (change_of h.width) (λ s p. change_at s kind h.first (ranges_at columns h.first h.width) p) at c new
  cut_change kind t = simp (cut_length, cut_ranges) at t

module _ (h : Shape) (held : ShapeHeld h) (columns : List Column) where
  table_is : L.table_of (widths_of h) h.changed (L.ranges_of (map column_of (take h.total columns))) ≡ ranges_at columns h.first h.width
  table_is =
      rw (sym held.width, sym held.first, map_take column_of h.total columns)
      (rw (map_take (λ (c : L.Column). c.range) h.total (map column_of columns))
      (window h.width h.first h.total (L.ranges_of (map column_of columns)) held.inside))

  pub change_field : (s : List ℕ) (kind p : ℕ)
      → change_at s kind h.first (ranges_at columns h.first h.width) p
      ≡ change_at s kind (L.first_of (widths_of h) h.changed) (L.table_of (widths_of h) h.changed (L.ranges_of (map column_of (take h.total columns)))) p
  change_field s kind p =
      ap (λ gs. change_at s kind h.first gs p) (sym table_is)
      ∙ ap (λ f. change_at s kind f (L.table_of (widths_of h) h.changed (L.ranges_of (map column_of (take h.total columns)))) p) held.first

-- ---- none visible

module _ (s : List ℕ) (kind changed : ℕ) (ws : List ℕ) (cs : List L.Column) (p : ℕ) where
  pub when_seen : (l : List ℕ) → L.visible_from 0 cs ≡ l → some l ≡ true → from_condition s kind changed ws cs p ≡ from_visible s kind changed ws cs p
  unfolding from_visible
  when_seen [] e h = absurd (cc)
  when_seen (i ∷ is) e h = rw e refl

  pub when_unseen : (l : List ℕ) → L.visible_from 0 cs ≡ l → some l ≡ false → refused 8 p ≡ from_visible s kind changed ws cs p
  unfolding from_visible
  when_unseen [] e h = rw e refl
  when_unseen (i ∷ is) e h = absurd (cc)

-- ---- the mark and the version

-- two tests before t: are the bytes there, and are they right? Both refuse at p.
abbrev tested : {A : Type 0} → ℕ → ℕ → Bool → Bool → Outcome A → Outcome A
tested n p a b t = cond a (cond b t (refused n p)) (refused 1 p)

tested_good : (n p : ℕ) (a b : Bool) (x : Version) (v : Outcome Version) (t : Read) → good x ≡ tested n p a b v → (tested n p a b t ≡ t) × (good x ≡ v)
tested_good n p true true x v t e = (refl, e)
tested_good n p true false x v t e = absurd (not_both e)
tested_good n p false b x v t e = absurd (not_both e)

tested_refused : (n p : ℕ) (a b : Bool) (m q : ℕ) (v : Outcome Version) (t : Read) → (refused m q ≡ v → refused m q ≡ t) → refused m q ≡ tested n p a b v → refused m q ≡ tested n p a b t
tested_refused n p true true m q v t f e = f e
tested_refused n p true false m q v t f e = cc
tested_refused n p false b m q v t f e = cc

pub version_refused : (s : List ℕ) (n p : ℕ) → refused n p ≡ version_at s → refused n p ≡ from_version limits s
unfolding version_at from_version
version_refused s n p e = tested_refused 3 3 (leb 5 (length s)) (versioned (version_in s)) n p _ (from_tables limits s 5) (λ r. absurd (not_both (sym r))) e

pub version_good : (s : List ℕ) (v : Version) → good v ≡ version_at s → (from_version limits s ≡ from_tables limits s 5) × (v ≡ L.version_by (get_or s 3 0))
unfolding version_at from_version
version_good s v e = let t = tested_good 3 3 (leb 5 (length s)) (versioned (version_in s)) v _ (from_tables limits s 5) e in
    let g : good v ≡ good (L.version_by (get_or s 3 0)) = t.1 in
    (t.0, cc)

pub head_refused : (s : List ℕ) (n p : ℕ) → refused n p ≡ head s → refused n p ≡ read_of s
unfolding head version_at read_under
head_refused s n p e = tested_refused 2 0 (leb 3 (length s)) (marked s) n p (version_at s) (from_version limits s) (version_refused s n p) e

pub head_good : (s : List ℕ) (v : Version) → good v ≡ head s → (read_of s ≡ from_tables limits s 5) × (v ≡ L.version_by (get_or s 3 0))
unfolding head version_at read_under
head_good s v e = let t = tested_good 2 0 (leb 3 (length s)) (marked s) v (version_at s) (from_version limits s) e in
    let w = version_good s v t.1 in
    (t.0 ∙ w.0, w.1)

module _ {s : List ℕ} {v : Version} {at : Cursor} {A : Type 0} (g : A → M.Question) {r : Result A Refusal} where
  -- the answer, from the fields that follow the version
  pub after_version : good v ≡ version_at s → at.bytes.now ≡ s → at.at ≡ 5 → Ends g (λ s p. from_tables limits s p) at r → outcome_of g r ≡ from_version limits s
  after_version h b p t = t.answer ∙ rw (b, p) (sym (version_good s v h).0)

  -- and with the mark before it
  pub after_head : good v ≡ head s → at.bytes.now ≡ s → at.at ≡ 5 → Ends g (λ s p. from_tables limits s p) at r → outcome_of g r ≡ read_of s
  after_head h b p t = t.answer ∙ rw (b, p) (sym (head_good s v h).0)

-- what the fields give is accepted, and so is what stands from the version on
pub version_accepted : (s : List ℕ) (v : Version) (q : M.Question) → good v ≡ version_at s → from_version limits s ≡ good q → Accepted q
version_accepted s v q h e = subst (Holds Accepted) (sym (version_good s v h).0 ∙ e) (from_tables_lem limits s 5)

-- ---- the fields, one after another

module _ (shape : Shape) {A : Type 0} {g : A → M.Question} {r : Result A Refusal} where
  -- up to the last width
  pub from_front : {at kind_at changed_at widths_at columns_at : Cursor} {tables changed : ℕ} {verb : Verb} {widths : List ℕ}
      → Steps (λ x. x) (λ s p. byte s 4 1 (up_to most_tables) p) at (Ok tables) kind_at
      → Steps verb_number (λ s p. byte s 4 1 4 p) kind_at (Ok verb) changed_at
      → Steps (λ x. x) (λ s p. byte s 4 0 tables p) changed_at (Ok changed) widths_at
      → Steps (λ ws. take tables ws) (λ s p. many (width_at most_columns s) tables [] p) widths_at (Ok widths) columns_at
      → widths_of shape ≡ take tables widths → shape.changed ≡ changed
      → Ends g (λ s q. from_columns s (verb_number verb) shape.changed (widths_of shape) q) columns_at r
      → Ends g (λ s p. from_tables limits s p) at r
  unfolding from_tables from_kind from_changed from_widths
  from_front t v c w same changed_is rest = ends_after _ t (ends_after _ v (ends_after _ c (ends_after _ w (rw (← changed_is, ← same) rest))))

  -- the test after the last column
  module _ (kind : ℕ) (columns : List Column) {at : Cursor} where
    pub from_hidden : some (L.visible_from 0 (map column_of (take shape.total columns))) ≡ false → outcome_of g r ≡ refused 8 at.at
        → Ends g (λ s q. from_visible s kind shape.changed (widths_of shape) (map column_of (take shape.total columns)) q) at r
    from_hidden e t = record { answer = t ∙ when_unseen _ _ _ _ _ _ _ refl e }

    pub from_shown : some (L.visible_from 0 (map column_of (take shape.total columns))) ≡ true
        → Ends g (λ s q. from_condition s kind shape.changed (widths_of shape) (map column_of (take shape.total columns)) q) at r
        → Ends g (λ s q. from_visible s kind shape.changed (widths_of shape) (map column_of (take shape.total columns)) q) at r
    from_shown e t = record { answer = t.answer ∙ when_seen _ _ _ _ _ _ _ refl e }

-- the shape's own numbers are those of the definition
module _ (shape : Shape) (held : ShapeHeld shape) {at new : Cursor} where
  pub with_columns : {cs : Result (List Column) Refusal} → Steps (λ cs. map column_of (take shape.total cs)) (λ s p. many (λ cs q. column_at s q) shape.total [] p) at cs new
      → Steps (λ cs. map column_of (take shape.total cs)) (λ s p. many (λ cs q. column_at s q) (L.total (widths_of shape)) [] p) at cs new
  with_columns s = record { same = s.same; meaning = s.meaning ∙ ap (λ k. many (λ cs q. column_at at.bytes.now q) k [] at.at) held.total }

  pub with_condition : {c : Result Condition Refusal} → Steps condition_of (λ s p. condition_at s 0 shape.total p) at c new
      → Steps condition_of (λ s p. condition_at s 0 (L.total (widths_of shape)) p) at c new
  with_condition s = record { same = s.same; meaning = s.meaning ∙ ap (λ k. condition_at at.bytes.now 0 k at.at) held.total }

  pub with_change : (kind : ℕ) (columns : List Column) {c : Result Change Refusal}
      → Steps (change_of shape.width) (λ s p. change_at s kind shape.first (ranges_at columns shape.first shape.width) p) at c new
      → Steps (change_of shape.width) (λ s p. change_at s kind (L.first_of (widths_of shape) shape.changed) (L.table_of (widths_of shape) shape.changed (L.ranges_of (map column_of (take shape.total columns)))) p) at c new
  with_change kind columns s = record { same = s.same; meaning = s.meaning ∙ change_field shape held columns at.bytes.now kind at.at }

-- up to the change
module _ (shape : Shape) (held : ShapeHeld shape) (columns : List Column) {A : Type 0} {g : A → M.Question} {r : Result A Refusal} where
  pub from_fields : {at kind_at changed_at widths_at columns_at condition_at change_at end_at : Cursor} {tables changed : ℕ} {verb : Verb} {widths : List ℕ} {condition : Condition} {change : Change}
      → Steps (λ x. x) (λ s p. byte s 4 1 (up_to most_tables) p) at (Ok tables) kind_at
      → Steps verb_number (λ s p. byte s 4 1 4 p) kind_at (Ok verb) changed_at
      → Steps (λ x. x) (λ s p. byte s 4 0 tables p) changed_at (Ok changed) widths_at
      → Steps (λ ws. take tables ws) (λ s p. many (width_at most_columns s) tables [] p) widths_at (Ok widths) columns_at
      → widths_of shape ≡ take tables widths → shape.changed ≡ changed
      → Steps (λ cs. map column_of (take shape.total cs)) (λ s p. many (λ cs q. column_at s q) shape.total [] p) columns_at (Ok columns) condition_at
      → some (L.visible_from 0 (map column_of (take shape.total columns))) ≡ true
      → Steps condition_of (λ s p. Reader.condition_at s 0 shape.total p) condition_at (Ok condition) change_at
      → Steps (change_of shape.width) (λ s p. Reader.change_at s (verb_number verb) shape.first (ranges_at columns shape.first shape.width) p) change_at (Ok change) end_at
      → Ends g (λ s p. ending s (L.question_from (L.version_by (get_or s 3 0)) (widths_of shape) shape.changed (map column_of (take shape.total columns)) (condition_of condition) (change_of shape.width change)) p) end_at r
      → Ends g (λ s p. from_tables limits s p) at r
  unfolding from_columns from_condition from_change
  from_fields {verb = verb} t v c w same changed_is cs seen d ch rest =
      from_front shape t v c w same changed_is
      (ends_after _ (with_columns shape held cs)
      (from_shown shape (verb_number verb) columns seen
      (ends_after _ (with_condition shape held d)
      (ends_after _ (with_change shape held (verb_number verb) columns ch) rest))))

-- the end
module _ {at : Cursor} {A : Type 0} {g : A → M.Question} where
  pub from_more : (m : List ℕ → M.Question) {r : Result A Refusal} → at.at < length at.bytes.now → outcome_of g r ≡ refused 9 at.at → Ends g (λ s p. ending s (m s) p) at r
  unfolding ending
  from_more m l t = record { answer = rw (lt-ltb _ _ l) t }

  pub from_end : {s : List ℕ} (v : types.Version) (h : Shape) (cs : List Column) (c : Condition) (ch : Change) {a : A} → g a ≡ question_with v h cs c ch → version_of v ≡ L.version_by (get_or s 3 0) → at.bytes.now ≡ s → length at.bytes.now ≤ at.at
      → Ends g (λ s p. ending s (L.question_from (L.version_by (get_or s 3 0)) (widths_of h) h.changed (map column_of (take h.total cs)) (condition_of c) (change_of h.width ch)) p) at (Ok a)
  unfolding ending
  from_end v h cs c ch e o b l = record { answer = rw (le-ltb _ _ l, b, e, ← o) refl }
