-- The question that a declared one means: its columns, its changed table, its visible columns.
use mathlib.Core.Path.{◌≡◌, refl, sym, ap, ap₂, ◌∙◌}
use mathlib.Core.Bool.{Bool, true, false, ◌||◌}
use mathlib.Core.List.{List, [], ◌∷◌, map}
use Prim.Native.Nat.{ℕ, zero, suc, ◌+◌, ◌≤◌, ◌<◌}
use native.Mathlib.Omega.{arith}
use borrow.Author.Tests.{eq-eqb, ne_eqb}
use lib.ListN.{length, get_or, take, drop, length-map, get_or-map}
use lib.Seq.{get_or-take, length-take-le}
use Rattle.page_meaning.specs.Contents.{Range, columns, first}
use Rattle.page_questions.specs.Layout.{total, visible_from, question_from}
use Rattle.page_questions.specs.Layout as L
use Rattle.page_questions.proofs.Layouts.{width_there, table_length, columns_from, first_from}
use Rattle.question.specs.Held.{column_of, ranges_of, widths_of, question_with, question_of, ShapeHeld}
use Rattle.question.specs.Held as H
use Rattle.question.specs.declared.types.Change.{Change}
use Rattle.question.specs.declared.types.Column.{Column}
use Rattle.question.specs.declared.types.Condition.{Condition}
use Rattle.question.specs.declared.types.Question.{Question}
use Rattle.question.specs.declared.types.Shape.{Shape}
use Rattle.question.specs.declared.types.Version.{Version}
use Rattle.page_formulas.specs.Formulas.{among}
use Rattle.sights.specs.Sights.{no_range, Whole, no_column}

-- ---- its tables

-- where the changed table starts, in any question of this shape
pub first_with : (v : Version) (h : Shape) (cs : List Column) (d : Condition) (ch : Change) → ShapeHeld h → h.total ≤ length cs → first (question_with v h cs d ch) ≡ h.first
first_with v h cs d ch held l =
    let all : length (map column_of (take h.total cs)) ≡ total (widths_of h) = omega (arith, length-map (take h.total cs) column_of, length-take-le h.total cs l, held.total) in
    first_from (widths_of h) h.changed (map column_of (take h.total cs)) (width_there (widths_of h) h.changed (omega (arith, held.some_column, held.width))) all (H.version_of v) (H.condition_of d) (H.change_of h.width ch) ∙ sym held.first

-- its columns and its changed table, likewise
module _ (v : Version) (h : Shape) (cs : List Column) (d : Condition) (ch : Change) (held : ShapeHeld h) (l : h.total ≤ length cs) where
  inside : h.changed < length (widths_of h)
  inside = width_there (widths_of h) h.changed (omega (arith, held.some_column, held.width))

  whole : length (map column_of (take h.total cs)) ≡ total (widths_of h)
  whole = omega (arith, length-map (take h.total cs) column_of, length-take-le h.total cs l, held.total)

  pub columns_with : columns (question_with v h cs d ch) ≡ L.ranges_of (map column_of (take h.total cs))
  columns_with = columns_from (widths_of h) h.changed (map column_of (take h.total cs)) inside whole _ _ _

  pub changed_with : (question_with v h cs d ch).changed ≡ take h.width (drop h.first (L.ranges_of (map column_of (take h.total cs))))
  unfolding question_from
  changed_with = rw (held.width, held.first) refl

  pub changed_length_with : length (question_with v h cs d ch).changed ≡ h.width
  unfolding question_from
  changed_length_with = table_length (widths_of h) h.changed (map column_of (take h.total cs)) inside whole ∙ sym held.width

module _ (q : Question) (w : Whole q) where
  room : q.shape.total ≤ length q.columns
  room = omega (arith, w.long, w.held.shape.few_columns)

  pub ranges_length : length (ranges_of q) ≡ q.shape.total
  ranges_length = simp length-map (length-take-le q.shape.total q.columns room)

  pub columns_are : columns (question_of q) ≡ ranges_of q
  unfolding question_of
  columns_are = columns_with q.version q.shape q.columns q.condition q.change w.held.shape room

  pub columns_length : length (columns (question_of q)) ≡ q.shape.total
  columns_length = ap length columns_are ∙ ranges_length

  pub first_is : first (question_of q) ≡ q.shape.first
  unfolding question_of
  first_is = first_with q.version q.shape q.columns q.condition q.change w.held.shape room

  pub changed_is : (question_of q).changed ≡ take q.shape.width (drop q.shape.first (ranges_of q))
  unfolding question_of
  changed_is = changed_with q.version q.shape q.columns q.condition q.change w.held.shape room

  pub changed_length : length (question_of q).changed ≡ q.shape.width
  unfolding question_of
  changed_length = changed_length_with q.version q.shape q.columns q.condition q.change w.held.shape room

-- ---- the visible columns

-- a column before those listed is not among them
not_below : (cs : List L.Column) (k i : ℕ) → i < k → among (visible_from k cs) i ≡ false
unfolding among visible_from
not_below [] k i h = refl
not_below (c ∷ cs) k i h = go c.range c.shown (not_below cs (suc k) i (omega arith))
  where
    go : (g : Range) (b : Bool) → among (visible_from (suc k) cs) i ≡ false → among (visible_from k (record { range = g; shown = b } ∷ cs)) i ≡ false
    go g true e = ap₂ ◌||◌ (ne_eqb k i (λ x. absurd (omega arith))) e
    go g false e = e

-- those listed from number k on are the ones shown
among_shown : (cs : List L.Column) (k i j : ℕ) → j ≡ k + i → among (visible_from k cs) j ≡ get_or (map (λ c. c.shown) cs) i false
unfolding among visible_from
among_shown [] k i j e = refl
among_shown (c ∷ cs) k zero j e = go c.range c.shown (not_below cs (suc k) j (omega arith))
  where
    go : (g : Range) (b : Bool) → among (visible_from (suc k) cs) j ≡ false → among (visible_from k (record { range = g; shown = b } ∷ cs)) j ≡ b
    go g true d = ap (λ t. t || among (visible_from (suc k) cs) j) (eq-eqb k j (omega arith))
    go g false d = d
among_shown (c ∷ cs) k (suc i) j e = go c.range c.shown (among_shown cs (suc k) i j (omega arith))
  where
    go : (g : Range) (b : Bool) → among (visible_from (suc k) cs) j ≡ get_or (map (λ c. c.shown) cs) i false → among (visible_from k (record { range = g; shown = b } ∷ cs)) j ≡ get_or (map (λ c. c.shown) cs) i false
    go g true d = ap₂ ◌||◌ (ne_eqb k j (λ x. absurd (omega arith))) d
    go g false d = d

-- what a column ranges over
pub range_at_lem : (q : Question) (i : ℕ) → i < q.shape.total → get_or (ranges_of q) i no_range ≡ (column_of (get_or q.columns i no_column)).range
range_at_lem q i h =
    get_or-map (λ c. c.range) (H.columns_of q) i (column_of no_column)
    ∙ ap (λ c. c.range) (get_or-map column_of (take q.shape.total q.columns) i no_column ∙ ap column_of (get_or-take q.shape.total q.columns i no_column h))

pub visible_is : (q : Question) (i : ℕ) → i < q.shape.total → among (question_of q).visible i ≡ (get_or q.columns i no_column).visible
unfolding question_of question_from
visible_is q i h =
    among_shown (H.columns_of q) 0 i i (omega arith)
    ∙ get_or-map (λ c. c.shown) (H.columns_of q) i (column_of no_column)
    ∙ ap (λ c. c.shown) (get_or-map column_of (take q.shape.total q.columns) i no_column)
    ∙ ap (λ c. c.visible) (get_or-take q.shape.total q.columns i no_column h)

pub condition_is : (q : Question) → (question_of q).condition ≡ H.condition_of q.condition
unfolding question_of question_from
condition_is q = refl
