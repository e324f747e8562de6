-- Columns cut into tables of given widths, and side by side again.
use mathlib.Core.Path.{◌≡◌, refl, sym, ap, ap₂, subst, ◌∙◌}
use mathlib.Core.Bool.{Bool, true, false}
use mathlib.Core.List.{List, [], ◌∷◌, ◌++◌}
use Prim.Native.Nat.{ℕ, zero, suc, ◌+◌, ◌≤◌, ◌<◌}
use native.Mathlib.Omega.{arith}
use lib.ListN.{length, take, drop, length-drop, length-map}
use lib.Seq.{take-add, take_all, drop-drop, length-take-le}
use Rattle.page_meaning.specs.Condition.{Condition}
use Rattle.page_meaning.specs.Contents.{Range, Change, Version, columns, columns_of, first}
use Rattle.page_questions.specs.Layout.{Column, ranges_of, total, first_of, width_of, tables_of, table_of, visible_from, question_from}
use Rattle.page_questions.specs.Guarantees.{Every, Ascending}

pub side_by_side : (ws : List ℕ) (gs : List Range) → columns_of (tables_of ws gs) ≡ take (total ws) gs
unfolding tables_of total
side_by_side [] gs = refl
side_by_side (w ∷ ws) gs = ap (λ l. take w gs ++ l) (side_by_side ws (drop w gs)) ∙ sym (take-add w (total ws) gs)

pub tables_length : (ws : List ℕ) (gs : List Range) → length (tables_of ws gs) ≡ length ws
unfolding tables_of
tables_length [] gs = refl
tables_length (w ∷ ws) gs = ap suc (tables_length ws (drop w gs))

-- tables of at least one column, where there are columns enough
pub each_some : (ws : List ℕ) (gs : List Range) → Every (λ w. 1 ≤ w) ws → total ws ≤ length gs → Every (λ t. 1 ≤ length t) (tables_of ws gs)
unfolding tables_of total
each_some [] gs h l = tt
each_some (w ∷ ws) gs h l =
    (omega (arith, h.0, length-take-le w gs (omega arith)), each_some ws (drop w gs) h.1 (simp length-drop (omega arith)))

pub every_at : (ws : List ℕ) (t : ℕ) → t < length ws → Every (λ w. 1 ≤ w) ws → 1 ≤ width_of ws t
every_at [] t l h = absurd (omega arith)
every_at (w ∷ ws) zero l h = h.0
every_at (w ∷ ws) (suc t) l h = every_at ws t (omega arith) h.1

-- a table that has columns is there
pub width_there : (ws : List ℕ) (t : ℕ) → 1 ≤ width_of ws t → t < length ws
width_there [] t h = absurd (omega arith)
width_there (w ∷ ws) zero h = omega arith
width_there (w ∷ ws) (suc t) h = omega (arith, width_there ws t h)

pub every_take : {A : Type 0} (P : A → Type 0) (t : ℕ) (l : List A) → Every P l → Every P (take t l)
every_take P zero l h = tt
every_take P (suc t) [] h = tt
every_take P (suc t) (a ∷ l) h = (h.0, every_take P t l h.1)

pub every_drop : {A : Type 0} (P : A → Type 0) (t : ℕ) (l : List A) → Every P l → Every P (drop t l)
every_drop P zero l h = h
every_drop P (suc t) [] h = tt
every_drop P (suc t) (a ∷ l) h = every_drop P t l h.1

-- the columns before a table, its own and those after it
pub total_split : (ws : List ℕ) (t : ℕ) → t < length ws → total ws ≡ first_of ws t + (width_of ws t + total (drop (suc t) ws))
unfolding total
total_split [] t h = absurd (omega arith)
total_split (w ∷ ws) zero h = omega arith
total_split (w ∷ ws) (suc t) h = omega (arith, total_split ws t (omega arith))

three_parts : (a b c : ℕ) (gs : List Range) → a + (b + c) ≡ length gs → take a gs ++ (take b (drop a gs) ++ take c (drop (a + b) gs)) ≡ gs
three_parts a b c gs e =
    ap (λ l. take a gs ++ (take b (drop a gs) ++ take c l)) (sym (drop-drop b a gs))
    ∙ ap (λ l. take a gs ++ l) (sym (take-add b c (drop a gs)))
    ∙ sym (take-add a (b + c) gs)
    ∙ take_all (a + (b + c)) gs (omega arith)

-- a question from its parts, with as many columns as its tables' widths say
module _ (ws : List ℕ) (t : ℕ) (cs : List Column) (inside : t < length ws) (whole : length cs ≡ total ws) where
  splits : first_of ws t + (width_of ws t + total (drop (suc t) ws)) ≡ length (ranges_of cs)
  splits = omega (arith, total_split ws t inside, length-map cs (λ c. c.range))

  pub table_length : length (table_of ws t (ranges_of cs)) ≡ width_of ws t
  table_length = length-take-le (width_of ws t) (drop (first_of ws t) (ranges_of cs)) (simp length-drop (omega (arith, splits)))

  module _ (v : Version) (c : Condition) (ch : Change) where
    pub columns_from : columns (question_from v ws t cs c ch) ≡ ranges_of cs
    unfolding question_from
    columns_from =
        let gs = ranges_of cs in
        ap₂ (λ l r. l ++ (table_of ws t gs ++ r)) (side_by_side (take t ws) gs) (side_by_side (drop (suc t) ws) (drop (first_of ws t + width_of ws t) gs))
        ∙ three_parts (first_of ws t) (width_of ws t) (total (drop (suc t) ws)) gs splits

    pub columns_count : length (columns (question_from v ws t cs c ch)) ≡ total ws
    columns_count = ap length columns_from ∙ length-map cs (λ c. c.range) ∙ whole

    pub first_from : first (question_from v ws t cs c ch) ≡ first_of ws t
    unfolding question_from
    first_from = ap length (side_by_side (take t ws) (ranges_of cs)) ∙ length-take-le (first_of ws t) (ranges_of cs) (omega (arith, splits))

-- the visible columns come in order
later : (low high : ℕ) (is : List ℕ) → Ascending (suc low) high is → Ascending low high is
later low high [] h = tt
later low high (i ∷ is) h = (omega (arith, h.0), h.1, h.2)

pub ascending : (k : ℕ) (cs : List Column) → Ascending k (k + length cs) (visible_from k cs)
unfolding visible_from
ascending k [] = tt
ascending k (c ∷ cs) =
    go c.range c.shown (subst (λ n. Ascending (suc k) n (visible_from (suc k) cs)) (omega arith) (ascending (suc k) cs))
  where
    go : (g : Range) (b : Bool) → Ascending (suc k) (k + length (c ∷ cs)) (visible_from (suc k) cs)
        → Ascending k (k + length (c ∷ cs)) (visible_from k (record { range = g; shown = b } ∷ cs))
    go g true h = (omega arith, omega arith, h)
    go g false h = later k (k + length (c ∷ cs)) (visible_from (suc k) cs) h
