-- How many formulas a question has.
use mathlib.Core.Path.{◌≡◌, refl, sym, ap, ◌∙◌}
use mathlib.Core.Bool.{Bool, true, false}
use mathlib.Core.List.{List, [], ◌∷◌, map}
use Prim.Native.Nat.{ℕ, suc, ◌+◌, ◌<◌}
use native.Mathlib.Omega.{arith}
use lib.Dec.{eqb}
use borrow.Author.Tests.{eq-eqb, ne_eqb}
use lib.ListN.{length, take, drop, length-map, length-drop}
use lib.Seq.{length-take-le}
use Rattle.page_meaning.specs.Contents.{Range, Table}
use Rattle.page_meaning.specs.Contents as M
use Rattle.page_meaning.specs.Claims.{insertion, modification, unless_alone}
use Rattle.page_questions.specs.Layout.{tables_of, first_of, width_of, question_from}
use Rattle.page_questions.specs.Layout as L
use Rattle.question.specs.Held.{version_of, row_of, widths_of, column_of, condition_of, change_by, question_with, ShapeHeld}
use Rattle.question.specs.declared.types.Change.{Change}
use Rattle.question.specs.declared.types.Column.{Column}
use Rattle.question.specs.declared.types.Condition.{Condition}
use Rattle.question.specs.declared.types.Shape.{Shape}
use Rattle.question.specs.declared.types.Verb.{Verb}
use Rattle.question.specs.declared.types.Verb.TheVariants.{Insert, Delete, Modify}
use Rattle.question.specs.declared.types.Version.{Version}
use Rattle.page_formulas.specs.Formulas as F
use Rattle.page_questions.proofs.Layouts.{width_there}
use Rattle.formula.proofs.NumberedFormulas.{lists, asked_are}

tables_length : (ws : List ℕ) (gs : List Range) → length (tables_of ws gs) ≡ length ws
unfolding tables_of
tables_length [] gs = refl
tables_length (w ∷ ws) gs = ap suc (tables_length ws (drop w gs))

alone : (ts us : List Table) (l : List F.Formula) → length ts + length us ≡ 0 → unless_alone ts us l ≡ []
alone [] [] l e = refl
alone [] (u ∷ us) l e = absurd (omega arith)
alone (t ∷ ts) us l e = absurd (omega arith)

together : (ts us : List Table) (l : List F.Formula) → 0 < length ts + length us → unless_alone ts us l ≡ l
together [] [] l h = absurd (omega arith)
together [] (u ∷ us) l h = refl
together (t ∷ ts) us l h = refl

-- the formulas of a question by its parts
module _ (v : Version) (h : Shape) (cs : List Column) (d : Condition) (ch : Change) where
  abbrev Q : M.Question
  Q = question_with v h cs d ch

  by_verb : (asked : ℕ) (w : Verb) → ch.verb ≡ w → F.formulas Q asked ≡ lists Q (change_by w h.width ch) (eqb asked 1)
  unfolding question_from
  by_verb asked w e = asked_are Q Q.change (eqb asked 1) ∙ ap (λ w. lists Q (change_by w h.width ch) (eqb asked 1)) e

  -- ---- an insert

  abbrev new_rows : List M.Values
  new_rows = map (row_of h.width) (take ch.count ch.rows)

  abbrev puts : List F.Formula
  puts = map (λ n. F.formula Q [] (map M.become n) insertion) new_rows

  listed_length : length puts ≡ length (take ch.count ch.rows)
  listed_length = length-map new_rows (λ n. F.formula Q [] (map M.become n) insertion) ∙ length-map (take ch.count ch.rows) (row_of h.width)

  module _ (held : ShapeHeld h) where
    inside : h.changed < length (widths_of h)
    inside = width_there (widths_of h) h.changed (omega (arith, held.some_column, held.width))

    others : length Q.front + length Q.back + 1 ≡ length (widths_of h)
    unfolding question_from
    others =
        let ws = widths_of h in
        let t = h.changed in
        let gs = L.ranges_of (map column_of (take h.total cs)) in
        omega (arith, inside, tables_length (take t ws) gs, tables_length (drop (suc t) ws) (drop (first_of ws t + width_of ws t) gs), length-take-le t ws (omega (arith, inside)), length-drop (suc t) ws)

    module _ (asked : ℕ) (e : ch.verb ≡ Insert) where
      as_asked : (b : Bool) → eqb asked 1 ≡ b → F.formulas Q asked ≡ lists Q (M.insert new_rows) b
      as_asked b k = by_verb asked Insert e ∙ ap (lists Q (M.insert new_rows)) k

      pub first_count : asked ≡ 1 → length (take ch.count ch.rows) ≡ length (F.formulas Q asked)
      first_count k = sym (ap length (as_asked true (eq-eqb asked 1 k)) ∙ listed_length)

      pub alone_count : (asked ≡ 1 → ⊥) → length (widths_of h) ≡ 1 → 0 ≡ length (F.formulas Q asked)
      alone_count k one = sym (ap length (as_asked false (ne_eqb asked 1 k) ∙ alone Q.front Q.back puts (omega (arith, others))))

      pub together_count : (asked ≡ 1 → ⊥) → (length (widths_of h) ≡ 1 → ⊥) → length (take ch.count ch.rows) ≡ length (F.formulas Q asked)
      together_count k many = sym (ap length (as_asked false (ne_eqb asked 1 k) ∙ together Q.front Q.back puts (omega (arith, inside, others, many))) ∙ listed_length)

  -- ---- a delete and a modify

  pub delete_count : (asked : ℕ) → ch.verb ≡ Delete → 1 ≡ length (F.formulas Q asked)
  delete_count asked e = go (eqb asked 1) ∙ sym (ap length (by_verb asked Delete e))
    where
      go : (b : Bool) → 1 ≡ length (lists Q (M.delete (condition_of ch.condition)) b)
      go true = refl
      go false = refl

  module _ (asked : ℕ) (e : ch.verb ≡ Modify) where
    counted : (b : Bool) → eqb asked 1 ≡ b → length (F.formulas Q asked) ≡ length (lists Q (change_by Modify h.width ch) b)
    counted b k = ap length (by_verb asked Modify e) ∙ ap (λ b. length (lists Q (change_by Modify h.width ch) b)) k

    pub modify_first : asked ≡ 1 → length (modification (version_of v) true) ≡ length (F.formulas Q asked)
    unfolding question_from
    modify_first k = sym (counted true (eq-eqb asked 1 k) ∙ length-map (modification Q.version true) _)

    pub modify_second : (asked ≡ 1 → ⊥) → 4 ≡ length (F.formulas Q asked)
    modify_second k = sym (counted false (ne_eqb asked 1 k))
