-- The ranges of a question's vertices are those of its formulas.
use mathlib.Core.Path.{◌≡◌, refl, sym, ap, ap₂, ◌∙◌}
use mathlib.Core.Bool.{Bool, true, false, not, cond}
use mathlib.Core.Option.{none, some}
use mathlib.Core.List.{List, [], ◌∷◌, ◌++◌, map}
use Prim.Native.Nat.{ℕ, suc, ◌+◌, ◌<◌}
use native.Mathlib.Omega.{arith}
use lib.ListN.{length, get_or, take}
use lib.Seq.{get_or-take, length-take-le}
use Rattle.page_meaning.specs.Contents.{Range, columns}
use Rattle.question.specs.Held.{column_of, question_of}
use Rattle.question.specs.declared.types.Question.{Question}
use Rattle.question.specs.declared.types.Column.{Column}
use Rattle.page_formulas.specs.Formulas.{among, first_ranges, hidden_ranges, both_ranges}
use Rattle.program.specs.Compiled.{range_if}
use Rattle.sights.specs.Sights.{no_column, Whole}
use Rattle.vertices.specs.Rows.{row_ranges, ranges_by}
use Rattle.sights.proofs.Shapes.{columns_are, visible_is}

-- ---- lists of columns

first_ranges_lem : (cs : List Column) → row_ranges false cs ≡ first_ranges (map (λ c. c.range) (map column_of cs))
first_ranges_lem [] = refl
first_ranges_lem (c ∷ cs) = ap (λ m. some (column_of c).range ∷ m) (first_ranges_lem cs)

turned : (b : Bool) (g : Range) → range_if (not b) g ≡ cond b none (some g)
turned true g = refl
turned false g = refl

hidden_ranges_lem : (vs : List ℕ) (k : ℕ) (cs : List Column) → ((i : ℕ) → i < length cs → among vs (k + i) ≡ (get_or cs i no_column).visible) → map (λ c. range_if (not c.visible) (column_of c).range) cs ≡ hidden_ranges vs k (map (λ c. c.range) (map column_of cs))
unfolding hidden_ranges
hidden_ranges_lem vs k [] h = refl
hidden_ranges_lem vs k (c ∷ cs) h =
    let g = (column_of c).range in
    ap₂ ◌∷◌
    (turned c.visible g ∙ ap (λ b. cond b none (some g)) (sym (h 0 (omega arith)) ∙ ap (among vs) (omega arith)))
    (hidden_ranges_lem vs (suc k) cs (λ i l. ap (among vs) (omega arith) ∙ h (suc i) (omega arith)))

-- ---- a question's vertices

module _ (q : Question) (w : Whole q) where
  hidden_same : row_ranges true (take q.shape.total q.columns) ≡ hidden_ranges (question_of q).visible 0 (columns (question_of q))
  hidden_same =
      hidden_ranges_lem (question_of q).visible 0 (take q.shape.total q.columns)
      (λ i h. let l : i < q.shape.total = omega (arith, length-take-le q.shape.total q.columns (omega (arith, w.long, w.held.shape.few_columns))) in ap (among (question_of q).visible) (omega arith) ∙ visible_is q i l ∙ ap (λ c. c.visible) (sym (get_or-take q.shape.total q.columns i no_column l)))
      ∙ ap (hidden_ranges (question_of q).visible 0) (sym (columns_are q w))

  first_same : row_ranges false (take q.shape.total q.columns) ≡ first_ranges (columns (question_of q))
  first_same = first_ranges_lem (take q.shape.total q.columns) ∙ ap first_ranges (sym (columns_are q w))

  pub ranges_same : (pairs : Bool) → ranges_by pairs (take q.shape.total q.columns) ≡ cond pairs (both_ranges (question_of q)) (first_ranges (columns (question_of q)))
  ranges_same true = ap₂ ◌++◌ first_same hidden_same
  ranges_same false = first_same
