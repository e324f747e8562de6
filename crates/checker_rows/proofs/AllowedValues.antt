-- The inserted value that a column must have, as the declared question holds it; and a column's range.
use Prim.Native.Nat.{ℕ, ◌<◌}
use mathlib.Core.Path.{◌≡◌, sym, ap, ◌∙◌}
use mathlib.Core.Bool.{Bool, true, false, ◌&&◌}
use lib.ListN.{get_or, take, get_or-map}
use lib.Seq.{get_or-take}
use lib.IntN.{ℤ}
use Rattle.page_meaning.specs.Contents.{in_range}
use Rattle.question.specs.Held.{question_of, column_of}
use Rattle.question.specs.Held as H
use Rattle.question.specs.declared.types.Question.{Question}
use Rattle.sights.specs.Sights.{no_column, Whole}
use Rattle.sights.proofs.Shapes.{columns_are}
use Rattle.page_sheets.specs.Rows.{in_column}

-- a column's range
module _ (q : Question) (w : Whole q) (c : ℕ) where
  pub in_column_lem : c < q.shape.total → (z : ℤ) → in_range (column_of (get_or q.columns c no_column)).range z ≡ in_column (question_of q) c z
  in_column_lem h z = ap (λ g. in_range g z) (sym (ap (λ l. get_or l c (column_of no_column).range) (columns_are q w) ∙ get_or-map (λ k. k.range) (H.columns_of q) c (column_of no_column) ∙ ap (λ k. k.range) (get_or-map column_of (take q.shape.total q.columns) c no_column ∙ ap column_of (get_or-take q.shape.total q.columns c no_column h))))

-- ---- tests joined

pub and_so : (a b : Bool) → a ≡ true → b ≡ (a && b)
and_so a b e = rw e

pub and_not : (a b : Bool) → a ≡ false → false ≡ (a && b)
and_not a b e = rw e
