-- The loop over a row's values: the range that the code looks up is the one that the definition means.
use Rattle.std.specs.Prelude.{ℕ, List, ◌≡◌, ◌≤◌, map, take, length, Result}
use mathlib.Core.Bool.{false}
use mathlib.Core.Path.{sym, ap, ◌∙◌}
use lib.ListN.{get_or, length-map, get_or-map}
use lib.Seq.{length-take-le}
use lib.IntN.{ℤ, pos}
use Rattle.page_meaning.specs.Contents.{Range}
use Rattle.page_questions.specs.Layout as L
use Rattle.page_questions.specs.Reader.{int, value_at}
use Rattle.question.specs.Held.{column_of}
use Rattle.question.specs.declared.types.Column.{Column}
use Rattle.refusal.specs.declared.Refusal.{Refusal}
use Rattle.fields.specs.Steps.{Steps}
use Rattle.fields.specs.declared.cursor.Cursor.{Cursor}
use Rattle.changes.specs.Changes.{ranges_in}

-- what stands past the end of an array of columns, as the machine has it
abbrev pub no_column : Column
no_column = record { lo = pos 0; hi = pos 0; visible = false }

abbrev no_range : Range
no_range = record { lo = pos 0; hi = pos 0 }

range_of : (cs : List Column) (i : ℕ) → get_or (ranges_in cs) i no_range ≡ (column_of (get_or cs i no_column)).range
range_of cs i =
    get_or-map (λ (c : L.Column). c.range) (map column_of cs) i (column_of no_column)
    ∙ ap (λ (c : L.Column). c.range) (get_or-map column_of cs i no_column)

-- the field that the code reads as value i
pub value_read : {A : Type 0} {f : A → ℤ} {old new : Cursor} {r : Result A Refusal} (cs : List Column) (i : ℕ) (vs : List ℤ) → i ≤ length vs
    → Steps f (λ s q. int s 5 (get_or cs i no_column).lo (get_or cs i no_column).hi q) old r new
    → Steps f (λ s q. value_at s (ranges_in cs) (map (λ (v : ℤ). v) (take i vs)) q) old r new
value_read {old = old} cs i vs fit t =
    let s = old.bytes.now in
    let k : length (map (λ (v : ℤ). v) (take i vs)) ≡ i = length-map (take i vs) (λ (v : ℤ). v) ∙ length-take-le i vs fit in
    record {
      same = t.same;
      meaning =
          t.meaning
          ∙ sym (ap (λ (g : Range). int s 5 g.lo g.hi old.at) (range_of cs i))
          ∙ ap (λ (k : ℕ). int s 5 (get_or (ranges_in cs) k no_range).lo (get_or (ranges_in cs) k no_range).hi old.at) (sym k);
    }
