-- Is a column visible? What the search over the array finds.
use Rattle.std.specs.Prelude.{ℕ, suc, ◌≡◌, Bool, true, false, List, [], ◌∷◌, map}
use Rattle.std.specs.List.{list_any}
use mathlib.Core.Path.{refl}
use Rattle.page_questions.specs.Layout.{visible_from}
use Rattle.question.specs.Held.{column_of}
use Rattle.question.specs.declared.types.Column.{Column}
use Rattle.tables.specs.Shapes.{some}

-- by the first column's byte
shown_first : (k : ℕ) (c : Column) (cs : List Column) (b : Bool) → c.visible ≡ b → list_any (λ (c : Column). c.visible) cs ≡ some (visible_from (suc k) (map column_of cs))
    → list_any (λ (c : Column). c.visible) (c ∷ cs) ≡ some (visible_from k (map column_of (c ∷ cs)))
unfolding visible_from
shown_first k c cs true e h = rw e refl
shown_first k c cs false e h = rw e h

pub some_shown : (k : ℕ) (cs : List Column) → list_any (λ (c : Column). c.visible) cs ≡ some (visible_from k (map column_of cs))
unfolding visible_from
some_shown k [] = refl
some_shown k (c ∷ cs) = shown_first k c cs c.visible refl (some_shown (suc k) cs)
