-- The values of a no sheet by the field, as code works them out.
use Prim.Native.Nat.{ℕ, zero, suc, ◌+◌, ◌≤◌, ◌<◌}
use mathlib.Core.Path.{◌≡◌, refl, sym, ap, ◌∙◌}
use mathlib.Core.Bool.{cond}
use mathlib.Core.Option.{Option, none, some}
use mathlib.Core.List.{[], ◌∷◌, ◌++◌, map}
use native.Mathlib.Omega.{arith}
use lib.ListN.{length, get_or, take, drop, replicate, length-append}
use lib.IntN.{ℤ}
use Rattle.page_meaning.specs.Contents.{Values, look, columns_of, Change, insert, delete, modify, Question, first}
use Rattle.page_formulas.specs.Formulas.{among, second_sight, row_of1, row_of2}
use Rattle.page_sheets.specs.Rows.{width, inserted_row, put_row, first_row, fixed, Wide, or_else}
use Rattle.page_sheets.proofs.Values.{look_tabulate, tabulate_length}
use Rattle.page_formulas.specs.Program as P

put_here : (new v : Values) (m : ℕ) → m ≡ length new → (j : ℕ) → look (new ++ drop m v) j ≡ or_else (get_or (map some new) j none) (look v j)
put_here [] v zero e j = refl
put_here [] v (suc m) e j = absurd (omega arith)
put_here (x ∷ new) v zero e j = absurd (omega arith)
put_here (x ∷ new) v (suc m) e zero = refl
put_here (x ∷ new) [] (suc m) e (suc j) = ap (λ l. look (new ++ l) j) (drops m) ∙ put_here new [] m (omega arith) j
  where
    drops : (m : ℕ) → ◌≡◌ {A = Values} [] (drop m [])
    drops zero = refl
    drops (suc m) = refl
put_here (x ∷ new) (y ∷ v) (suc m) e (suc j) = put_here new v m (omega arith) j

put_at : (n : ℕ) (new v : Values) (m : ℕ) → m ≡ length new → n ≤ length v → (j : ℕ) → look (take n v ++ (new ++ drop m (drop n v))) j ≡ or_else (get_or (replicate n none ++ map some new) j none) (look v j)
put_at zero new v m e h j = put_here new v m e j
put_at (suc n) new [] m e h j = absurd (omega arith)
put_at (suc n) new (y ∷ v) m e h zero = refl
put_at (suc n) new (y ∷ v) m e h (suc j) = put_at n new v m e (omega arith) j

-- column c of the first row
pub first_value : (q : Question) (i : ℕ) (x : P.Values) → Wide q q.change i → (c : ℕ) → c < width q → look (first_row q i x) c ≡ or_else (fixed q i c) (x (suc c))
unfolding fixed
first_value q i x w c h = go q.change w
  where
    plain : look (row_of1 q x) c ≡ x (suc c)
    plain = look_tabulate (width q) (λ j. x (suc j)) c h

    long : first q ≤ length (row_of1 q x)
    long = omega (arith, tabulate_length (width q) (λ j. x (suc j)), length-append (columns_of q.front) (q.changed ++ columns_of q.back))

    none_at : (n j : ℕ) → ◌≡◌ {A = Option ℤ} (get_or (replicate n none ++ []) j none) none
    none_at zero j = refl
    none_at (suc n) zero = refl
    none_at (suc n) (suc j) = none_at n j

    go : (ch : Change) → Wide q ch i → look (put_row q ch i (row_of1 q x)) c ≡ or_else (get_or (replicate (first q) none ++ map some (inserted_row ch i)) c none) (x (suc c))
    go (insert rows) w = put_at (first q) (get_or rows i []) (row_of1 q x) (length q.changed) (sym w) long c ∙ ap (or_else (get_or (replicate (first q) none ++ map some (get_or rows i [])) c none)) plain
    go (delete d) w = plain ∙ ap (λ o. or_else o (x (suc c))) (sym (none_at (first q) c))
    go (modify d ms) w = plain ∙ ap (λ o. or_else o (x (suc c))) (sym (none_at (first q) c))

-- column c of the second
pub second_value : (q : Question) (x : P.Values) (c : ℕ) → c < width q → look (row_of2 q x) c ≡ x (cond (among q.visible c) (suc c) (suc (width q + c)))
second_value q x c h = look_tabulate (width q) (λ j. x (second_sight q j).vertex) c h
