-- The fields of a no sheet one by one: what the rest makes from field j on is what the whole makes.
use Prim.Native.Nat.{ℕ, suc, ◌+◌, ◌-◌, ◌≤◌, ◌<◌}
use mathlib.Core.Path.{◌≡◌}
use mathlib.Core.Bool.{Bool, true, false}
use mathlib.Core.List.{List}
use native.Mathlib.Numerals.{add-one}
use native.Mathlib.Omega.{arith}
use lib.ListN.{length}
use lib.IntN.{ℤ}
use borrow.Author.Tests.{le-leb, lt-leb}
use Rattle.page_numbers.specs.Outcome.{refused}
use Rattle.page_sheets.specs.Rows.{field_at, value_at}
use Rattle.page_sheets.specs.Sheet.{Answer, check_fields}

module _ (ok : ℕ → ℤ → Bool) (s : List ℕ) (count j : ℕ) (next : Answer) where
  pub fields_end : count ≤ j → check_fields ok s (count - j) j next ≡ next
  unfolding check_fields
  fields_end h = let e : count - j ≡ 0 = omega arith in rw e

  module _ (h : j < count) where
    one_more : count - j ≡ suc (count - (j + 1))
    one_more = omega arith

    pub fields_short : length s < field_at j + 4 → check_fields ok s (count - j) j next ≡ refused 11 (field_at j)
    unfolding check_fields
    fields_short l = rw (one_more, lt-leb (field_at j + 4) (length s) l)

    module _ (l : field_at j + 4 ≤ length s) where
      pub fields_bad : ok j (value_at s j) ≡ false → check_fields ok s (count - j) j next ≡ refused 15 (field_at j)
      unfolding check_fields
      fields_bad b = rw (one_more, le-leb (field_at j + 4) (length s) l, b)

      pub fields_on : ok j (value_at s j) ≡ true → check_fields ok s (count - j) j next ≡ check_fields ok s (count - (j + 1)) (j + 1) next
      unfolding check_fields
      fields_on b = rw (one_more, le-leb (field_at j + 4) (length s) l, b, add-one j)
