-- The range tests of new values, column by column.
use mathlib.Core.Path.{◌≡◌, refl, sym, ap, ap₂, ◌∙◌, subst}
use mathlib.Core.Bool.{true, false}
use mathlib.Core.List.{List, [], ◌∷◌, ◌++◌}
use Prim.Native.Nat.{ℕ, ◌+◌, ◌-◌, ◌*◌, ◌≤◌, ◌<◌}
use native.Mathlib.Omega.{arith}
use lib.ListN.{length, get_or, drop, length-map, length-drop, get_or-map, drop_of_length-le}
use lib.Seq.{get_or-drop}
use lib.Dec.{T}
use Rattle.page_meaning.specs.Limits.{most_columns}
use Rattle.page_meaning.specs.Contents.{Range, Mode, keep, become, shift}
use Rattle.page_meaning.specs.Claims.{kept}
use Rattle.question.specs.Held.{column_of}
use Rattle.page_formulas.specs.Program as P
use Rattle.page_formulas.specs.Compilation as C
use Rattle.page_formulas.specs.Formulas.{new_term, bounded, bounded_new, bounded_all}
use Rattle.program.specs.Built.{Room, Builds}
use Rattle.program.specs.declared.types.Program.{Program}
use Rattle.sights.specs.Sights.{no_column, row_of, modes_of, mode_in, sight_of, Usable, no_range}
use Rattle.pieces.specs.Pieces.{Partway, table_from, bounded_at}
use Rattle.sights.specs.declared.types.Sight.{Sight}
use Rattle.sights.proofs.Sightings.{mode_from}
use Rattle.pieces.proofs.Pieces.{begin, next, piece_room, piece, finish}

kept_none : (m : Mode) (σ : C.Sight) (g : Range) → kept m ≡ true → bounded_new m σ g ≡ []
kept_none keep σ g e = refl
kept_none (become k) σ g e = absurd (subst T (sym e) tt)
kept_none (shift j k) σ g e = absurd (subst T (sym e) tt)

new_bounded : (m : Mode) (σ : C.Sight) (old : P.Term) (g : Range) → kept m ≡ false → bounded (new_term m σ old) g ≡ bounded_new m σ g
new_bounded keep σ old g e = absurd (subst T e tt)
new_bounded (become k) σ old g e = refl
new_bounded (shift j k) σ old g e = refl

pub no_modes : (σ : C.Sight) (gs : List Range) → bounded_all σ gs [] ≡ []
unfolding bounded_all
no_modes σ [] = refl
no_modes σ (g ∷ gs) = refl

-- the column tests before j are emitted
abbrev pub Tests : Sight → Program → Program → ℕ → Type 0
Tests s p now j =
    let k = length (modes_of s) - j in
    let gs = table_from s.first s.columns.now in
    Partway (4 * most_columns) (2 * most_columns) p now (4 * k) (2 * k) (bounded_all (row_of s) (drop j gs) (drop j (modes_of s))) (bounded_all (row_of s) gs (modes_of s))

module _ (s : Sight) (u : Usable s) (e : s.moved ≡ true) where
  -- one column, whatever it ranges over
  module _ (j : ℕ) (g : Range) where
    same_mode : mode_in s (s.first + j) ≡ get_or (modes_of s) j keep
    same_mode = mode_from s (s.first + j) e j refl

    pub test_none : kept (mode_in s (s.first + j)) ≡ true → bounded_at s j g ≡ []
    test_none k = kept_none (get_or (modes_of s) j keep) (row_of s) g (sym (ap kept same_mode) ∙ k)

    pub test_is : kept (mode_in s (s.first + j)) ≡ false → bounded (sight_of s (s.first + j)) g ≡ bounded_at s j g
    test_is k =
        ap (λ m. bounded (new_term m (row_of s) (row_of s (s.first + j))) g) same_mode
        ∙ new_bounded (get_or (modes_of s) j keep) (row_of s) (row_of s (s.first + j)) g (sym (ap kept same_mode) ∙ k)

  table_length : length (modes_of s) ≤ length (table_from s.first s.columns.now)
  table_length = simp (length-map, length-drop) (omega (arith, u.inside))

  range_is : (j : ℕ) → get_or (table_from s.first s.columns.now) j no_range ≡ (column_of (get_or s.columns.now (s.first + j) no_column)).range
  range_is j = get_or-map (λ c. (column_of c).range) (drop s.first s.columns.now) j no_column ∙ ap (λ c. (column_of c).range) (get_or-drop s.first s.columns.now j no_column)

  module _ (j : ℕ) (h : j < length (modes_of s)) where
    more_tests : bounded_all (row_of s) (drop j (table_from s.first s.columns.now)) (drop j (modes_of s)) ≡ bounded_at s j (column_of (get_or s.columns.now (s.first + j) no_column)).range ++ bounded_all (row_of s) (drop (j + 1) (table_from s.first s.columns.now)) (drop (j + 1) (modes_of s))
    unfolding bounded_all
    more_tests =
        ap₂ (bounded_all (row_of s))
        (next (table_from s.first s.columns.now) j no_range (omega (arith, table_length)))
        (next (modes_of s) j keep h)
        ∙ ap (λ g. bounded_at s j g ++ bounded_all (row_of s) (drop (j + 1) (table_from s.first s.columns.now)) (drop (j + 1) (modes_of s))) (range_is j)

    module _ {p now : Program} (w : Tests s p now j) where
      pub test_room : Room p (4 * most_columns) (2 * most_columns) → Room now 4 2
      test_room = piece_room w 4 2 (omega arith) (omega arith)

      pub test_more : {after : Program} → Builds now after 4 2 (bounded_at s j (column_of (get_or s.columns.now (s.first + j) no_column)).range) → Tests s p after (j + 1)
      test_more b = piece w _ _ _ more_tests (omega arith) (omega arith) b

  pub tests_begin : {k l : ℕ} (p : Program) → Room p k l → Tests s p p 0
  tests_begin p room = begin (4 * most_columns) (2 * most_columns) _ _ p _ room (omega (arith, u.inside, u.few)) (omega (arith, u.inside, u.few))

  pub tests_end : (p now : Program) (j : ℕ) → length (modes_of s) ≤ j → Tests s p now j → Builds p now (4 * most_columns) (2 * most_columns) (bounded_all (row_of s) (table_from s.first s.columns.now) (modes_of s))
  tests_end p now j h w =
      let gs = table_from s.first s.columns.now in
      finish w (ap (bounded_all (row_of s) (drop j gs)) (drop_of_length-le (modes_of s) {i = j} h) ∙ no_modes (row_of s) (drop j gs))
