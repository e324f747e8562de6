-- What two rows show differently, column by column.
use mathlib.Core.Path.{◌≡◌, refl, ap, ◌∙◌}
use mathlib.Core.Bool.{Bool, true, false, cond}
use mathlib.Core.List.{List, [], ◌∷◌, ◌++◌}
use Prim.Native.Nat.{ℕ, ◌+◌, ◌-◌, ◌*◌, ◌≤◌}
use native.Mathlib.Numerals.{add-one}
use native.Mathlib.Omega.{arith}
use lib.ListN.{length, get_or, drop, length-map, get_or-map, drop_of_length-le}
use Rattle.page_meaning.specs.Limits.{most_columns}
use Rattle.page_meaning.specs.Condition.{unequal}
use Rattle.page_meaning.specs.Contents.{Mode}
use Rattle.page_meaning.specs.Claims.{kept}
use Rattle.page_formulas.specs.Program.{or_i}
use Rattle.page_formulas.specs.Compilation.{comparison}
use Rattle.page_formulas.specs.Compilation as C
use Rattle.page_formulas.specs.Formulas.{differs_new, differs_over}
use Rattle.program.specs.Built.{Room, Builds}
use Rattle.program.specs.declared.types.Program.{Program}
use Rattle.sights.specs.Sights.{no_column, flags_of, shown_from, visible_of, mode_in, sight_of, Has, Usable}
use Rattle.pieces.specs.Pieces.{Partway, differs_at}
use Rattle.sights.specs.declared.types.Sight.{Sight}
use Rattle.pieces.proofs.Pieces.{begin, next, piece_room, piece, finish}

-- ---- one column

flag_at : (a : Sight) (i : ℕ) → get_or (flags_of a) i false ≡ (get_or a.columns.now i no_column).visible
flag_at a i = get_or-map (λ c. c.visible) a.columns.now i no_column

module _ (a b : Sight) (i : ℕ) where
  pub at_hidden : (get_or a.columns.now i no_column).visible ≡ false → differs_at a b i ≡ []
  at_hidden v = rw (flag_at a i ∙ v) refl

  module _ (v : (get_or a.columns.now i no_column).visible ≡ true) where
    pub at_kept : kept (mode_in a i) ≡ true → differs_at a b i ≡ []
    at_kept k = rw (flag_at a i ∙ v, k) refl

    pub at_shown : kept (mode_in a i) ≡ false → comparison unequal (sight_of a i) (sight_of b i) ++ (or_i ∷ []) ≡ differs_at a b i
    at_shown k = rw (flag_at a i ∙ v, k) refl

-- ---- all of them

-- the columns before i are told
abbrev pub Told : Sight → Sight → Program → Program → ℕ → Type 0
Told a b p now i =
    let over = differs_over (mode_in a) (sight_of a) (sight_of b) in
    let k = length a.columns.now - i in
    Partway (5 * most_columns) (2 * most_columns) p now (5 * k) (2 * k) (over (shown_from i (drop i (flags_of a)))) (over (visible_of a))

one_column : (mode : ℕ → Mode) (σ τ : C.Sight) (i : ℕ) (b : Bool) (bs : List Bool) → differs_over mode σ τ (shown_from i (b ∷ bs)) ≡ cond b (differs_new (mode i) (σ i) (τ i)) [] ++ differs_over mode σ τ (shown_from (i + 1) bs)
unfolding differs_over shown_from
one_column mode σ τ i true bs = rw (add-one i) refl
one_column mode σ τ i false bs = rw (add-one i) refl

no_columns : (mode : ℕ → Mode) (σ τ : C.Sight) (i : ℕ) → differs_over mode σ τ (shown_from i []) ≡ []
unfolding differs_over shown_from
no_columns mode σ τ i = refl

module _ (a b : Sight) (u : Usable a) where
  flags_length : length (flags_of a) ≡ length a.columns.now
  flags_length = length-map a.columns.now (λ c. c.visible)

  module _ (i : ℕ) (h : Has a i) where
    more_columns : differs_over (mode_in a) (sight_of a) (sight_of b) (shown_from i (drop i (flags_of a))) ≡ differs_at a b i ++ differs_over (mode_in a) (sight_of a) (sight_of b) (shown_from (i + 1) (drop (i + 1) (flags_of a)))
    more_columns =
        ap (λ l. differs_over (mode_in a) (sight_of a) (sight_of b) (shown_from i l)) (next (flags_of a) i false (omega (arith, flags_length)))
        ∙ one_column (mode_in a) (sight_of a) (sight_of b) i (get_or (flags_of a) i false) (drop (i + 1) (flags_of a))

    module _ {p now : Program} (t : Told a b p now i) where
      pub told_room : Room p (5 * most_columns) (2 * most_columns) → Room now 5 2
      told_room = piece_room t 5 2 (omega arith) (omega arith)

      pub told_more : {after : Program} → Builds now after 5 2 (differs_at a b i) → Told a b p after (i + 1)
      told_more s = piece t _ _ _ more_columns (omega arith) (omega arith) s

  pub told_begin : {k l : ℕ} (p : Program) → Room p k l → Told a b p p 0
  told_begin p room = begin (5 * most_columns) (2 * most_columns) _ _ p _ room (omega (arith, u.few)) (omega (arith, u.few))

  pub told_end : (p now : Program) (i : ℕ) → length a.columns.now ≤ i → Told a b p now i → Builds p now (5 * most_columns) (2 * most_columns) (differs_over (mode_in a) (sight_of a) (sight_of b) (visible_of a))
  told_end p now i h t =
      finish t (ap (λ l. differs_over (mode_in a) (sight_of a) (sight_of b) (shown_from i l)) (drop_of_length-le (flags_of a) {i = i} (omega (arith, flags_length))) ∙ no_columns (mode_in a) (sight_of a) (sight_of b) i)
