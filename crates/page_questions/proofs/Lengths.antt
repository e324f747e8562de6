-- The reader never looks past the longest question's end: two inputs that agree so far are read alike, and a question ends there.
use mathlib.Core.Path.{◌≡◌, refl, sym, ap, ap₂, subst, ◌∙◌}
use mathlib.Core.Bool.{Bool, true, false, cond}
use mathlib.Core.List.{List, [], ◌∷◌, ◌++◌}
use Prim.Native.Nat.{ℕ, zero, suc, ◌+◌, ◌-◌, ◌*◌, ◌≤◌, ◌<◌}
use native.Mathlib.Omega.{arith}
use borrow.Author.Tests.{ltb-false, lt-ltb, le-leb}
use lib.Dec.{T, ltb, leb, eqb}
use lib.ListN.{length, get_or, take, drop, length-append}
use lib.Seq.{length-take-le, get_or-take}
use lib.IntN.{ℤ, pos, neg_ℤ}
use Rattle.page_numbers.specs.Outcome.{Outcome, good, refused}
use Rattle.page_numbers.specs.Bytes.{le32, int32}
use Rattle.page_meaning.specs.Limits.{most_tables, most_columns, most_tokens, most_comparisons, most_rows, limits}
use Rattle.page_meaning.specs.Contents.{Range, Mode, Question}
use Rattle.page_questions.specs.Layout.{Column, ranges_of, total, first_of, width_of, table_of, visible_from, version_by, question_from}
use Rattle.page_questions.specs.Lengths.{longest_condition, longest, NoneLonger, OneAsLong, FirstBytesTell}
use Rattle.page_questions.specs.Reader.{At, many, byte, int, up_to, none, largest, constant_at, width_at, column_at, comparison_at, token_at, condition_at, value_at, row_at, insert_at, delete_at, no_column_at, mode_at, modify_at, change_at, ending, from_change, from_condition, from_visible, from_columns, from_widths, from_changed, from_kind, from_tables, from_version, marked, version_in, versioned, read_under, read_of}
use Rattle.page_questions.specs.Guarantees.{Every}
use Rattle.page_questions.proofs.Conditions.{every_snoc}
use Rattle.page_questions.proofs.Invariants.{Holds, cond_holds, Between}
use Rattle.page_questions.proofs.Sums.{total_snoc}
use Rattle.page_questions.proofs.Twins.{Twin, twin_then, twin_cond, twin_so, twin_many, times, short_take, width_beside, Same, byte_twin, int_twin, column_twin, condition_twin}

module _ (s t : List ℕ) (same : Same s t) where
  -- ---- changes; gs are the changed table's ranges

  module _ (gs : List Range) where
    row_twin : (p : ℕ) → p + 4 * length gs ≤ suc longest → Twin (λ a. a.next ≡ p + 4 * length gs) (row_at s gs p) (row_at t gs p)
    unfolding row_at
    row_twin p l =
        twin_so (λ a. a.next + 4 * 0 ≡ p + 4 * length gs) (λ a. a.next ≡ p + 4 * length gs) _ _ (λ a e. omega arith)
        (twin_many (value_at s gs) (value_at t gs) (λ k vs q. q + 4 * k ≡ p + 4 * length gs)
        (λ k vs q h. twin_so (λ a. a.next ≡ q + 4) (λ a. a.next + 4 * k ≡ p + 4 * length gs) _ _ (λ a e. omega arith) (int_twin s t same 5 _ _ q (omega arith)))
        (length gs) [] p refl)

    insert_twin : (p : ℕ) → p + 1 + 4 * most_rows * length gs ≤ longest → Twin (λ a. a.next ≤ longest) (insert_at s gs p) (insert_at t gs p)
    unfolding insert_at times
    insert_twin p l =
        twin_then (λ a. Between 0 (up_to most_rows) a.value × (a.next ≡ p + 1)) _ (byte s 4 0 (up_to most_rows) p) (byte t 4 0 (up_to most_rows) p) _ _ (byte_twin s t same 4 0 (up_to most_rows) p (omega arith)) λ n d.
        twin_then (λ a. a.next + times 0 (4 * length gs) ≤ longest) _ (many (λ rs p. row_at s gs p) n.value [] n.next) (many (λ rs p. row_at t gs p) n.value [] n.next) _ _
        (twin_many (λ rs p. row_at s gs p) (λ rs p. row_at t gs p) (λ k rs q. q + times k (4 * length gs) ≤ longest)
        (λ k rs q h. twin_so (λ a. a.next ≡ q + 4 * length gs) (λ a. a.next + times k (4 * length gs) ≤ longest) _ _ (λ a e. omega arith) (row_twin q (omega arith)))
        n.value [] n.next (omega (arith, d.1, few n.value (4 * length gs) d.0.1))) λ rs h.
        (refl, omega arith)
      where
        few : (n c : ℕ) → n < up_to most_rows → times n c ≤ most_rows * c
        few zero c l = omega arith
        few (suc zero) c l = omega arith
        few (suc (suc zero)) c l = omega arith
        few (suc (suc (suc zero))) c l = omega arith
        few (suc (suc (suc (suc zero)))) c l = omega arith
        few (suc (suc (suc (suc (suc n))))) c l = absurd (omega arith)

  delete_twin : (low high p : ℕ) → p + longest_condition ≤ longest → Twin (λ a. a.next ≤ longest) (delete_at s low high p) (delete_at t low high p)
  unfolding delete_at
  delete_twin low high p l =
      twin_then (λ a. a.next ≤ p + longest_condition) _ (condition_at s low high p) (condition_at t low high p) _ _ (condition_twin s t same low high p (omega arith)) λ c h. (refl, omega arith)

  -- a constant at the end of a mode
  abbrev Six : ℕ → At Mode → Type 0
  Six p a = a.next ≡ p + 6

  mode_twin : (low high p : ℕ) → p + 6 ≤ suc longest → Twin (Six p) (mode_at s low high p) (mode_at t low high p)
  unfolding mode_at
  mode_twin low high p l =
      twin_then (λ a. Between 0 (up_to 2) a.value × (a.next ≡ p + 1)) _ (byte s 4 0 (up_to 2) p) (byte t 4 0 (up_to 2) p) _ _ (byte_twin s t same 4 0 (up_to 2) p (omega arith)) λ m d.
      twin_cond (Six p) (eqb m.value 0) _ _ _ _
      (λ e. twin_then (λ a. a.next ≡ p + 2) _ (no_column_at s m.next) (no_column_at t m.next) _ _ (column 4 none (up_to none) m.next d.1) λ j f.
      twin_then (λ a. a.next ≡ p + 6) _ (int s 4 (pos 0) (pos 0) j.next) (int t 4 (pos 0) (pos 0) j.next) _ _ (value 4 (pos 0) (pos 0) j.next f) λ k g. (refl, g))
      (λ e. twin_cond (Six p) (eqb m.value 1) _ _ _ _
      (λ e. twin_then (λ a. a.next ≡ p + 2) _ (no_column_at s m.next) (no_column_at t m.next) _ _ (column 4 none (up_to none) m.next d.1) λ j f.
      twin_then (λ a. a.next ≡ p + 6) _ (constant_at s j.next) (constant_at t j.next) _ _ (value 5 (neg_ℤ largest) largest j.next f) λ k g. (refl, g))
      (λ e. twin_then (λ a. a.next ≡ p + 2) _ (byte s 7 low high m.next) (byte t 7 low high m.next) _ _ (column 7 low high m.next d.1) λ j f.
      twin_then (λ a. a.next ≡ p + 6) _ (constant_at s j.next) (constant_at t j.next) _ _ (value 5 (neg_ℤ largest) largest j.next f) λ k g. (refl, g)))
    where
      column : (n a b q : ℕ) → q ≡ p + 1 → Twin (λ x. x.next ≡ p + 2) (byte s n a b q) (byte t n a b q)
      column n a b q e = twin_so (λ x. Between a b x.value × (x.next ≡ q + 1)) (λ x. x.next ≡ p + 2) _ _ (λ x f. omega (arith, f.1)) (byte_twin s t same n a b q (omega arith))

      value : (n : ℕ) (a b : ℤ) (q : ℕ) → q ≡ p + 2 → Twin (λ x. x.next ≡ p + 6) (int s n a b q) (int t n a b q)
      value n a b q e = twin_so (λ x. x.next ≡ q + 4) (λ x. x.next ≡ p + 6) _ _ (λ x f. omega arith) (int_twin s t same n a b q (omega arith))

  modify_twin : (low width p : ℕ) → p + longest_condition + 6 * width ≤ longest → Twin (λ a. a.next ≤ longest) (modify_at s low width p) (modify_at t low width p)
  unfolding modify_at
  modify_twin low width p l =
      twin_then (λ a. a.next ≤ p + longest_condition) _ (condition_at s low (low + width) p) (condition_at t low (low + width) p) _ _ (condition_twin s t same low (low + width) p (omega arith)) λ c h.
      twin_then (λ a. a.next + 6 * 0 ≤ longest) _ (many (λ ms p. mode_at s low (low + width) p) width [] c.next) (many (λ ms p. mode_at t low (low + width) p) width [] c.next) _ _
      (twin_many (λ ms p. mode_at s low (low + width) p) (λ ms p. mode_at t low (low + width) p) (λ k ms q. q + 6 * k ≤ longest)
      (λ k ms q g. twin_so (Six q) (λ a. a.next + 6 * k ≤ longest) _ _ (λ a e. omega arith) (mode_twin low (low + width) q (omega arith)))
      width [] c.next (omega arith)) λ ms g.
      (refl, omega arith)

  change_twin : (kind low : ℕ) (gs : List Range) (p : ℕ) → p + 1 + 4 * most_rows * length gs ≤ longest → p + longest_condition + 6 * length gs ≤ longest → Twin (λ a. a.next ≤ longest) (change_at s kind low gs p) (change_at t kind low gs p)
  change_twin kind low gs p l h =
      twin_cond (λ a. a.next ≤ longest) (eqb kind 1) _ _ _ _ (λ e. insert_twin gs p l)
      (λ e. twin_cond (λ a. a.next ≤ longest) (eqb kind 2) _ _ _ _ (λ f. delete_twin low (low + length gs) p (omega arith)) (λ f. modify_twin low (length gs) p h))

  -- ---- the whole

  -- it ends within the longest
  abbrev Short : Question → Type 0
  Short q = length s ≤ longest

  ending_twin : (q : Question) (p : ℕ) → p ≤ longest → Twin Short (ending s q p) (ending t q p)
  unfolding ending
  ending_twin q p l = (ap (λ b. cond b (refused 9 p) (good q)) (same.more p l), cond_holds Short (ltb p (length s)) (refused 9 p) (good q) (λ e. tt) (λ e. omega (arith, ltb-false p (length s) e)))

  module _ (kind changed : ℕ) (ws : List ℕ) (each : Every (λ w. 1 ≤ w) ws) (few : total ws ≤ most_columns) (some : 1 ≤ length ws) where
    -- the changed table, and a column at least in each other
    fits_beside : (cs : List Column) → length (table_of ws changed (ranges_of cs)) + length ws ≤ most_columns + 1
    fits_beside cs = omega (arith, short_take (width_of ws changed) (drop (first_of ws changed) (ranges_of cs)), width_beside ws changed each)

    condition_on : (cs : List Column) (p : ℕ) → p ≤ 8 + length ws + 9 * most_columns → Twin Short (from_condition s kind changed ws cs p) (from_condition t kind changed ws cs p)
    unfolding from_condition from_change
    condition_on cs p l =
        twin_then (λ a. a.next ≤ p + longest_condition) _ (condition_at s 0 (total ws) p) (condition_at t 0 (total ws) p) _ _ (condition_twin s t same 0 (total ws) p (omega (arith, fits_beside cs))) λ c h.
        twin_then (λ a. a.next ≤ longest) _ (change_at s kind (first_of ws changed) (table_of ws changed (ranges_of cs)) c.next) (change_at t kind (first_of ws changed) (table_of ws changed (ranges_of cs)) c.next) _ _
        (change_twin kind (first_of ws changed) (table_of ws changed (ranges_of cs)) c.next (omega (arith, fits_beside cs)) (omega (arith, fits_beside cs))) λ ch g.
        subst (λ b. Twin Short (ending s (question_from (version_by (get_or s 3 0)) ws changed cs c.value ch.value) ch.next) (ending t (question_from (version_by b) ws changed cs c.value ch.value) ch.next)) (same.entry 3 (omega arith))
        (ending_twin (question_from (version_by (get_or s 3 0)) ws changed cs c.value ch.value) ch.next g)

    visible_on : (cs : List Column) (p : ℕ) → p ≤ 8 + length ws + 9 * most_columns → Twin Short (from_visible s kind changed ws cs p) (from_visible t kind changed ws cs p)
    unfolding from_visible
    visible_on cs p l = go (visible_from 0 cs) (condition_on cs p l)
      where
        seen : List ℕ → Outcome Question
        seen [] = refused 8 p
        seen (i ∷ is) = from_condition s kind changed ws cs p

        seen' : List ℕ → Outcome Question
        seen' [] = refused 8 p
        seen' (i ∷ is) = from_condition t kind changed ws cs p

        go : (is : List ℕ) → Twin Short (from_condition s kind changed ws cs p) (from_condition t kind changed ws cs p) → Twin Short (seen is) (seen' is)
        go [] h = (refl, tt)
        go (i ∷ is) h = h

    columns_on : (p : ℕ) → p ≡ 8 + length ws → length ws ≤ most_tables → Twin Short (from_columns s kind changed ws p) (from_columns t kind changed ws p)
    unfolding from_columns
    columns_on p e four =
        twin_then (λ a. a.next + 9 * 0 ≤ p + 9 * total ws) _ (many (λ cs p. column_at s p) (total ws) [] p) (many (λ cs p. column_at t p) (total ws) [] p) _ _
        (twin_many (λ cs p. column_at s p) (λ cs p. column_at t p) (λ k cs q. q + 9 * k ≤ p + 9 * total ws)
        (λ k cs q h. twin_so (λ a. a.next ≡ q + 9) (λ a. a.next + 9 * k ≤ p + 9 * total ws) _ _ (λ a d. omega arith) (column_twin s t same q (omega arith)))
        (total ws) [] p (omega arith)) λ cs h.
        visible_on cs.value cs.next (omega arith)

  -- with k widths left, of so many
  abbrev Widths : ℕ → ℕ → List ℕ → ℕ → Type 0
  Widths tables k ws q = Every (λ w. 1 ≤ w) ws × (total ws ≤ most_columns) × (length ws + k ≡ tables) × (q + k ≡ 8 + tables)

  width_twin : (tables k : ℕ) (ws : List ℕ) (p : ℕ) → tables ≤ most_tables → Widths tables (suc k) ws p → Twin (λ a. Widths tables k (ws ++ (a.value ∷ [])) a.next) (width_at most_columns s ws p) (width_at most_columns t ws p)
  width_twin tables k ws p four h =
      twin_so (λ a. Between 1 (up_to (most_columns - total ws)) a.value × (a.next ≡ p + 1)) (λ a. Widths tables k (ws ++ (a.value ∷ [])) a.next) _ _
      (λ a g. (every_snoc (λ w. 1 ≤ w) ws a.value h.0 g.0.0, omega (arith, total_snoc ws a.value, h.1, g.0.1), omega (arith, length-append ws (a.value ∷ []), h.2), omega (arith, g.1, h.3)))
      (byte_twin s t same 4 1 (up_to (most_columns - total ws)) p (omega (arith, h.3)))

  tables_on : Twin Short (from_tables limits s 5) (from_tables limits t 5)
  unfolding from_tables from_kind from_changed from_widths total
  tables_on =
      twin_then (λ a. Between 1 (up_to most_tables) a.value × (a.next ≡ 6)) _ (byte s 4 1 (up_to most_tables) 5) (byte t 4 1 (up_to most_tables) 5) _ _ (byte_twin s t same 4 1 (up_to most_tables) 5 (omega arith)) λ n d.
      twin_then (λ a. Between 1 (up_to 3) a.value × (a.next ≡ n.next + 1)) _ (byte s 4 1 (up_to 3) n.next) (byte t 4 1 (up_to 3) n.next) _ _ (byte_twin s t same 4 1 (up_to 3) n.next (omega (arith, d.1))) λ kind e.
      twin_then (λ a. Between 0 n.value a.value × (a.next ≡ kind.next + 1)) _ (byte s 4 0 n.value kind.next) (byte t 4 0 n.value kind.next) _ _ (byte_twin s t same 4 0 n.value kind.next (omega (arith, d.1, e.1))) λ changed f.
      twin_then (λ a. Widths n.value 0 a.value a.next) _ (many (width_at most_columns s) n.value [] changed.next) (many (width_at most_columns t) n.value [] changed.next) _ _
      (twin_many (width_at most_columns s) (width_at most_columns t) (Widths n.value) (λ k ws p h. width_twin n.value k ws p (omega (arith, d.0.1)) h) n.value [] changed.next (tt, omega arith, omega arith, omega (arith, d.1, e.1, f.1))) λ ws g.
      columns_on kind.value changed.value ws.value g.0 g.1 (omega (arith, g.2, d.0.0)) ws.next (omega (arith, g.2, g.3)) (omega (arith, g.2, d.0.1))

  marked_same : marked s ≡ marked t
  marked_same = rw (same.entry 0 (omega arith), same.entry 1 (omega arith), same.entry 2 (omega arith)) refl

  version_twin : Twin Short (from_version limits s) (from_version limits t)
  unfolding from_version
  version_twin =
      subst (λ b. Twin Short (from_version limits s) (cond b (cond (versioned (version_in t)) (from_tables limits t 5) (refused 3 3)) (refused 1 3))) (same.whole 5 (omega arith))
      (subst (λ v. Twin Short (from_version limits s) (cond (leb 5 (length s)) (cond (versioned v) (from_tables limits t 5) (refused 3 3)) (refused 1 3))) (ap₂ (λ x y. x + 256 * y) (same.entry 3 (omega arith)) (same.entry 4 (omega arith)))
      (twin_cond Short (leb 5 (length s)) _ _ _ _ (λ e. twin_cond Short (versioned (version_in s)) _ _ _ _ (λ d. tables_on) (λ d. (refl, tt))) (λ e. (refl, tt))))

  read_twin : Twin Short (read_of s) (read_of t)
  unfolding read_under
  read_twin =
      subst (λ b. Twin Short (read_of s) (cond b (cond (marked t) (from_version limits t) (refused 2 0)) (refused 1 0))) (same.whole 3 (omega arith))
      (subst (λ m. Twin Short (read_of s) (cond (leb 3 (length s)) (cond m (from_version limits t) (refused 2 0)) (refused 1 0))) marked_same
      (twin_cond Short (leb 3 (length s)) _ _ _ _ (λ e. twin_cond Short (marked s) _ _ _ _ (λ d. version_twin) (λ d. (refl, tt))) (λ e. (refl, tt))))

-- ---- the theorems

pub none_longer : NoneLonger
none_longer s q e = subst (Holds (λ q. length s ≤ longest)) e (read_twin s s (record { entry = λ p l. refl; more = λ p l. refl; whole = λ p l. refl })).1

pub first_bytes_tell : FirstBytesTell
first_bytes_tell s l =
    let cut = take (suc longest) s in
    let long : length cut ≡ suc longest = length-take-le (suc longest) s l in
    (read_twin s cut (record {
      entry = λ p h. sym (get_or-take (suc longest) s p 0 (omega arith));
      more = λ p h. lt-ltb p (length s) (omega arith) ∙ sym (lt-ltb p (length cut) (omega (arith, long)));
      whole = λ p h. le-leb p (length s) (omega arith) ∙ sym (le-leb p (length cut) (omega (arith, long)));
    })).0

-- some bytes so many times, before others
abbrev repeat : ℕ → List ℕ → List ℕ → List ℕ
repeat zero bs rest = rest
repeat (suc k) bs rest = bs ++ repeat k bs rest

-- eight columns; six comparisons, joined by ands, then nots; four rows
abbrev fullest : List ℕ
fullest =
    86 ∷ 85 ∷ 81 ∷ 1 ∷ 0 ∷ 1 ∷ 1 ∷ 0 ∷ most_columns ∷ repeat most_columns (0 ∷ 0 ∷ 0 ∷ 0 ∷ 0 ∷ 0 ∷ 0 ∷ 0 ∷ 1 ∷ [])
    (most_tokens ∷ repeat most_comparisons (1 ∷ 3 ∷ 0 ∷ 255 ∷ 0 ∷ 0 ∷ 0 ∷ 0 ∷ [])
    (2 ∷ 2 ∷ 2 ∷ 2 ∷ 2 ∷ 4 ∷ 4 ∷ 4 ∷ 4 ∷ 4 ∷ most_rows ∷ repeat (most_rows * most_columns) (0 ∷ 0 ∷ 0 ∷ 0 ∷ []) []))

abbrev is_good : Outcome Question → Bool
is_good (good q) = true
is_good (refused n p) = false

good_one : (r : Outcome Question) → T (is_good r) → (q : Question) × (r ≡ good q)
good_one (good q) h = (q, refl)
good_one (refused n p) h = absurd h

fullest_read : T (is_good (read_of fullest))
unfolding int32 le32 total visible_from many byte int column_at comparison_at token_at condition_at row_at insert_at ending from_change from_condition from_visible from_columns from_widths from_changed from_kind from_tables from_version read_under
fullest_read = tt

pub one_as_long : OneAsLong
one_as_long = let x = good_one (read_of fullest) fullest_read in (fullest, x.0, x.1, refl)
