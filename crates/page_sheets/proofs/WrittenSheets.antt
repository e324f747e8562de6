-- The writer's sheets pass: a yes with its trees; a no with rows in range that meet the formula.
-- ---- values in range are i32
use Prim.Native.Nat.{ℕ, ◌+◌, ◌*◌, ◌-◌, ◌≤◌, ◌<◌}
use mathlib.Core.Path.{◌≡◌, refl, sym, ap, ◌∙◌}
use mathlib.Core.Bool.{Bool, true, false, not, ◌&&◌, ◌||◌, cond}
use mathlib.Core.List.{List, [], ◌∷◌, ◌++◌, append-nil}
use native.Mathlib.Omega.{arith}
use native.Mathlib.Decide.{dec_lt}
use lib.ListN.{length, get_or, length-append, get_or-append}
use lib.Dec.{T, eqb, leb, ltb, le→leb, lt→ltb, eqb_refl}
use lib.IntN.{ℤ, pos}
use lib.Signed.{le_z}
use mir.Syntax.{w32}
use mir.Val.{SFits}
use Rattle.page_numbers.specs.Outcome.{good}
use Rattle.page_numbers.specs.Bytes.{int32}
use Rattle.page_numbers.proofs.Bridge.{from_le_z, ints}
use Rattle.page_numbers.proofs.Machine.{to_fits}
use Rattle.page_meaning.specs.Condition.{equal, holds}
use Rattle.page_meaning.specs.Contents.{Values, look, Range, in_range, fits, Question, columns, part}
use Rattle.page_meaning.specs.Limits.{most_vertices, limits}
use Rattle.page_meaning.proofs.MovedRows.{fits_length}
use Rattle.page_meaning.proofs.Truth.{and_l, and_r, and_in}
use Rattle.page_formulas.specs.Formulas.{Formula, among, formulas, assign, tabulate, no_formula}
use Rattle.page_formulas.specs.Program.{truth}
use Rattle.page_formulas.proofs.Rows.{get_d_after}
use Rattle.page_questions.specs.Guarantees.{Every, RangeOk}
use Rattle.page_sheets.specs.Rows.{value_at, width, fields, bytes_of_row, field_at, first_read, second_read, in_column, fixed, matches, field_ok}
use Rattle.page_sheets.specs.Sheet.{marked, last_vertex, Verdict, say_yes, say_no, verdict_byte, header, finding_under, finding_of, yes_end, check_yes, no_end, check_rows, check_no, check_body, versioned, check_sheet_under, check_sheet}
use Rattle.page_sheets.specs.Tree.{Tree}
use Rattle.page_sheets.specs.Trees.{all_shut, bytes_all}
use Rattle.page_sheets.proofs.Fields.{field_passes, FieldsOk, fields_pass, field_first, field_second}
use Rattle.page_sheets.proofs.Findings.{yes_found}
use Rattle.page_sheets.proofs.Fit.{Fit, to_true}
use Rattle.page_sheets.proofs.Values.{read_after, row_read, row_bytes, tabulate_is, fits_look, is_equal, part_same}

in_fits : (g : Range) → RangeOk g → (z : ℤ) → T (in_range g z) → SFits w32 z
unfolding in_range
in_fits g r z t = to_fits (omega (ints, r.low, r.high, from_le_z z g.hi (and_l (le_z z g.hi) (le_z g.lo z) t), from_le_z g.lo z (and_r (le_z z g.hi) (le_z g.lo z) t)))

row_fits : (gs : List Range) → Every RangeOk gs → (u : Values) → T (fits gs u) → Every (SFits w32) u
row_fits [] r [] t = tt
row_fits [] r (z ∷ u) t = absurd t
row_fits (g ∷ gs) r [] t = absurd t
row_fits (g ∷ gs) r (z ∷ u) t = (in_fits g r.0 z (and_l (in_range g z) (fits gs u) t), row_fits gs r.1 u (and_r (in_range g z) (fits gs u) t))

every_append : (P : ℤ → Type 0) (u w : Values) → Every P u → Every P w → Every P (u ++ w)
every_append P [] w a b = b
every_append P (z ∷ u) w a b = (a.0, every_append P u w a.1 b)

-- ---- rows fit to be shown for formula i
abbrev pub Second : Question → Bool → Values → Values → Type 0
Second q false u w = w ≡ []
Second q true u w = T (fits (columns q) w) × (part q (look u) ≡ part q (look w))

pub record RowsOk (q : Question) (i : ℕ) (G : Formula) (u w : Values) : Type 0 where
  pub within : T (fits (columns q) u)
  pub has : (j : ℕ) → T (matches (fixed q i j) (look u j))
  pub second : Second q G.pairs u w
  pub met : truth (assign u w) G.program ≡ true

second_length : (q : Question) (b : Bool) (u w : Values) → Second q b u w → width q + length w ≡ cond b (width q + width q) (width q)
second_length q false u w e = omega (arith, ap length e)
second_length q true u w e = omega (arith, fits_length (columns q) w e.0)

second_small : (q : Question) → Every RangeOk (columns q) → (b : Bool) (u w : Values) → Second q b u w → Every (SFits w32) w
second_small q r false u w e = rw e tt
second_small q r true u w e = row_fits (columns q) r w e.0

module _ (q : Question) (a i : ℕ) (G : Formula) (u w : Values) (r : Every RangeOk (columns q)) (o : RowsOk q i G u w) where
  abbrev sheet : List ℕ
  sheet = header a say_no ++ (i ∷ bytes_of_row (u ++ w))

  first_length : length u ≡ width q
  first_length = fits_length (columns q) u o.within

  both_length : length (u ++ w) ≡ fields q G
  both_length = omega (arith, length-append u w, first_length, second_length q G.pairs u w o.second)

  sheet_length : length sheet ≡ field_at (fields q G)
  sheet_length = omega (arith, row_bytes (u ++ w), both_length)

  value_is : (c : ℕ) → c < fields q G → value_at sheet c ≡ look (u ++ w) c
  value_is c h =
      read_after (86 ∷ 85 ∷ 83 ∷ 1 ∷ 0 ∷ a ∷ 1 ∷ i ∷ []) (bytes_of_row (u ++ w)) (4 * c) (field_at c) refl
      ∙ ap (λ l. int32 l (4 * c)) (sym (append-nil (bytes_of_row (u ++ w))))
      ∙ row_read (u ++ w) [] (every_append (SFits w32) u w (row_fits (columns q) r u o.within) (second_small q r G.pairs u w o.second)) c (omega (arith, both_length))

  more_fields : width q ≤ fields q G
  more_fields = omega (arith, second_length q G.pairs u w o.second)

  value_first : (c : ℕ) → c < width q → value_at sheet c ≡ look u c
  value_first c h = value_is c (omega (arith, more_fields)) ∙ get_or-append u w (pos 0) c (omega (arith, first_length))

  value_second : (c : ℕ) → width q + c < fields q G → value_at sheet (width q + c) ≡ look w c
  value_second c h = value_is (width q + c) h ∙ get_d_after u w (pos 0) (width q) c (sym first_length)

  first_read_lem : first_read q sheet ≡ u
  first_read_lem = tabulate_is (width q) (value_at sheet) u first_length value_first

  second_read_lem : second_read q G sheet ≡ w
  second_read_lem = go G.pairs o.second (λ c h. value_second c h)
    where
      go : (b : Bool) → Second q b u w → ((c : ℕ) → width q + c < cond b (width q + width q) (width q) → value_at sheet (width q + c) ≡ look w c) → cond b (tabulate (width q) (λ c. value_at sheet (width q + c))) [] ≡ w
      go false e f = sym e
      go true e f = tabulate_is (width q) (λ c. value_at sheet (width q + c)) w (fits_length (columns q) w e.0) (λ c h. f c (omega arith))

  -- each value may stand in its field
  first_field : (c : ℕ) → c < width q → T (field_ok q i sheet c (value_at sheet c))
  first_field c h = rw (field_first q i sheet c (value_at sheet c) h) (rw (value_first c h) (and_in (in_column q c (look u c)) (matches (fixed q i c) (look u c)) (fits_look (columns q) _ u o.within c h) (o.has c)))

  second_field : (c : ℕ) → c < width q → width q + c < fields q G → T (field_ok q i sheet (width q + c) (value_at sheet (width q + c)))
  unfolding part
  second_field c h l = rw (field_second q i sheet c (value_at sheet (width q + c))) (rw (value_second c l, value_first c h) (go G.pairs o.second l))
    where
      or_test : (b d : Bool) → (T b → T d) → T (not b || d)
      or_test true d f = f tt
      or_test false d f = tt

      go : (b : Bool) → Second q b u w → width q + c < cond b (width q + width q) (width q) → T (in_column q c (look w c) && (not (among q.visible c) || holds equal (look w c) (look u c)))
      go false e k = absurd (omega arith)
      go true e k = and_in (in_column q c (look w c)) _ (fits_look (columns q) _ w e.0 c h) (or_test (among q.visible c) _ (λ t. is_equal (look w c) (look u c) (sym (part_same (look u) (look w) q.visible e.1 c t))))

  all_fields : FieldsOk (field_ok q i sheet) sheet (fields q G) 0
  all_fields c l h = (omega (arith, sheet_length), go (dec_lt c (width q)))
    where
      go : Dec (c < width q) → T (field_ok q i sheet c (value_at sheet c))
      go (yes k) = first_field c k
      go (no k) =
          let e : width q + (c - width q) ≡ c = omega arith in
          let few : c - width q < width q = omega (arith, wide G.pairs) in
          rw e at (second_field (c - width q) few (rw e (omega arith)))
        where
          wide : (b : Bool) → cond b (width q + width q) (width q) ≤ width q + width q
          wide true = omega arith
          wide false = omega arith

  no_ends : no_end q G sheet ≡ good say_no
  unfolding no_end
  no_ends = rw (first_read_lem, second_read_lem, o.met, to_true (leb (length sheet) (field_at (fields q G))) (le→leb (length sheet) (field_at (fields q G)) (omega (arith, sheet_length)))) refl

  pub no_written : (Fs : List Formula) → i < length Fs → get_or Fs i no_formula ≡ G → check_no q Fs sheet ≡ good say_no
  unfolding check_no check_rows
  no_written Fs h e =
      field_passes sheet 7 1 (ltb i (length Fs)) 14 (check_rows q i (get_or Fs i no_formula) sheet) (omega (arith, sheet_length)) (lt→ltb i (length Fs) h)
      ∙ ap (λ F. check_rows q i F sheet) e
      ∙ fields_pass (field_ok q i sheet) sheet (fields q G) 0 (no_end q G sheet) all_fields
      ∙ no_ends

-- ---- the header
pub header_passes : (q : Question) (a : ℕ) (v : Verdict) (rest : List ℕ) → check_sheet q a (header a v ++ rest) ≡ check_body limits q a (header a v ++ rest) (verdict_byte v)
unfolding check_sheet_under
header_passes q a v rest =
    let s = header a v ++ rest in
    field_passes s 0 3 (marked s) 12 _ (omega arith) tt
    ∙ field_passes s 3 2 (versioned s) 13 _ (omega arith) tt
    ∙ field_passes s 5 1 (eqb a a) 14 _ (omega arith) (eqb_refl a)
    ∙ field_passes s 6 1 (leb (verdict_byte v) 1) 14 _ (omega arith) (small v)
  where
    small : (v : Verdict) → T (leb (verdict_byte v) 1)
    small say_yes = tt
    small say_no = tt

-- ---- both
pub yes_written : (q : Question) (a : ℕ) (ts : List Tree) → Every (Fit most_vertices) (formulas q a) → finding_of q a ≡ all_shut ts → check_sheet q a (header a say_yes ++ bytes_all ts) ≡ good say_yes
unfolding finding_under check_yes
yes_written q a ts p e = header_passes q a say_yes (bytes_all ts) ∙ ap yes_end (yes_found last_vertex (formulas q a) p ts e 7)
