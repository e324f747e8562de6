-- Formula i of a question: its line of the table, read under its context.
use mathlib.Core.Path.{◌≡◌, refl, sym, ap, ◌∙◌, subst}
use mathlib.Core.Bool.{Bool, true, false, cond}
use mathlib.Core.List.{List, [], ◌∷◌, map}
use Prim.Native.Nat.{ℕ, zero, suc, ◌<◌}
use native.Mathlib.Omega.{arith}
use lib.Dec.{eqb}
use lib.ListN.{length, get_or, take, length-map, length-take}
use lib.Seq.{get_or-take}
use Rattle.page_meaning.specs.Contents.{Version, Table, Change, Mode, become, columns}
use Rattle.page_meaning.specs.Contents as M
use Rattle.page_meaning.specs.Claims.{Part, Line, insertion, deletion, modification, read_parts, unless_alone, formulas_by}
use Rattle.page_meaning.specs.Condition.{Condition}
use Rattle.page_questions.specs.Guarantees.{Every}
use Rattle.page_questions.specs.Layout.{question_from}
use Rattle.question.specs.Held.{version_of, change_by, change_of, row_of, question_of}
use Rattle.question.specs.declared.types.Question.{Question}
use Rattle.question.specs.declared.types.Verb.{Verb}
use Rattle.question.specs.declared.types.Verb.TheVariants.{Insert, Delete, Modify}
use Rattle.page_formulas.specs.Costs.{Fits}
use Rattle.page_formulas.specs.Formulas as F
use Rattle.page_formulas.proofs.Readings.{insertion_fits, deletion_fits, modification_fits}
use Rattle.program.specs.Built.{Means}
use Rattle.sights.specs.Sights.{modes_of}
use Rattle.program.specs.Compiled.{Compiled, Spans}
use Rattle.program.specs.declared.types.Formula as compiled
use Rattle.formula_lines.specs.Lines.{first_of, rest_of, line_by, line_for, Numbered, Tabled}
use Rattle.formula_contexts.specs.Contexts.{Able, Buildable, no_row, condition_for, modes_for, Done}
use Rattle.formula_claims.specs.Claims.{rows_of, words_of}
use Rattle.formula.specs.Formulas.{formula_at}
use Rattle.formula_lines.specs.declared.types.Line as declared
use Rattle.formula_contexts.specs.declared.contexts.Context as types
use Rattle.pieces.specs.Pieces.{tokens_of}

pub change_is : (q : Question) → (question_of q).change ≡ change_of q.shape.width q.change
unfolding question_of question_from
change_is q = refl

pub version_is : (q : Question) → (question_of q).version ≡ version_of q.version
unfolding question_of question_from
version_is q = refl

map_at : {A B : Type 0} (f : A → B) (l : List A) (i : ℕ) (d : A) (e : B) → i < length l → get_or (map f l) i e ≡ f (get_or l i d)
map_at f [] i d e h = absurd (omega arith)
map_at f (x ∷ l) zero d e h = refl
map_at f (x ∷ l) (suc i) d e h = map_at f l i d e (omega arith)

-- the formulas of a change, as asked
abbrev pub lists : M.Question → Change → Bool → List F.Formula
lists Q ch b = formulas_by (F.formula Q) Q ch b

pub asked_are : (Q : M.Question) (ch : Change) (b : Bool) → cond b (F.irrelevance Q ch) (F.computability Q ch) ≡ lists Q ch b
asked_are Q ch true = refl
asked_are Q ch false = refl

pub by : (q : Question) (asked : ℕ) (v : Verb) → q.change.verb ≡ v → F.formulas (question_of q) asked ≡ lists (question_of q) (change_by v q.shape.width q.change) (eqb asked 1)
by q asked v e = asked_are (question_of q) (question_of q).change (eqb asked 1) ∙ ap (λ ch. lists (question_of q) ch (eqb asked 1)) (change_is q ∙ ap (λ v. change_by v q.shape.width q.change) e)

-- a list that is not left out is the list
not_left_out : (ts us : List Table) (l : List F.Formula) (i : ℕ) → i < length (unless_alone ts us l) → unless_alone ts us l ≡ l
not_left_out [] [] l i h = absurd (omega arith)
not_left_out [] (u ∷ us) l i h = refl
not_left_out (t ∷ ts) us l i h = refl

-- ---- by the verb

pub record Found (q : Question) (v : Verb) (b : Bool) (i : ℕ) (l : List F.Formula) : Type 0 where
  pub row : v ≡ Insert → i < q.change.count
  pub line : Numbered (version_of q.version) v b i
  pub formula : formula_at l i ≡ F.formula (question_of q) (condition_for v q) (modes_for v q i) (line_for (version_of q.version) v b i)

module _ (q : Question) (i : ℕ) where
  abbrev new : List M.Values
  new = map (row_of q.shape.width) (take q.change.count q.change.rows)

  abbrev put : M.Values → F.Formula
  put n = F.formula (question_of q) [] (map become n) insertion

  in_rows : Able q → i < length (map put new) → i < q.change.count
  in_rows a h = omega (arith, length-map new put, length-map (take q.change.count q.change.rows) (row_of q.shape.width), length-take q.change.count q.change.rows)

  row_found : Able q → (b : Bool) → i < length (map put new) → Found q Insert b i (map put new)
  row_found a b h =
      let r = take q.change.count q.change.rows in
      let k = in_rows a h in
      record {
        row = λ e. k;
        line = tt;
        formula =
            map_at put new i (row_of q.shape.width no_row) F.no_formula (omega (arith, length-map new put))
            ∙ ap put (map_at (row_of q.shape.width) r i no_row _ (omega (arith, length-map new put, length-map r (row_of q.shape.width))) ∙ ap (row_of q.shape.width) (get_or-take q.change.count q.change.rows i no_row k));
      }

  line_found : (v : Verb) (b : Bool) (ls : List Line) → (v ≡ Insert → ⊥) → (i < length ls → Numbered (version_of q.version) v b i) → get_or ls i insertion ≡ line_for (version_of q.version) v b i → i < length (map (F.formula (question_of q) (condition_for v q) (modes_for v q i)) ls) → Found q v b i (map (F.formula (question_of q) (condition_for v q) (modes_for v q i)) ls)
  line_found v b ls other there is h =
      let f = F.formula (question_of q) (condition_for v q) (modes_for v q i) in
      let k : i < length ls = omega (arith, length-map ls f) in
      record { row = λ e. absurd (other e); line = there k; formula = map_at f ls i insertion F.no_formula k ∙ ap f is }

  found_by : (v : Verb) (b : Bool) → Buildable v q → i < length (lists (question_of q) (change_by v q.shape.width q.change) b) → Found q v b i (lists (question_of q) (change_by v q.shape.width q.change) b)
  found_by Insert true a h = row_found a true h
  found_by Insert false a h =
      let e = not_left_out (question_of q).front (question_of q).back (map put new) i h in
      subst (Found q Insert false i) (sym e) (row_found a false (subst (λ l. i < length l) e h))
  found_by Delete b a h = line_found Delete b (deletion b) (λ e. not_insert e) (λ k. k) refl h
    where
      not_insert : ◌≡◌ {A = Verb} Delete Insert → ⊥
      not_insert e = let z : ◌≡◌ {A = ℕ} 0 1 = cc in absurd (omega arith)
  found_by Modify b a h =
      let e = version_is q in
      line_found Modify b (modification (question_of q).version b) (λ e. not_insert e) (λ k. subst (λ x. i < length (modification x b)) e k) (ap (λ x. get_or (modification x b) i insertion) e) h
    where
      not_insert : ◌≡◌ {A = Verb} Modify Insert → ⊥
      not_insert e = let z : ◌≡◌ {A = ℕ} 0 1 = cc in absurd (omega arith)

pub found : (q : Question) (asked i : ℕ) → Buildable q.change.verb q → i < length (F.formulas (question_of q) asked) → Found q q.change.verb (eqb asked 1) i (F.formulas (question_of q) asked)
found q asked i a h =
    let e = by q asked q.change.verb refl in
    subst (Found q q.change.verb (eqb asked 1) i) (sym e) (found_by q i q.change.verb (eqb asked 1) a (subst (λ l. i < length l) e h))

-- ---- every line finds room

fits_at : (ls : List Line) (i : ℕ) → i < length ls → Every Fits ls → Fits (get_or ls i insertion)
fits_at [] i h e = absurd (omega arith)
fits_at (l ∷ ls) zero h e = e.0
fits_at (l ∷ ls) (suc i) h e = fits_at ls i (omega arith) e.1

pub line_fits : (x : Version) (v : Verb) (b : Bool) (i : ℕ) → Numbered x v b i → Fits (line_for x v b i)
line_fits x Insert b i h = insertion_fits
line_fits x Delete b i h = fits_at (deletion b) i h (deletion_fits b)
line_fits x Modify b i h = fits_at (modification x b) i h (modification_fits x b)

-- ---- a formula from its program and its vertices

outlined : (Q : M.Question) (f : compiled.Formula) (d : Condition) (ms : List Mode) (b : Bool) (p : Part) (ps : List Part) → f.pairs ≡ b → Means f.program (read_parts (F.programs Q d ms) (rows_of Q b) p ps) → Spans f.vertices (cond b (F.both_ranges Q) (F.first_ranges (columns Q))) → Compiled f (F.formula Q d ms (line_by b p ps))
outlined Q f d ms true p ps k m s = record { program = m; pairs = k; vertices = s }
outlined Q f d ms false p ps k m s = record { program = m; pairs = k; vertices = s }

module _ (q : Question) (f : compiled.Formula) (l : declared.Line) (d : types.Context) (v : Verb) (b : Bool) (i : ℕ) (fs : List F.Formula) (w : Found q v b i fs) (t : Tabled l (line_for (version_of q.version) v b i)) (n : Done q (condition_for v q) (modes_for v q i) l.pairs d) where
  pub written : f.pairs ≡ l.pairs → Means f.program (read_parts (words_of (question_of q) d) (rows_of (question_of q) d.pairs) (first_of l) (rest_of l)) → Spans f.vertices (cond l.pairs (F.both_ranges (question_of q)) (F.first_ranges (columns (question_of q)))) → Compiled f (formula_at fs i)
  written e m s =
      let Q = question_of q in
      let line = line_for (version_of q.version) v b i in
      let k = subst (λ two. Means f.program (read_parts (words_of Q d) (rows_of Q two) (first_of l) (rest_of l))) n.pairs m in
      subst (Compiled f) (sym w.formula)
      (subst (λ x. Compiled f (F.formula Q x (modes_for v q i) line)) n.condition
      (subst (λ x. Compiled f (F.formula Q (tokens_of d.chosen.now) x line)) n.modes
      (subst (λ x. Compiled f (F.formula Q (tokens_of d.chosen.now) (modes_of d.sight) x)) t.is (outlined Q f (tokens_of d.chosen.now) (modes_of d.sight) l.pairs (first_of l) (rest_of l) e k s))))
