-- A question's columns and conditions, as a context lends them, are the question's.
use Rattle.std.proofs.Common.{◌≡◌, ℕ, zero, suc, ◌≤◌, ◌<◌, Bool, true, false, List, [], ◌∷◌, ◌++◌, map, length, take, drop, ℤ, refl, sym, ap, ◌∙◌, subst, arith}
use Rattle.std.proofs.Math.ListN.{length-map}
use Rattle.std.proofs.Math.Seq.{length-take-le}
use Rattle.page_meaning.specs.Contents.{Range, become, columns}
use Rattle.page_meaning.specs.Contents as M
use Rattle.page_meaning.specs.WellFormed.{Reads}
use Rattle.page_questions.specs.Layout.{ranges_of, visible_from, question_from}
use Rattle.question.specs.Held.{column_of, question_with, ShapeHeld}
use Rattle.question.specs.declared.types.Change.{Change}
use Rattle.question.specs.declared.types.Column.{Column}
use Rattle.question.specs.declared.types.Condition.{Condition}
use Rattle.question.specs.declared.types.Shape.{Shape}
use Rattle.question.specs.declared.types.Version.{Version}
use Rattle.page_formulas.specs.Compilation as C
use Rattle.page_formulas.specs.Formulas.{bounded_new, bounded_all}
use Rattle.sights.specs.Sights.{shown_from, modes_of}
use Rattle.sights.proofs.Shapes.{first_with, columns_with, changed_with}
use Rattle.pieces.specs.Pieces.{tokens_of, table_from, Compilable}
use Rattle.pieces.proofs.Tests.{no_modes}
use Rattle.formula_contexts.specs.Contexts.{Of, Under, Made}
use Rattle.formula_contexts.specs.declared.contexts.Context.{Context}

-- ---- lists of columns

shown_visible : (cs : List Column) (k : ℕ) → visible_from k (map column_of cs) ≡ shown_from k (map (λ c. c.visible) cs)
unfolding visible_from shown_from
shown_visible [] k = refl
shown_visible (c ∷ cs) k = go (column_of c).range c.visible (shown_visible cs (suc k))
  where
    go : (g : Range) (b : Bool) → visible_from (suc k) (map column_of cs) ≡ shown_from (suc k) (map (λ c. c.visible) cs) → visible_from k (record { range = g; shown = b } ∷ map column_of cs) ≡ shown_from k (b ∷ map (λ c. c.visible) cs)
    go g true e = ap (λ l. k ∷ l) e
    go g false e = e

table_is : (n : ℕ) (cs : List Column) → table_from n cs ≡ drop n (map (λ c. c.range) (map column_of cs))
table_is zero [] = refl
table_is zero (c ∷ cs) = ap (λ l. (column_of c).range ∷ l) (table_is zero cs)
table_is (suc n) [] = refl
table_is (suc n) (c ∷ cs) = table_is n cs

-- range tests see no more of the table than there are modes
tests_take : (σ : C.Sight) (n : ℕ) (gs : List Range) (ms : List M.Mode) → length ms ≤ n → bounded_all σ gs ms ≡ bounded_all σ (take n gs) ms
unfolding bounded_all
tests_take σ n gs [] h = no_modes σ gs ∙ sym (no_modes σ (take n gs))
tests_take σ zero gs (m ∷ ms) h = absurd (omega arith)
tests_take σ (suc n) [] (m ∷ ms) h = refl
tests_take σ (suc n) (g ∷ gs) (m ∷ ms) h = ap (λ l. bounded_new m σ g ++ l) (tests_take σ n gs ms (omega arith))

-- ---- a question's context

module _ (v : Version) (h : Shape) (cs : List Column) (d : Condition) (ch : Change) (held : ShapeHeld h) (l : h.total ≤ length cs) where
  abbrev Q : M.Question
  Q = question_with v h cs d ch

  visible_are : Q.visible ≡ shown_from 0 (map (λ c. c.visible) (take h.total cs))
  unfolding question_from
  visible_are = shown_visible (take h.total cs) 0

  total_is : length (take h.total cs) ≡ h.total
  total_is = length-take-le h.total cs l

  columns_count : length (columns Q) ≡ h.total
  columns_count = ap length (columns_with v h cs d ch held l) ∙ simp length-map total_is

  tests_same : (σ : C.Sight) (ms : List M.Mode) → length ms ≤ h.width → bounded_all σ (table_from h.first (take h.total cs)) ms ≡ bounded_all σ Q.changed ms
  tests_same σ ms few =
      ap (λ gs. bounded_all σ gs ms) (table_is h.first (take h.total cs))
      ∙ tests_take σ h.width (drop h.first (ranges_of (map column_of (take h.total cs)))) ms few
      ∙ ap (λ gs. bounded_all σ gs ms) (sym (changed_with v h cs d ch held l))

  listed_is : Q.condition ≡ tokens_of (take d.count d.tokens)
  unfolding question_from
  listed_is = refl

  module _ (a : Compilable (Of h) (take d.count d.tokens)) (r : Context) (same : r.sight.columns.now ≡ take h.total cs) (first : r.sight.first ≡ h.first) (listed : r.listed.now ≡ take d.count d.tokens) (few : length (modes_of r.sight) ≤ h.width) where
    grounded : Under Q r
    grounded =
        record {
          first = first_with v h cs d ch held l ∙ sym first;
          total = columns_count ∙ sym (ap length same ∙ total_is);
          visible = rw same visible_are;
          listed = listed_is ∙ ap tokens_of (sym listed);
          tests = λ σ. rw (same, first) (tests_same σ (modes_of r.sight) few);
        }

    pub grounds_done : r.sight.moved ≡ true → Compilable (Of h) r.chosen.now → Reads (Of h) (modes_of r.sight) → Made Q (tokens_of r.chosen.now) (modes_of r.sight) r.pairs r
    grounds_done moved ready reads =
        let n : length r.sight.columns.now ≡ h.total = ap length same ∙ total_is in
        record {
          legible =
              record {
                question = Q;
                under = grounded;
                usable =
                    record {
                      inside = omega (arith, held.inside);
                      few = omega (arith, held.few_columns);
                      reads = rw moved (there (λ P. Reads P (modes_of r.sight)) reads);
                    };
                moved = moved;
                listed = rw listed (there (λ P. Compilable P (take d.count d.tokens)) a);
                chosen = there (λ P. Compilable P r.chosen.now) ready;
              };
          under = grounded;
          condition = refl;
          modes = refl;
          pairs = refl;
        }
      where
        there : (P : (ℕ → Type 0) → Type 0) → P (Of h) → P (λ i. i < length r.sight.columns.now)
        there P p = subst (λ n. P (λ i. i < n)) (sym (ap length same ∙ total_is)) p

-- ---- a row put in: new values that come from no column
pub reads_become : (P : ℕ → Type 0) (vs : List ℤ) → Reads P (map become vs)
reads_become P [] = tt
reads_become P (v ∷ vs) = reads_become P vs
