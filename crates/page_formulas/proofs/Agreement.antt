-- Each formula's program has the truth of the trouble list's formula at the same position, on the rows that an assignment stands for.
use Prim.Native.Nat.{ℕ}
use mathlib.Core.Path.{◌≡◌, refl, ap, ◌∙◌}
use mathlib.Core.Bool.{Bool, true, false, cond}
use mathlib.Core.List.{List}
use lib.Dec.{eqb}
use lib.IntN.{pos}
use Rattle.page_meaning.specs.Condition.{Condition, Row, meets}
use Rattle.page_meaning.specs.Contents.{Question, Mode}
use Rattle.page_meaning.specs.Claims.{Part, Line, single, double, mode_at, read_parts, formulas_by}
use Rattle.page_meaning.specs.Trouble.{one, two}
use Rattle.page_meaning.specs.Trouble as trouble
use Rattle.page_formulas.specs.Program.{Values, run, truth}
use Rattle.page_formulas.specs.Compilation.{Sight}
use Rattle.page_formulas.specs.Parts.{condition_program}
use Rattle.page_formulas.specs.Formulas.{Formula, first_sight, second_sight, one_row, two_rows, bounded_all, programs, formula, irrelevance, computability, formulas}
use Rattle.page_formulas.proofs.Compilation.{run_append, Sees}
use Rattle.page_formulas.proofs.Pieces.{Pushes, pushes_truth, pushes_and, pushes_or, pushes_not, pushes_condition}
use Rattle.page_formulas.proofs.Usability.{Exists, Doable, Usable, contexts_doable}
use Rattle.page_formulas.proofs.Readings.{Match, match_parts, Matched, match_formulas}
use Rattle.page_formulas.proofs.Sights.{after_sees, bounded_all_is, differs_over_is}

-- the program's truth is the test's, on the rows that ρ shows
module _ (q : Question) where
  pub record Single (f : Row → Bool) (F : Formula) : Type 0 where
    pub is : F ≡ one_row q F.program
    pub means : (ρ : Values) → ρ 0 ≡ pos 0 → (r : Row) → Sees (Exists q) ρ first_sight r → truth ρ F.program ≡ f r

  pub record Double (f : Row → Row → Bool) (F : Formula) : Type 0 where
    pub is : F ≡ two_rows q F.program
    pub means : (ρ : Values) → ρ 0 ≡ pos 0 → (r s : Row) → Sees (Exists q) ρ first_sight r → Sees (Exists q) ρ (second_sight q) s → truth ρ F.program ≡ f r s

  abbrev pub Agrees : trouble.Formula → Formula → Type 0
  Agrees (one f) F = Single f F
  Agrees (two f) F = Double f F

  -- the trouble list and the programs, position by position
  abbrev pub AgreeAll : List trouble.Formula → List Formula → Type 0
  AgreeAll φs Fs = Matched Agrees φs Fs

  -- the trouble list of the verdict asked for
  abbrev pub troubles : ℕ → List trouble.Formula
  troubles asked = cond (eqb asked 1) (trouble.irrelevance q q.change) (trouble.computability q q.change)

-- ---- one law a word

module _ (q : Question) (k : Usable q) (ρ : Values) (z : ρ 0 ≡ pos 0) (d : Condition) (ms : List Mode) (u : Doable q d ms) where
  abbrev Seen : Sight → Row → Type 0
  Seen σ r = Sees (Exists q) ρ σ r

  D-is : (σ : Sight) (r : Row) → Seen σ r → Pushes ρ (condition_program σ d) (meets d r)
  D-is σ r o = pushes_condition (Exists q) ρ z σ r o d u.uses u.shaped

  words_agree : Match Seen Seen (Pushes ρ) (programs q d ms) (trouble.tests q d ms)
  unfolding run
  words_agree = record {
    same = λ σ r o. o;
    F = λ σ r o. after_sees (Exists q) ρ z σ r o q ms u.reads;
    C = λ σ r o. pushes_condition (Exists q) ρ z σ r o q.condition k.uses k.shaped;
    D = D-is;
    ranged = λ σ r o. record { runs = λ st. bounded_all_is (Exists q) ρ z σ r o q.changed ms u.reads true st };
    M = λ σ r o. let ranges = bounded_all σ q.changed ms in
        record { runs = λ st. run_append ρ (condition_program σ d) ranges st ∙ ap (run ρ ranges) ((D-is σ r o).runs st) ∙ bounded_all_is (Exists q) ρ z σ r o q.changed ms u.reads (meets d r) st };
    differ = λ σ τ r s o p. record { runs = λ st. differs_over_is (Exists q) ρ z σ τ r s o p (mode_at q ms) q.visible k.visible false st };
    deny = pushes_not ρ;
    both = pushes_and ρ;
    either = pushes_or ρ;
  }

  parts_agree : (σ : Bool → Sight) (r : Bool → Row) → ((i : Bool) → Seen (σ i) (r i)) → (p : Part) (ps : List Part) → truth ρ (read_parts (programs q d ms) σ p ps) ≡ read_parts (trouble.tests q d ms) r p ps
  parts_agree σ r o p ps = pushes_truth ρ (match_parts Seen Seen (Pushes ρ) words_agree σ r o p ps)

-- ---- lines, and the lists

module _ (q : Question) (k : Usable q) where
  both_seen : (ρ : Values) (r s : Row) → Sees (Exists q) ρ first_sight r → Sees (Exists q) ρ (second_sight q) s → (i : Bool) → Sees (Exists q) ρ (cond i (second_sight q) first_sight) (cond i s r)
  both_seen ρ r s o p true = p
  both_seen ρ r s o p false = o

  line_agrees : (d : Condition) (ms : List Mode) → Doable q d ms → (l : Line) → Agrees q (trouble.formula q d ms l) (formula q d ms l)
  line_agrees d ms u (single p ps) = record { is = refl; means = λ ρ z r o. parts_agree q k ρ z d ms u (λ i. first_sight) (λ i. r) (λ i. o) p ps }
  line_agrees d ms u (double p ps) = record { is = refl; means = λ ρ z r s o t. parts_agree q k ρ z d ms u (λ i. cond i (second_sight q) first_sight) (λ i. cond i s r) (both_seen ρ r s o t) p ps }

  -- the formulas asked for are the trouble list's, one by one
  pub formulas_agree : (asked : ℕ) → AgreeAll q (troubles q asked) (formulas q asked)
  formulas_agree asked = go (eqb asked 1)
    where
      all : (b : Bool) → AgreeAll q (formulas_by (trouble.formula q) q q.change b) (formulas_by (formula q) q q.change b)
      all = match_formulas (Agrees q) (trouble.formula q) (formula q) (Doable q) (λ d ms u l f. line_agrees d ms u l) q q.change (contexts_doable q q.change k.change)

      go : (b : Bool) → AgreeAll q (cond b (trouble.irrelevance q q.change) (trouble.computability q q.change)) (cond b (irrelevance q q.change) (computability q q.change))
      go true = all true
      go false = all false
