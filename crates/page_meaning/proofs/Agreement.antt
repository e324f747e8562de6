-- FORMAT 5.1: the verdict by formulas agrees with the meaning of FORMAT 1.6. It is proved for every family of contents that has in it all
-- contents with at most one row a table.
use mathlib.Core.Logic.{◌↔◌}
use mathlib.Core.List.{List, [], ◌∷◌}
use Rattle.page_meaning.specs.Contents.{Question, Change, insert, delete, modify, Contents, Valid, Family, IrrelevantIn, ComputableIn, Irrelevant, Computable}
use Rattle.page_meaning.specs.WellFormed.{ChangeOk, WellFormed}
use Rattle.page_meaning.specs.Trouble.{Formula, one, two, All, Met, AllFail, irrelevance, computability, first_of, second_of}
use Rattle.page_meaning.specs.Witness.{Small}
use Rattle.page_meaning.specs.Verdicts.{Ample, Relevant, Uncomputable}
use Rattle.page_meaning.proofs.QuietRows.{unchanged, alike}
use Rattle.page_meaning.proofs.BreakingContents.{Exact, witness_valid, witness_small, empty_valid, empty_small}
use Rattle.page_meaning.proofs.Insertion.{insert_exact}
use Rattle.page_meaning.proofs.Deletion.{delete_exact}
use Rattle.page_meaning.proofs.Modification.{modify_exact}

-- the three kinds
exact : (q : Question) (ch : Change) → ChangeOk q ch → Exact q ch
exact q (insert new) ok = insert_exact q new ok
exact q (delete d) ok = delete_exact q d ok
exact q (modify d ms) ok = modify_exact q d ms ok

-- ---- the contents that rows which meet a formula stand for

abbrev Fine : Question → Contents → Type 0
Fine q c = Valid q c × Small c

first_fine : (q : Question) (ch : Change) (φ : Formula) (m : Met q φ) → Fine q (first_of q ch φ m)
first_fine q ch (one f) m = (witness_valid q ch m.0 m.1, witness_small q ch m.0)
first_fine q ch (two f) m = (witness_valid q ch m.0 m.2, witness_small q ch m.0)

second_fine : (q : Question) (ch : Change) (φ : Formula) (m : Met q φ) → Fine q (second_of q ch φ m)
second_fine q ch (one f) m = (empty_valid q, empty_small q)
second_fine q ch (two f) m = (witness_valid q ch m.1 m.3, witness_small q ch m.1)

all_imp : (P Q : Formula → Type 0) → ((φ : Formula) → P φ → Q φ) → (l : List Formula) → All P l → All Q l
all_imp P Q f [] a = tt
all_imp P Q f (φ ∷ l) a = (f φ a.0, all_imp P Q f l a.1)

-- ---- no: rows that meet a formula give contents, at most one row a table, that show it

pub relevant : (q : Question) → WellFormed q → All (λ φ. (m : Met q φ) → Relevant q (first_of q q.change φ m)) (irrelevance q q.change)
relevant q ok = all_imp _ _ (λ φ b m. let f = first_fine q q.change φ m in record { valid = f.0; small = f.1; changes = b m }) (irrelevance q q.change) (exact q q.change ok).broken1

pub uncomputable : (q : Question) → WellFormed q → All (λ φ. (m : Met q φ) → Uncomputable q (first_of q q.change φ m) (second_of q q.change φ m)) (computability q q.change)
uncomputable q ok = all_imp _ _ (λ φ b m. let f = first_fine q q.change φ m in let s = second_fine q q.change φ m in record { valid = (f.0, s.0); small = (f.1, s.1); before = (b m).0; after = (b m).1 })
    (computability q q.change) (exact q q.change ok).broken2

pub not_irrelevant : {q : Question} {c : Contents} → Relevant q c → ¬ Irrelevant q
not_irrelevant {q} {c} r h = r.changes (h c r.valid)

pub not_computable : {q : Question} {c d : Contents} → Uncomputable q c d → ¬ Computable q
not_computable {q} {c} {d} r h = r.after (h c d r.valid.0 r.valid.1 r.before)

-- ---- both directions

pub irrelevant_exactly : (q : Question) → WellFormed q → (W : Family) → Ample q W → AllFail q (irrelevance q q.change) ↔ IrrelevantIn W q
irrelevant_exactly q ok W w = (
  λ f c o. unchanged q q.change ok ((exact q q.change ok).quiet f) c (w.inside c o),
  λ h. all_imp _ _ (λ φ r m. (r m).changes (h (first_of q q.change φ m) (w.holds _ (r m).valid (r m).small))) (irrelevance q q.change) (relevant q ok),
)

pub computable_exactly : (q : Question) → WellFormed q → (W : Family) → Ample q W → AllFail q (computability q q.change) ↔ ComputableIn W q
computable_exactly q ok W w = (
  λ f c d o p. alike q q.change ok ((exact q q.change ok).settled f) c d (w.inside c o) (w.inside d p),
  λ h. all_imp _ _ (λ φ r m. (r m).after (h (first_of q q.change φ m) (second_of q q.change φ m) (w.holds _ (r m).valid.0 (r m).small.0) (w.holds _ (r m).valid.1 (r m).small.1) (r m).before)) (computability q q.change) (uncomputable q ok),
)

-- the family of all valid contents; and the least one, so that contents of at most one row a table decide both verdicts
pub all_contents : (q : Question) → Ample q (Valid q)
all_contents q = record { inside = λ c o. o; holds = λ c o s. o }

pub small_contents : (q : Question) → Ample q (λ c. Valid q c × Small c)
small_contents q = record { inside = λ c o. o.0; holds = λ c o s. (o, s) }

pub irrelevant_agrees : (q : Question) → WellFormed q → AllFail q (irrelevance q q.change) ↔ Irrelevant q
irrelevant_agrees q ok = irrelevant_exactly q ok (Valid q) (all_contents q)

pub computable_agrees : (q : Question) → WellFormed q → AllFail q (computability q q.change) ↔ Computable q
computable_agrees q ok = computable_exactly q ok (Valid q) (all_contents q)
