-- Delete: its formulas are exact.
use mathlib.Core.Path.{sym}
use mathlib.Core.Logic.Iff
use mathlib.Core.Logic.{inl, inr}
use lib.Dec.{T, T_not}
use Rattle.page_meaning.specs.Condition.{Condition, Row, meets}
use Rattle.page_meaning.specs.Contents.{Question, delete, look}
use Rattle.page_meaning.specs.WellFormed.{Mine, Uses}
use Rattle.page_meaning.proofs.Truth.{and_in, parts, test}
use Rattle.page_meaning.proofs.Fates.{Seen, vanishes, both_show, one_left}
use Rattle.page_meaning.proofs.RowsAfter.{fate_of}
use Rattle.page_meaning.proofs.BreakingContents.{Exact, breaks1, breaks2}

gone : (q : Question) (d : Condition) (r : Row) → T (meets d r) → ¬ Seen q (fate_of q (delete d)) r
gone q d r t s = elim s [ inl n ↦ T_not (meets d r) n t | inr m ↦ m.0 ]

pub delete_exact : (q : Question) (d : Condition) → Uses (Mine q) d → Exact q (delete d)
delete_exact q d ok = let k = fate_of q (delete d) in record {
  quiet = λ f. record {
    remain = λ u i c. elim (test (meets d (look u))) [ inl t ↦ absurd (f.0 (u, i, search and_in)) | inr t ↦ inl t ];
    enter = λ u i m. absurd m;
    same = λ u i m. absurd m;
    fresh = λ c o v t. t.1.here;
  };
  settled = λ f. record {
    enter = λ u i m. absurd m;
    together = λ u w p s. elim (test (meets d (look w))) [
      | inl t ↦ elim s [ inl n ↦ let c = p.shown.0 in let b = p.shown.1 in absurd (f.0 (w, u, p.second, p.first, sym p.part, search and_in)) | inr m ↦ absurd m.0 ]
      | inr t ↦ inl t
    ];
    both = λ u w p m. absurd m;
    mixed = λ u w p m. absurd m;
    fresh = λ c e o p v t. absurd t.1.here;
  };
  broken1 = (λ m. breaks1 q (delete d) ok (λ r h. h) m.0 m.1 (vanishes q k (look m.0) (search parts) (gone q d (look m.0) (search parts))), tt);
  broken2 = (
    λ m. breaks2 q (delete d) ok (λ r h. h) m.0 m.1 m.2 m.3 (both_show q k (look m.0) (look m.1) (search parts) (search parts) m.4)
        (λ same. one_left q k (look m.1) (look m.0) (search parts) (inl (search parts)) (gone q d (look m.0) (search parts)) (λ v. Iff.symm (same v))),
    tt,
  );
}
