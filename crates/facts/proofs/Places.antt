-- The places of a formula that is lent are facts between its vertices, with small weights, whether they are taken as true or as false.
use Prim.Native.Nat.{ℕ, zero, suc, ◌<◌}
use mathlib.Core.Path.{sym, subst}
use mathlib.Core.Bool.{Bool, true, false}
use mathlib.Core.List.{List, [], ◌∷◌}
use native.Mathlib.Omega.{arith}
use lib.ListN.{length, get_or}
use lib.IntN.{negsuc, neg_ℤ}
use Rattle.page_numbers.proofs.Bridge.{+up, +dn, neg_up, neg_dn}
use Rattle.page_questions.specs.Guarantees.{Every}
use Rattle.page_formulas.specs.Formulas.{Formula}
use Rattle.page_formulas.specs.Program as P
use Rattle.page_formulas.specs.Kinds.{nowhere}
use Rattle.page_formulas.specs.ProperFormulas.{Proper, SmallPlace}
use Rattle.page_sheets.specs.Facts.{taken}
use Rattle.page_sheets.proofs.Fit.{present_below}
use Rattle.grid.specs.Edges.{Fact}
use Rattle.program.specs.declared.types.Instruction.{Instruction}
use Rattle.program.specs.declared.types.Place.{Place}
use Rattle.program.specs.Lent.{Lent, place_at}
use Rattle.program.proofs.Loans.{lent_place, lent_length}

place_at_lem : (ps : List P.Place) (Q : P.Place → Type 0) → Every Q ps → (k : ℕ) (d : P.Place) → k < length ps → Q (get_or ps k d)
place_at_lem [] Q a k d h = absurd (omega arith)
place_at_lem (p ∷ ps) Q a zero d h = a.0
place_at_lem (p ∷ ps) Q a (suc k) d h = place_at_lem ps Q a.1 k d (omega arith)

module _ (F : Formula) (ks : List Instruction) (ps : List Place) (lent : Lent F.program ks ps) (p : Proper F) where
  fact_of : (q : P.Place) → SmallPlace F.ranges q → (d : Bool) → Fact (length F.ranges) (taken q d).right (taken q d).left (taken q d).most
  fact_of q s true = record { from_is = omega (arith, present_below F.ranges q.right s.right_is); to_is = omega (arith, present_below F.ranges q.left s.left_is); high = omega (arith, s.high); low = s.low }
  fact_of q s false = record {
    from_is = omega (arith, present_below F.ranges q.left s.left_is);
    to_is = omega (arith, present_below F.ranges q.right s.right_is);
    high = omega (arith, +up (neg_ℤ q.most) (negsuc 0), neg_up q.most, s.low);
    low = omega (arith, +dn (neg_ℤ q.most) (negsuc 0), neg_dn q.most, s.high);
  }

  pub place_facts : (i : ℕ) → i < length ps → (d : Bool) → Fact (length F.ranges) (taken (place_at ps i) d).right (taken (place_at ps i) d).left (taken (place_at ps i) d).most
  place_facts i h d = subst (λ q. Fact (length F.ranges) (taken q d).right (taken q d).left (taken q d).most) (sym (lent_place F.program ks ps lent i)) (fact_of (get_or (P.places F.program) i nowhere) (place_at_lem (P.places F.program) (SmallPlace F.ranges) p.places_small i nowhere (omega (arith, lent_length F.program ks ps lent))) d)
