-- FORMAT 9.5: the shortcuts that concern contents, shown wrong by our definitions.
use native.Mathlib.Omega.{arith}
use mathlib.Core.Logic.{inl, inr}
use mathlib.Core.Bool.{Bool, true, false, not, ◌&&◌, ◌||◌}
use mathlib.Core.List.{[], ◌∷◌, head-eq_of_cons-eq}
use lib.IntN.{pos, negsuc, ◌+ℤ◌}
use lib.Signed.{le_z, lt_z}
use lib.Dec.{T, T_not, not_T}
use Rattle.page_numbers.proofs.Bridge.{from_le_z, to_le_z, from_lt_z, +law}
use Rattle.page_meaning.specs.Condition.{compare, more, constant, meets, run}
use Rattle.page_meaning.specs.Contents.{version1, Values, ◌∈◌, each, look, in_range, part, fits, columns, Unchanged, Irrelevant, Computable}
use Rattle.page_meaning.specs.Trouble.{moved, new_fits}
use Rattle.page_meaning.proofs.Words.{C, S, moves}
use Rattle.page_meaning.specs.Witness.{cut, alone}
use Rattle.page_meaning.specs.Verdicts.{Relevant}
use Rattle.page_meaning.specs.Examples.{keys, vals, above_v, inserting, holding, hidden, lower, too_low, too_high, picked, five, shortcut}
use Rattle.page_meaning.proofs.Truth.{or_l, or_r, parts}
use Rattle.page_meaning.proofs.Tables.{only}
use Rattle.page_meaning.proofs.Agreement.{relevant, irrelevant_agrees, computable_agrees}

-- ---- an insert shown beside a row of the changed table: the list does not change

three : (r : Values) → r ∈ ((pos 3 ∷ pos 10 ∷ []) ∷ []) → T (fits keys r)
unfolding in_range
three r h = rw (only h) tt

-- without a row it does change
insert_shown : Relevant inserting (holding [])
unfolding in_range meets run moved cut alone
insert_shown = (relevant inserting three).0 (vals 3 10 9 3, tt, tt)

insert_not_shown : Unchanged inserting (holding ((pos 3 ∷ pos 10 ∷ []) ∷ []))
unfolding each
insert_not_shown v = (
  λ t. (t.0, record { before = t.1.before; here = inl (only t.1.here); after = t.1.after }, t.2),
  λ t. (t.0, record { before = t.1.before; here = elim t.1.here [ inl e ↦ inl e | inr h ↦ h ]; after = t.1.after }, t.2),
)

-- ---- visible columns alone: g is computable though V is hidden

hidden_computable : Computable hidden
unfolding meets run
hidden_computable = (computable_agrees hidden (omega arith)).0 (
  λ m. let v = look m.1 1 in let c : T (le_z (pos 10) v) = search parts depth 9 in T_not (le_z (pos 5) v) (search parts depth 9) (to_le_z (pos 5) v (omega (arith, from_le_z (pos 10) v c))),
  tt,
)

-- ---- without the ranges delete V > 30 would not be irrelevant

-- V, of values in range
below : (u : Values) → T (fits (columns too_high) u) → T (le_z (look u 1) (pos 30))
unfolding in_range
below [] h = absurd h
below (a ∷ []) h = absurd (search parts)
below (a ∷ b ∷ u) h = search parts depth 9

too_high_irrelevant : Irrelevant too_high
unfolding meets run
too_high_irrelevant = (irrelevant_agrees too_high (omega arith)).0 (
  λ m. let v = look m.0 1 in let h : T (lt_z (pos 30) v) = search parts depth 9 in omega (arith, from_lt_z (pos 30) v h, from_le_z v (pos 30) (below m.0 m.1)),
  tt,
)

-- and a row out of range meets the formula
too_high_unranged : T (C too_high (look (vals 9 31 9 9)) && meets (compare more 1 (constant (pos 30)) ∷ []) (look (vals 9 31 9 9)))
unfolding meets run
too_high_unranged = tt

-- ---- without the test of new values k would not be irrelevant

stuck : (u : Values) → T (fits (columns too_low) u) → ¬ T (moves too_low (above_v 10) lower (look u))
unfolding new_fits in_range
stuck u h t = let v = look u 1 in let l : T (le_z (pos 0) (v +ℤ negsuc 39)) = search parts depth 9 in
    omega (arith, from_le_z (pos 0) (v +ℤ negsuc 39) l, from_le_z v (pos 30) (below u h), +law v (negsuc 39))

too_low_irrelevant : Irrelevant too_low
too_low_irrelevant = (irrelevant_agrees too_low (omega arith)).0 (λ m. stuck m.0 m.1 (search parts), (λ m. stuck m.0 m.1 (search parts), (λ m. stuck m.0 m.1 (search parts), tt)))

too_low_computable : Computable too_low
too_low_computable = (computable_agrees too_low (omega arith)).0 (
  λ m. stuck m.0 m.1 (search parts),
  (
    λ m. T_not (S too_low (above_v 10) lower version1 (look m.1)) (search parts) (or_l (not (moves too_low (above_v 10) lower (look m.1))) (C too_low (moved too_low lower (look m.1))) (not_T (moves too_low (above_v 10) lower (look m.1)) (stuck m.1 m.3))),
    (λ m. stuck m.0 m.2 (search parts depth 9), (λ m. stuck m.0 m.2 (search parts depth 9), tt)),
  ),
)

-- and a row in range meets the first formula without the test
too_low_untested : T (fits (columns too_low) (vals 9 30 9 9)) × T (meets (above_v 10) (look (vals 9 30 9 9)) && C too_low (look (vals 9 30 9 9)) && not (C too_low (moved too_low lower (look (vals 9 30 9 9)))))
unfolding in_range meets run moved
too_low_untested = (tt, tt)

-- ---- the properties 3', 4' and 5' of TR 235 are enough, but not needed: an example that is computable though V is hidden

-- the last formula: K = 3 or (K = 5 and V ≥ 20), not so with another V, and K ≠ 5
never_mixed : (p l r x z : Bool) → T ((p || (l && r) && x) && true) → T (not ((p || (l && r) && z) && true)) → T (not (r && l) || false) → ⊥
never_mixed true l r x z a b c = b
never_mixed false false r x z a b c = a
never_mixed false true false x z a b c = a
never_mixed false true true x z a b c = c

shortcut_computable : Computable shortcut
unfolding in_range meets run moved new_fits part
shortcut_computable = (computable_agrees shortcut (omega arith)).0 (
  λ m. T_not (le_z (pos 10) (look m.0 1)) (search parts) (search parts),
  (
    λ m. T_not (S shortcut picked five version1 (look m.1)) (search parts) (or_r (not (moves shortcut picked five (look m.1))) (le_z (pos 10) (look m.1 1)) (search parts)),
    (
      λ m. let f : T false = search parts depth 9 in f,
      (
        λ m. let k = look m.1 0 in let a : T (moves shortcut picked five (look m.0)) = search parts depth 9 in
            never_mixed (le_z k (pos 3) && le_z (pos 3) k) (le_z k (pos 5)) (le_z (pos 5) k) (le_z (pos 20) (look m.0 1)) (le_z (pos 20) (look m.1 1)) (rw (head-eq_of_cons-eq m.4) at a) (search parts depth 9) (search parts depth 9),
        tt,
      ),
    ),
  ),
)
