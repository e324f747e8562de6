-- What the facts say of an instruction is so at all values that meet them.
use Rattle.std.proofs.Common.{ℕ, suc, ◌+◌, ◌-◌, ◌<◌, ◌≡◌, refl, Bool, true, false, List, length, get_or, pos, arith}
use Rattle.std.specs.Prelude.{cond, ◌+ℤ◌}
use Rattle.std.specs.Int.Signed.{le_z, lt_z, ◌≤ℤ◌}
use native.Mathlib.Decide.{ℕ_discrete}
use lib.ListN.{set}
use lib.Seq.{get_or-set_same, get_or-set_other}
use Rattle.page_numbers.proofs.Bridge.{ints, +law}
use Rattle.page_numbers.proofs.Machine.{le_true, lt_true, true_le, false_le}
use Rattle.page_walks.specs.Grid.{Grid, weight}
use Rattle.page_walks.specs.Walk.{Sat}
use Rattle.page_formulas.specs.Program.{Values, Place, test}
use Rattle.page_formulas.specs.Knowledge.{fails, passes, open?, and3, or3, not3}
use Rattle.page_formulas.specs.Truths.{Says}
use Rattle.page_formulas.proofs.Truths.{says_and, says_or, says_not}
use Rattle.truth.specs.Values.{three_of}
use Rattle.truth.specs.declared.truths.Truth.{Truth}
use Rattle.truth.specs.declared.truths.Truth.TheVariants.{Fails}
use Rattle.program_tree.specs.declared.types.Tree.{Tree}
use Rattle.program_tree.specs.Nodes.{Placed, kind_at, first_at, place_in, LaidRows, Describes}
use Rattle.views.specs.Views.{seen_place, Seen, Sees}

-- ---- a place

module _ (near : Grid) (q : Place) where
  says_place : (last : ℕ) → Placed last q → (x : Values) → Sat (weight near) (suc last) x → Says (seen_place near q) (test x q)
  unfolding Sat
  says_place last p x s = go (le_z (weight near q.right q.left) q.most) refl (lt_z (weight near q.left q.right +ℤ q.most) (pos 0)) refl
    where
      there : x q.left ≤ℤ (x q.right +ℤ weight near q.right q.left)
      there = s q.right q.left (p.facts true).from_is (p.facts true).to_is

      back : x q.right ≤ℤ (x q.left +ℤ weight near q.left q.right)
      back = s q.left q.right (p.facts true).to_is (p.facts true).from_is

      go : (b : Bool) → le_z (weight near q.right q.left) q.most ≡ b → (c : Bool) → lt_z (weight near q.left q.right +ℤ q.most) (pos 0) ≡ c → Says (cond b passes (cond c fails open?)) (test x q)
      go true e c f = true_le (x q.left) (x q.right +ℤ q.most) (omega (ints, le_true (weight near q.right q.left) q.most e, there, +law (x q.right) (weight near q.right q.left), +law (x q.right) q.most))
      go false e true f = false_le (x q.left) (x q.right +ℤ q.most) (omega (ints, lt_true (weight near q.left q.right +ℤ q.most) (pos 0) f, back, +law (weight near q.left q.right) q.most, +law (x q.left) (weight near q.left q.right), +law (x q.right) q.most))
      go false e false f = tt

-- ---- the other kinds

module _ (t : Tree) (laid : LaidRows t) (near : Grid) where
  pub sees_start : (seen : List Truth) → Sees t near 0 seen
  sees_start seen = record { each = λ j h. absurd (omega arith) }

  -- one instruction more
  pub sees_more : (i : ℕ) (seen : List Truth) → Sees t near i seen → i < length seen → (r : Truth) → Seen t near i r → Sees t near (i + 1) (set seen i r)
  sees_more i seen w long r f = record { each = λ j l. go j l (ℕ_discrete j i) }
    where
      go : (j : ℕ) → j < i + 1 → Dec (j ≡ i) → Seen t near j (get_or (set seen i r) j Fails)
      go j l (yes e) = rw (e, get_or-set_same seen i r Fails long) f
      go j l (no e) = rw (get_or-set_other seen i j r Fails e) (w.each j (omega arith))

  module _ (i : ℕ) (seen : List Truth) (w : Sees t near i seen) (h : i < t.count) (r : Truth) where
    abbrev k : ℕ
    k = kind_at t i

    abbrev first : Truth
    first = get_or seen (first_at t i) Fails

    abbrev last : Truth
    last = get_or seen (i - 1) Fails

    pub shows_place : k ≡ 0 → three_of r ≡ seen_place near (place_in t i) → Seen t near i r
    shows_place e a = record { so = λ v d x s. rw (a, d.told x i h, e) (says_place near (place_in t i) t.last ((laid.made i h).place e) x s) }

    pub shows_not : k ≡ 3 → three_of r ≡ not3 (three_of last) → Seen t near i r
    shows_not e a = record { so = λ v d x s. rw (a, d.told x i h, e) (says_not (three_of last) (v x (i - 1)) ((w.each (i - 1) (omega (arith, ((laid.made i h).one e).0))).so v d x s)) }

    module _ (l : 0 < k) (m : k < 3) (v : Values → ℕ → Bool) (d : Describes t v) (x : Values) (s : Sat (weight near) (suc t.last) x) where
      first_so : Says (three_of first) (v x (first_at t i))
      first_so = (w.each (first_at t i) (omega (arith, ((laid.made i h).two l m).0))).so v d x s

      last_so : Says (three_of last) (v x (i - 1))
      last_so = (w.each (i - 1) (omega (arith, ((laid.made i h).two l m).0))).so v d x s

    pub shows_and : k ≡ 1 → three_of r ≡ and3 (three_of first) (three_of last) → Seen t near i r
    shows_and e a = let l : 0 < k = omega (arith, e) in let m : k < 3 = omega (arith, e) in record { so = λ v d x s. rw (a, d.told x i h, e) (says_and (three_of first) (three_of last) (v x (first_at t i)) (v x (i - 1)) (first_so l m v d x s) (last_so l m v d x s)) }

    pub shows_or : k ≡ 2 → three_of r ≡ or3 (three_of first) (three_of last) → Seen t near i r
    shows_or e a = let l : 0 < k = omega (arith, e) in let m : k < 3 = omega (arith, e) in record { so = λ v d x s. rw (a, d.told x i h, e) (says_or (three_of first) (three_of last) (v x (first_at t i)) (v x (i - 1)) (first_so l m v d x s) (last_so l m v d x s)) }
