-- With every place tested at given values, what is known of a formula is its truth at them.
use Prim.Native.Nat.{ℕ, suc, ◌≤◌, ◌<◌}
use mathlib.Core.Path.{◌≡◌, sym, ap, ap₂, ◌∙◌}
use mathlib.Core.Bool.{Bool, true, false}
use mathlib.Core.List.{List, [], ◌∷◌, map}
use native.Mathlib.Omega.{arith}
use lib.IntN.{ℤ, pos, ◌+ℤ◌}
use lib.Signed.{le_z}
use lib.ListN.{length, get_or, take}
use lib.Seq.{get_or-take, length-take-le}
use Rattle.page_meaning.specs.Limits.{most_decisions}
use Rattle.page_formulas.specs.Program.{Values, Place, test, truth, places}
use Rattle.page_formulas.specs.Kinds.{nowhere, known_kinds}
use Rattle.page_formulas.specs.Knowledge.{Three, fails, passes, open?, known}
use Rattle.page_formulas.specs.Formulas.{Formula}
use Rattle.page_formulas.specs.Truths.{Agrees, Says, Sure}
use Rattle.page_formulas.proofs.Truths.{known_says, known_sure, known_kinds_lem}
use Rattle.program.specs.Lent.{Lent, place_at}
use Rattle.program.specs.Meanings.{number_of}
use Rattle.program.specs.declared.types.Instruction.{Instruction}
use Rattle.program.specs.declared.types.Place as compiled
use Rattle.checker_rows.specs.NoSheet.{test_at, Tested}
use Rattle.program.proofs.Loans.{lent_length, lent_place}

agrees_by : (x : Values) (ps : List Place) (ds : List Bool) → ((i : ℕ) → i < length ps → test x (get_or ps i nowhere) ≡ get_or ds i false) → Agrees x ps ds
agrees_by x [] ds h = tt
agrees_by x (p ∷ ps) [] h = tt
agrees_by x (p ∷ ps) (d ∷ ds) h = (h 0 (omega arith), agrees_by x ps ds (λ i l. h (suc i) (omega arith)))

-- what is known says the truth, and is known
abbrev pub Settles : Three → Bool → Type 0
Settles fails b = b ≡ false
Settles passes b = b ≡ true
Settles open? b = ⊥

settled : (t : Three) (b : Bool) → Says t b → Sure t → Settles t b
settled fails b h s = h
settled passes b h s = h
settled open? b h s = s

module _ (F : Formula) (ks : List Instruction) (ps : List compiled.Place) (lent : Lent F.program ks ps) (x : Values) (vals : List ℤ) (same : (v : ℕ) → get_or vals v (pos 0) ≡ x v) (truths : List Bool) (tested : Tested vals ps truths) (few : length ps ≤ most_decisions) where
  abbrev ds : List Bool
  ds = take (length ps) truths

  test_is : (i : ℕ) → test_at vals ps i ≡ test x (get_or (places F.program) i nowhere)
  test_is i = ap₂ (λ a b. le_z a (b +ℤ (place_at ps i).most)) (same (place_at ps i).left) (same (place_at ps i).right) ∙ ap (test x) (lent_place F.program ks ps lent i)

  decided : (i : ℕ) → i < length (places F.program) → test x (get_or (places F.program) i nowhere) ≡ get_or ds i false
  decided i h =
      let l : i < length ps = omega (arith, lent_length F.program ks ps lent) in
      sym (get_or-take (length ps) truths i false l ∙ tested.each i l ∙ test_is i)

  pub met_settles : (t : Three) → t ≡ known_kinds (map number_of ks) ds → Settles t (truth x F.program)
  met_settles t e =
      let k : t ≡ known F.program ds = e ∙ ap (λ k. known_kinds k ds) lent.instructions ∙ sym (known_kinds_lem F.program ds) in
      let long : length (places F.program) ≤ length ds = omega (arith, lent_length F.program ks ps lent, length-take-le (length ps) truths (omega (arith, tested.long))) in
      rw k (settled (known F.program ds) (truth x F.program) (known_says x F.program ds (agrees_by x (places F.program) ds decided)) (known_sure F.program ds long))
