-- What is known of a formula's parts under the facts so far.
use Rattle.std.specs.Prelude.{ℕ, suc, ◌<◌, Bool, true, false, cond, List, get_or, pos, ◌+ℤ◌}
use Rattle.std.specs.Int.Signed.{le_z, lt_z}
use Rattle.page_walks.specs.Grid.{Grid, weight}
use Rattle.page_walks.specs.Walk.{Sat}
use Rattle.page_formulas.specs.Program.{Values, Place}
use Rattle.page_formulas.specs.Knowledge.{Three, fails, passes, open?, not3}
use Rattle.page_formulas.specs.Truths.{Says}
use Rattle.truth.specs.Values.{three_of}
use Rattle.truth.specs.declared.truths.Truth.{Truth}
use Rattle.truth.specs.declared.truths.Truth.TheVariants.{Fails}
use Rattle.program_tree.specs.declared.types.Tree.{Tree}
use Rattle.program_tree.specs.Nodes.{Describes}

-- what is known of a part's being as wanted
abbrev pub wanted_by : Bool → Three → Three
wanted_by true a = a
wanted_by false a = not3 a

-- what the facts say of a place: implied, contradicted, or nothing
abbrev pub seen_place : Grid → Place → Three
seen_place near q = cond (le_z (weight near q.right q.left) q.most) passes (cond (lt_z (weight near q.left q.right +ℤ q.most) (pos 0)) fails open?)

module _ (t : Tree) where
  -- what is seen of an instruction is so, at all values that meet the facts
  pub record Seen (near : Grid) (i : ℕ) (seen : Truth) : Type 0 where
    pub so : (v : Values → ℕ → Bool) → Describes t v → (x : Values) → Sat (weight near) (suc t.last) x → Says (three_of seen) (v x i)

  -- of each of the first n
  pub record Sees (near : Grid) (n : ℕ) (seen : List Truth) : Type 0 where
    pub each : (j : ℕ) → j < n → Seen near j (get_or seen j Fails)
