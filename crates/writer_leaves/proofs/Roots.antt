-- What the descent is given at the root of a compiled formula, and what its leaf is there.
use Prim.Native.Nat.{suc, ◌-◌}
use mathlib.Core.Path.{◌≡◌, refl, sym, ◌∙◌, subst}
use mathlib.Core.List.{List, []}
use native.Mathlib.Omega.{arith}
use lib.ListN.{length}
use lib.IntN.{ℤ}
use Rattle.page_meaning.specs.Limits.{most_vertices}
use Rattle.page_walks.specs.Grid.{Grid}
use Rattle.page_formulas.specs.Formulas as written
use Rattle.page_formulas.specs.Program.{Values}
use Rattle.page_formulas.specs.ProperFormulas.{Proper}
use Rattle.page_sheets.specs.Growth.{open_at, grow_tree}
use Rattle.page_sheets.specs.Sheet.{last_vertex}
use Rattle.page_sheets.specs.Facts.{start}
use Rattle.page_sheets.proofs.FastRule.{Here, UpTo, Same, same_open}
use Rattle.page_sheets.proofs.Fit.{present_below}
use Rattle.program.specs.Meanings.{instructions_of, places_of}
use Rattle.program.specs.Compiled.{Compiled}
use Rattle.program.specs.declared.types.Formula.{Formula}
use Rattle.program.proofs.Loans.{lent_of, count_few, instructions_long}
use Rattle.program_tree.specs.Nodes.{Planted}
use Rattle.program_tree.specs.declared.types.Tree.{Tree}
use Rattle.program_tree.proofs.Trees.{tells}
use Rattle.goals.specs.Closures.{Tight}
use Rattle.writer_trees.specs.Places.{Placing}
use Rattle.writer_trees.specs.Trees.{fast_at}
use Rattle.writer_trees.proofs.RootTrees.{last_is, Begun, root_placing, root_tight, root_same}
use Rattle.writer_leaves.specs.Leaves.{Opening, Descendable, Leaf}

module _ (f : Formula) (F : written.Formula) (is : Compiled f F) (proper : Proper F) (t : Tree) (planted : Planted f.program (f.vertices.count - 1) t) (near : Grid) (b : Begun f F is proper near) where
  abbrev facts : Grid
  facts = start most_vertices F.ranges

  t_last : t.last ≡ length F.ranges
  t_last = planted.last_is ∙ last_is f F is proper

  module _ (x : Values) (opens : grow_tree last_vertex F ≡ open_at x) where
    same : Same (Here F.ranges) (open_at x) (fast_at (f.vertices.count - 1) F [] facts near)
    same = subst (λ r. Same (Here F.ranges) r (fast_at (f.vertices.count - 1) F [] facts near)) opens (root_same f F is proper near b facts refl)

    there : (y : Values) × (fast_at (f.vertices.count - 1) F [] facts near ≡ open_at y)
    there = same_open (Here F.ranges) x (fast_at (f.vertices.count - 1) F [] facts near) same

    -- the leaf's values by the closure
    pub root_values : Values
    root_values = there.0

    pub root_opening : Opening (instructions_of f.program) (places_of f.program) t near F root_values
    unfolding root_values there
    root_opening = record { lent = lent_of f F is; tells = tells F f.program is.program proper (f.vertices.count - 1) t planted (last_is f F is proper); facts = facts; opens = subst (λ m. fast_at m F [] facts near ≡ open_at root_values) (sym planted.last_is) there.1 }

    pub root_descendable : Descendable (instructions_of f.program) (places_of f.program) t near
    root_descendable = record {
      short = omega (arith, instructions_long is.program, count_few f F is proper);
      placing = subst (λ m. Placing m (places_of f.program)) (sym planted.last_is) (root_placing f F is proper);
      tight = subst (λ m. Tight (suc m) near) (sym planted.last_is) (root_tight f F is proper near b);
      formula = F;
      values = root_values;
      opening = root_opening;
    }

    -- they are the writer's rule's
    pub root_leaf : (r : List ℤ) → Leaf (UpTo t.last) root_values r → Leaf (Here F.ranges) x r
    unfolding root_values there
    root_leaf r h v l = h v (omega (arith, t_last, present_below F.ranges v l)) ∙ sym ((subst (Same (Here F.ranges) (open_at x)) there.1 same) v l)
