use Prim.Native.Nat.{◌-◌}
use mathlib.Core.Path.{subst, sym}
use mathlib.Core.List.{[]}
use native.Mathlib.Omega.{arith}
use Rattle.program.proofs.Loans.{lent_of, count_few, instructions_long}
use Rattle.program.proofs.Ranges.{ranged, ranging_of}
use Rattle.page_sheets.specs.Growth.{grow_tree}
use Rattle.page_sheets.specs.Sheet.{last_vertex}
use Rattle.page_sheets.proofs.FastRule.{Here}
use Rattle.program.specs.Lent.{Lent}
use Rattle.writer_trees.specs.Places.{Placing}
use Rattle.writer_trees.specs.Trees.{Grows, fast_at}
use Rattle.writer_trees.proofs.Growths.{grows_same}
use Rattle.writer_trees.proofs.RootTrees.{root_placing, facts_are, root_kept, root_tight, root_same}
use Rattle.writer_trees.proofs.trees.plant_formula.Goals as goal

pub begin-requires : goal.begin-requires
begin-requires c = let f = c.args.f.now in
    let q = c.requires in
    ranged q.formula.ranges f.vertices.count f.vertices.ranges (ranging_of f q.formula q.is q.proper.vertices) q.proper.ranges_small q.proper.ranges_some

pub invariant_of-root : goal.invariant_of-root
invariant_of-root c = let f = c.args.f.now in
    let F = c.requires.formula in
    let is = c.requires.is in
    let proper = c.requires.proper in record {
      short = rw c.instructions.ensures (omega (arith, instructions_long is.program, count_few f F is proper));
      placing = subst (Placing (f.vertices.count - 1)) (sym c.places.ensures) (root_placing f F is proper);
      kept = root_kept f F is proper c.start-facts.result.rows c.start-facts.ensures;
      tight = root_tight f F is proper c.begin.new.near.rows c.begin.ensures;
    }

pub returns-clause-grows : goal.returns-clause-grows
returns-clause-grows c = λ F is proper.
    let f = c.args.f.now in
    let near = c.begin.new.near.rows in
    let g = c.start-facts.result.rows in
    let last = f.vertices.count - 1 in
    let w : Lent F.program c.instructions.result.now c.places.result.now = rw (c.instructions.ensures, c.places.ensures) (lent_of f F is) in
    let h : Grows _ (fast_at last F [] g near) _ = rw c.new.ensures at (c.grow.ensures.grows F w) in
    grows_same (Here F.ranges) (grow_tree last_vertex F) (fast_at last F [] g near) (root_same f F is proper near c.begin.ensures g (facts_are f F is proper g c.start-facts.ensures)) _ _ h
