use Rattle.std.proofs.Common.{refl, ◌-◌, ◌≡◌, arith, suc}
use Rattle.page_formulas.specs.Formulas as written
use Rattle.page_formulas.specs.ProperFormulas.{Proper}
use Rattle.program.specs.Compiled.{Compiled}
use Rattle.program.specs.declared.types.Formula.{Formula}
use Rattle.program.proofs.Ranges.{ranging_of, ranged}
use Rattle.program_tree.specs.declared.types.Tree.{Tree}
use Rattle.program_tree.specs.Nodes.{Planted, Tells}
use Rattle.program_tree.proofs.Trees.{plantable, tells}
use Rattle.goals.proofs.Stacks.{stack_none}
use Rattle.tableau.proofs.Roots.{begun, ranges_open}
use Rattle.tableau.proofs.openings.formula_opens.Goals as goal

pub begin-requires : goal.begin-requires
begin-requires c = let q = c.requires in let v = c.args.f.now.vertices in
    ranged q.formula.ranges v.count v.ranges (ranging_of c.args.f.now q.formula q.is q.proper.vertices) q.proper.ranges_small q.proper.ranges_some

pub plant-requires : goal.plant-requires
plant-requires c = let q = c.requires in plantable q.formula c.args.f.now.program q.is.program q.proper

-- what is planted is its tree
told : (f : Formula) (t : Tree) → Planted f.program (f.vertices.count - 1) t → (F : written.Formula) → Compiled f F → Proper F → Tells t F.program
told f t planted F is proper = tells F f.program is.program proper (f.vertices.count - 1) t planted (omega (arith, is.vertices.count))

vertices : (f : Formula) (t : Tree) → Planted f.program (f.vertices.count - 1) t → (F : written.Formula) → Compiled f F → f.vertices.count ≡ suc t.last
vertices f t planted F is = omega (arith, planted.last_is, is.vertices.count)

pub open-requires : goal.open-requires
open-requires c = let q = c.requires in let f = c.args.f.now in let v = f.vertices in let t = c.plant.new.self in let p = c.plant.ensures in
    ((q.formula.program, told f t p q.formula q.is q.proper), begun q.formula q.proper v.count v.ranges (ranging_of f q.formula q.is q.proper.vertices) c.begin.new.near.rows c.begin.ensures t.last (vertices f t p q.formula q.is), stack_none _ 0 refl)

pub returns : goal.returns
returns c = let f = c.args.f.now in let v = f.vertices in let t = c.plant.new.self in let p = c.plant.ensures in
    λ F is proper.
    ranges_open F proper v.count v.ranges (ranging_of f F is proper.vertices) c.begin.new.near.rows c.begin.ensures t.last (vertices f t p F is) c.open.result (c.open.ensures F.program (told f t p F is proper))
