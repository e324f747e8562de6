use Rattle.program.proofs.Ranges.{ranged, ranging_of}
use Rattle.program_tree.proofs.Trees.{plantable}
use Rattle.writer_leaves.specs.Leaves.{Opening}
use Rattle.writer_leaves.proofs.Roots.{root_values, root_opening, root_descendable, root_leaf}
use Rattle.writer_leaves.proofs.first_leaf.Goals as goal

pub begin-requires : goal.begin-requires
begin-requires c = let f = c.args.f.now in
    let q = c.requires in
    ranged q.formula.ranges f.vertices.count f.vertices.ranges (ranging_of f q.formula q.is q.proper.vertices) q.proper.ranges_small q.proper.ranges_some

pub plant-requires : goal.plant-requires
plant-requires c = let q = c.requires in plantable q.formula c.args.f.now.program q.is.program q.proper

pub descend-requires : goal.descend-requires
descend-requires c = let f = c.args.f.now in
    let q = c.requires in
    rw (c.instructions.ensures, c.places.ensures) (root_descendable f q.formula q.is q.proper c.plant.new.self c.plant.ensures c.begin.new.near.rows c.begin.ensures q.values q.opens)

pub returns : goal.returns
returns c = λ F x is proper opens.
    let f = c.args.f.now in
    let t = c.plant.new.self in
    let near = c.begin.new.near.rows in
    let p = c.plant.ensures in
    let b = c.begin.ensures in
    let y = root_values f F is proper t p near b x opens in
    let o : Opening c.instructions.result.now c.places.result.now t near F y = rw (c.instructions.ensures, c.places.ensures) (root_opening f F is proper t p near b x opens) in
    root_leaf f F is proper t p near b x opens c.descend.result (c.descend.ensures F y o)
