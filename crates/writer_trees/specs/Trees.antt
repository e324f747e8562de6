-- What the writer's code holds at a node, and what it leaves there.
use Rattle.std.specs.Prelude.{ℕ, suc, ◌≡◌, Bool, List, [], length, drop}
use Rattle.page_walks.specs.Grid.{Grid, weight, tighten}
use Rattle.page_walks.specs.Sizes.{tabled}
use Rattle.page_walks.specs.Nearness.{relax}
use Rattle.page_formulas.specs.Program.{Place, places}
use Rattle.page_formulas.specs.Formulas.{Formula}
use Rattle.page_sheets.specs.FastRule.{after, half, fast}
use Rattle.page_sheets.specs.Tree.{bytes_of}
use Rattle.page_sheets.specs.Growth.{Growth, shut, open_at}
use Rattle.room.specs.Room.{Filling, puts}
use Rattle.grid.specs.declared.Edge.{Edge}
use Rattle.writer_trees.specs.declared.types.Ground.{Ground}

-- what a growth leaves in the room: the tree's bytes. Of an open formula no tree is asked for
abbrev pub Grows : Filling → Growth → Filling → Type 0
Grows f (shut t) g = g ≡ puts f (bytes_of t)
Grows f (open_at x) g = Unit {0}

-- the bytes of a node that is shut
abbrev pub cut_bytes : Growth → List ℕ
cut_bytes (shut t) = bytes_of t
cut_bytes (open_at x) = []

-- the rest of a formula's rule from a node on, where so many of its places are decided and no cycle is negative
abbrev pub fast_at : ℕ → Formula → List Bool → Grid → Grid → Growth
fast_at last F ds g near = fast last F (drop (length ds) (places F.program)) ds g (weight near)

abbrev pub grown : Formula → Ground → List Bool → Growth
grown F x ds = fast_at x.last F ds x.facts.now.rows x.near.now.rows

-- one fact more and its closure
abbrev pub with : ℕ → Grid → Edge → Grid
with last near e = tabled (relax (weight near) e.from e.to e.weight) (suc last) near

-- half of a branch, from its fact
abbrev pub side_by : Formula → Ground → List Bool → Edge → Growth
side_by F x ds e =
    let near = weight x.near.now.rows in
    let q : Place = record { left = e.to; right = e.from; most = e.weight } in
    let facts = tighten x.facts.now.rows e.from e.to e.weight in
    half x.last F near q ds facts (fast x.last F (drop (length ds) (places F.program)) ds facts (after near q))
