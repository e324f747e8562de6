-- The closure of the facts so far, by itself: what values meet it, and what one fact more makes of it.
use Rattle.std.specs.Prelude.{ℕ, suc, ◌<◌, ◌≡◌, Result, Ok, Err, pos, ◌+ℤ◌, ◌≤ℤ◌, ◌<ℤ◌}
use Rattle.page_meaning.specs.Limits.{most_vertices}
use Rattle.page_walks.specs.Grid.{Grid, weight, far}
use Rattle.page_walks.specs.Sizes.{Sized}
use Rattle.page_walks.specs.Nearness.{Triangle}
use Rattle.page_walks.specs.Walk.{Sat}
use Rattle.page_formulas.specs.Program.{Values}
use Rattle.grid.specs.Edges.{Fact}
use Rattle.grid.specs.declared.Edge.{Edge}
use Rattle.goals.specs.declared.types.Contradiction.{Contradiction}

-- least sums between the vertices below n: 0 from each to itself, no way round is less, none is above a missing edge's weight
pub record Tight (n : ℕ) (near : Grid) : Type 0 where
  pub itself : (u : ℕ) → u < n → weight near u u ≡ pos 0
  pub triangle : Triangle n (weight near)
  pub ceiling : (u v : ℕ) → u < n → v < n → weight near u v ≤ℤ far

-- r is near with one fact more: the values that meet r are those that meet near and the fact
pub record Closer (n : ℕ) (near : Grid) (e : Edge) (r : Grid) : Type 0 where
  pub sized : Sized most_vertices r
  pub tight : Tight n r
  pub old : (x : Values) → Sat (weight r) n x → Sat (weight near) n x
  pub fact : (x : Values) → Sat (weight r) n x → x e.to ≤ℤ (x e.from +ℤ e.weight)
  pub both : (x : Values) → Sat (weight near) n x → x e.to ≤ℤ (x e.from +ℤ e.weight) → Sat (weight r) n x

-- the edge may enter the facts between the vertices up to the last
pub record Enterable (last : ℕ) (near : Grid) (e : Edge) : Type 0 where
  pub few : last < most_vertices
  pub fact : Fact last e.from e.to e.weight
  pub tight : Tight (suc last) near

-- one fact more was tried: it contradicts those in near (it closes a negative cycle), or r is near with it
abbrev pub Enters : ℕ → Grid → Edge → Result (Unit {0}) Contradiction → Grid → Type 0
Enters n near e (Err c) r = (weight near e.to e.from +ℤ e.weight) <ℤ pos 0
Enters n near e (Ok u) r = Closer n near e r
