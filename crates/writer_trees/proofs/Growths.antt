-- Laws for the writer's recursion: a node is written, then one half and the other; the facts and their closure go down with each decision.
use Prim.Native.Nat.{ℕ, suc, ◌+◌, ◌≤◌, ◌<◌}
use mathlib.Core.Path.{◌≡◌, refl, sym, ap, ◌∙◌}
use mathlib.Core.Bool.{true, false}
use mathlib.Core.Option.{Option}
use mathlib.Core.List.{List}
use native.Mathlib.Numerals.{add-one}
use native.Mathlib.Omega.{arith}
use lib.IntN.{ℤ, pos, negsuc, ◌+ℤ◌}
use lib.Signed.{◌≤ℤ◌, lt_z}
use Rattle.page_numbers.specs.Numbers.{up, dn}
use Rattle.page_numbers.proofs.Bridge.{ints}
use Rattle.page_meaning.specs.Limits.{most_vertices}
use Rattle.page_walks.specs.Grid.{Grid, weight, far, far_n}
use Rattle.page_walks.specs.Sizes.{least_weight, tabled, AllWithin, Sized}
use Rattle.page_walks.specs.Nearness.{relax}
use Rattle.page_walks.proofs.Grids.{tighten_keeps, tighten_le, tighten_sized}
use Rattle.page_formulas.specs.Program.{Values}
use Rattle.page_formulas.specs.Knowledge.{Three, fails, passes, open?}
use Rattle.page_sheets.specs.FastRule.{strained_node}
use Rattle.page_sheets.specs.Tree.{bytes_of, false_leaf}
use Rattle.page_sheets.specs.Growth.{Growth, shut, open_at, join}
use Rattle.page_sheets.proofs.FastRule.{Same}
use Rattle.grid.specs.Edges.{Fact, Kept}
use Rattle.grid.specs.Facts.{with_fact}
use Rattle.grid.specs.declared.Edge.{Edge}
use Rattle.room.specs.Room.{Filling, put_one, puts}
use Rattle.room.proofs.PutBytes.{puts_append, puts_over}
use Rattle.goals.specs.Closures.{Tight}
use Rattle.goals.proofs.Tightening.{closer_tabled, from_zero}
use Rattle.writer_trees.specs.Trees.{Grows, cut_bytes, with}

-- ---- what is left by growths

-- growths that are the same at some vertices leave the same
pub grows_same : (H : ℕ → Type 0) (a b : Growth) → Same H a b → (f g : Filling) → Grows f b g → Grows f a g
grows_same H (shut t) (shut t') e f g h = h ∙ ap (λ x. puts f (bytes_of x)) (sym e)
grows_same H (shut t) (open_at y) e f g h = absurd e
grows_same H (open_at x) b e f g h = tt

-- past the room's end nothing is stored
pub grows_over : (a : Growth) (f : Filling) → f.over ≡ true → Grows f a f
grows_over (shut t) f e = sym (puts_over f (bytes_of t) e)
grows_over (open_at x) f e = tt

-- a false leaf, and an open one
pub grows_leaf : (a : Growth) → a ≡ shut false_leaf → (f g : Filling) → g ≡ put_one f 1 → Grows f a g
unfolding bytes_of puts
grows_leaf a e f g h = rw e h

pub grows_open : (a : Growth) (x : Values) → a ≡ open_at x → (f g : Filling) → Grows f a g
grows_open a x e f g = rw e tt

-- a node whose last fact closes a negative cycle
pub grows_cut : (a : Growth) (k : Three) (o : Option (List ℕ)) → a ≡ strained_node k o → (f g : Filling) → g ≡ puts f (cut_bytes (strained_node k o)) → Grows f a g
grows_cut a k o e f g h = rw e (go k h)
  where
    go : (k : Three) → g ≡ puts f (cut_bytes (strained_node k o)) → Grows f (strained_node k o) g
    go fails h = h
    go passes h = h
    go open? h = h

-- a node, one half and the other
pub grows_join : (a b : Growth) (f m n g : Filling) → m ≡ put_one f 3 → Grows m a n → Grows n b g → Grows f (join a b) g
unfolding bytes_of puts
grows_join (open_at x) b f m n g three h k = tt
grows_join (shut t) (open_at x) f m n g three h k = tt
grows_join (shut t) (shut u) f m n g three h k = k ∙ ap (λ x. puts x (bytes_of u)) (h ∙ ap (λ x. puts x (bytes_of t)) three) ∙ sym (puts_append (put_one f 3) (bytes_of t) (bytes_of u))

-- the same, where a half or the node itself found no room
pub join_over : (a b : Growth) (f m g : Filling) → m ≡ put_one f 3 → Grows m a g → g.over ≡ true → Grows f (join a b) g
join_over a b f m g three h o = grows_join a b f m g g three h (grows_over b g o)

-- ---- a grid of facts

-- it is within the bounds of the search
pub kept_within : (g : Grid) → Kept g → (n : ℕ) → AllWithin far_n n g
kept_within g k n = record { entry = λ u v hu hv. let c = k.ceiling u v in record { high = far_high (weight g u v) c; low = omega (arith, k.floor u v) } }
  where
    far_high : (z : ℤ) → z ≤ℤ far → up z ≤ far_n
    far_high (pos m) h = omega ints
    far_high (negsuc m) h = omega arith

module _ (last : ℕ) (e : Edge) (fact : Fact last e.from e.to e.weight) where
  -- one fact more
  pub kept_next : (g : Grid) → Kept g → Kept (with_fact g e)
  kept_next g kept = record {
    sized = tighten_sized most_vertices g e.from e.to e.weight kept.sized;
    ceiling = λ u v. omega (ints, tighten_le g e.from e.to e.weight u v, kept.ceiling u v);
    floor = λ u v. tighten_keeps (λ z. dn z ≤ least_weight) g e.from e.to e.weight u v (kept.floor u v) (λ a b. fact.low);
  }

-- the table of least sums with it, as the code has it
pub with_is : (last : ℕ) (near : Grid) (e : Edge) (r : Grid) → r ≡ tabled (relax (weight near) e.from e.to e.weight) (last + 1) near → r ≡ with last near e
with_is last near e r h = h ∙ ap (λ n. tabled (relax (weight near) e.from e.to e.weight) n near) (add-one last)

-- where it closes no negative cycle, the table of least sums with it is the closure's
pub tight_next : (last : ℕ) → last < most_vertices → (near : Grid) → Sized most_vertices near → Tight (suc last) near → (e : Edge) → Fact last e.from e.to e.weight → lt_z (weight near e.to e.from +ℤ e.weight) (pos 0) ≡ false → (r : Grid) → r ≡ with last near e → Tight (suc last) r
tight_next last few near sized tight e fact t r is = (closer_tabled (suc last) near tight (omega arith) sized e fact.from_is fact.to_is r is (from_zero _ _ refl t)).tight
