-- One node of the writer's recursion: what the code leaves there is what the fast rule comes to.
use Prim.Native.Nat.{ℕ, zero, suc, ◌≤◌, ◌<◌}
use mathlib.Core.Path.{◌≡◌, refl, sym, ap, ap₂, ◌∙◌}
use mathlib.Core.Bool.{Bool, true, false, cond}
use mathlib.Core.List.{List, [], ◌∷◌, ◌++◌, map}
use native.Mathlib.Numerals.{add-one}
use native.Mathlib.Omega.{arith}
use lib.ListN.{length, get_or, drop, length-append}
use lib.IntN.{ℤ, pos, ◌+ℤ◌}
use lib.Signed.{lt_z}
use Rattle.page_meaning.specs.Limits.{most_vertices}
use Rattle.page_walks.specs.Grid.{Grid, weight}
use Rattle.page_walks.specs.Sizes.{Sized}
use Rattle.page_walks.specs.Nearness.{relax}
use Rattle.page_walks.specs.Search.{search}
use Rattle.page_walks.proofs.Rows.{tabled_at}
use Rattle.page_formulas.specs.Formulas.{Formula}
use Rattle.page_formulas.specs.Knowledge.{fails, passes, open?, known}
use Rattle.page_formulas.specs.Kinds.{known_kinds, nowhere}
use Rattle.page_formulas.proofs.Truths.{known_kinds_lem}
use Rattle.page_formulas.specs.Program.{Place, places}
use Rattle.page_questions.specs.Guarantees.{Every}
use Rattle.program.specs.declared.types.Instruction.{Instruction}
use Rattle.program.specs.declared.types.Place as D
use Rattle.program.specs.Meanings.{number_of}
use Rattle.program.specs.Lent.{Lent, place_at}
use Rattle.program.proofs.Loans.{lent_length, lent_place}
use Rattle.facts.specs.Decisions.{fact_of}
use Rattle.grid.specs.declared.Edge.{Edge}
use Rattle.grid.specs.Facts.{with_fact}
use Rattle.page_sheets.specs.FastRule.{calm_node, strained, strained_node, fast, side_of, after}
use Rattle.page_sheets.specs.Growth.{Growth, shut, open_at, join}
use Rattle.page_sheets.specs.Tree.{false_leaf}
use Rattle.page_sheets.proofs.FastRule.{UpTo}
use Rattle.page_sheets.proofs.OwnVertices.{SameBelow, Ends, fast_table}
use Rattle.page_sheets.proofs.Steps.{fast_split, fast_end}
use Rattle.page_sheets.proofs.Descent.{leaf_known, leaf_false}
use Rattle.room.specs.Room.{Filling}
use Rattle.writer_trees.specs.Places.{Placing}
use Rattle.writer_trees.specs.Trees.{Grows, fast_at, grown, side_by, with}
use Rattle.writer_trees.specs.declared.types.Ground.{Ground}
use Rattle.writer_trees.proofs.Growths.{grows_same}

all_of : (P : Place → Type 0) (ps : List Place) (d : Place) → ((i : ℕ) → i < length ps → P (get_or ps i d)) → Every P ps
all_of P [] d f = tt
all_of P (p ∷ ps) d f = (f 0 (omega arith), all_of P ps d (λ i h. f (suc i) (omega arith)))

all_drop : (P : Place → Type 0) (n : ℕ) (ps : List Place) → Every P ps → Every P (drop n ps)
all_drop P zero ps a = a
all_drop P (suc n) [] a = tt
all_drop P (suc n) (p ∷ ps) a = all_drop P n ps a.1

-- one truth more
pub more : (ds : List Bool) (d : Bool) → length (ds ++ d ∷ []) ≡ suc (length ds)
more ds d = length-append ds (d ∷ []) ∙ add-one (length ds)

-- what is known by the instructions that are lent
pub known_lent : (F : Formula) (ks : List Instruction) (ps : List D.Place) → Lent F.program ks ps → (ds : List Bool) → known_kinds (map number_of ks) ds ≡ known F.program ds
known_lent F ks ps lent ds = ap (λ k. known_kinds k ds) lent.instructions ∙ sym (known_kinds_lem F.program ds)

-- the places are between vertices up to the last
pub all_ends : (last : ℕ) (F : Formula) (ks : List Instruction) (ps : List D.Place) → Lent F.program ks ps → Placing last ps → Every (Ends last F) (places F.program)
all_ends last F ks ps lent placing = all_of (Ends last F) (places F.program) nowhere (λ i l. let m : i < length ps = omega (arith, lent_length F.program ks ps lent) in rw (← lent_place F.program ks ps lent i) ((placing.facts i m true).to_is, (placing.facts i m true).from_is))

-- the table of the closure with one fact more has its entries
pub closer_same : (last : ℕ) (F : Formula) (near : Grid) → last < most_vertices → Sized most_vertices near → (e : Edge) → SameBelow last F (after (weight near) (record { left = e.to; right = e.from; most = e.weight })) (weight (with last near e))
closer_same last F near few table e u v hu hv = sym (tabled_at (relax (weight near) e.from e.to e.weight) most_vertices (suc last) near (omega arith) table u v hu hv)

module _ (F : Formula) (x : Ground) (lent : Lent F.program x.instructions.now x.places.now) where
  as_many : length x.places.now ≡ length (places F.program)
  as_many = lent_length F.program x.instructions.now x.places.now lent

  module _ (ds : List Bool) where
    -- ---- a node where no cycle is negative

    pub grown_false : known F.program ds ≡ fails → grown F x ds ≡ shut false_leaf
    grown_false e = leaf_false x.last F (drop (length ds) (places F.program)) ds x.facts.now.rows (weight x.near.now.rows) e

    pub grown_true : known F.program ds ≡ passes → grown F x ds ≡ open_at (weight x.near.now.rows 0)
    grown_true e = leaf_known x.last F (drop (length ds) (places F.program)) ds x.facts.now.rows (weight x.near.now.rows) e

    -- no place is left
    pub grown_end : known F.program ds ≡ open? → length x.places.now ≤ length ds → grown F x ds ≡ open_at (weight x.near.now.rows 0)
    grown_end e h = fast_end x.last F ds x.facts.now.rows (places F.program) (length ds) nowhere (weight x.near.now.rows) (omega (arith, as_many)) ∙ rw e refl

    -- both halves of the branch
    pub grown_both : length ds < length x.places.now → known F.program ds ≡ open? → let p = place_at x.places.now (length ds) in grown F x ds ≡ join (side_by F x (ds ++ true ∷ []) (fact_of p true)) (side_by F x (ds ++ false ∷ []) (fact_of p false))
    grown_both h e =
        let g = x.facts.now.rows in
        let near = weight x.near.now.rows in
        let ps = places F.program in
        fast_split x.last F ds g ps (length ds) nowhere near (omega (arith, as_many))
        ∙ ap (λ k. calm_node k (near 0) (both (suc (length ds)) (suc (length ds)) (get_or ps (length ds) nowhere))) e
        ∙ ap (both (suc (length ds)) (suc (length ds))) (sym (lent_place F.program x.instructions.now x.places.now lent (length ds)))
        ∙ ap₂ (λ m n. both m n (place_at x.places.now (length ds))) (sym (more ds true)) (sym (more ds false))
      where
        both : ℕ → ℕ → Place → Growth
        both m n p = join (side_of x.last F p (drop m (places F.program)) ds x.facts.now.rows (weight x.near.now.rows) true) (side_of x.last F p (drop n (places F.program)) ds x.facts.now.rows (weight x.near.now.rows) false)

    -- ---- half of a branch, by its fact
    module _ (e : Edge) where
      abbrev q : Place
      q = record { left = e.to; right = e.from; most = e.weight }

      abbrev round : ℤ
      round = weight x.near.now.rows e.to e.from +ℤ e.weight

      abbrev facts : Grid
      facts = with_fact x.facts.now.rows e

      abbrev calm : Growth
      calm = fast x.last F (drop (length ds) (places F.program)) ds facts (after (weight x.near.now.rows) q)

      -- the formula is false by then
      pub side_false : known F.program ds ≡ fails → side_by F x ds e ≡ shut false_leaf
      side_false k = go (strained (weight x.near.now.rows) q)
        where
          go : (b : Bool) → cond b (strained_node (known F.program ds) (search (weight facts) x.last)) calm ≡ shut false_leaf
          go true = rw k
          go false = leaf_false x.last F (drop (length ds) (places F.program)) ds facts (after (weight x.near.now.rows) q) k

      -- the fact closes a negative cycle
      pub side_cut : lt_z round (pos 0) ≡ true → side_by F x ds e ≡ strained_node (known F.program ds) (search (weight facts) x.last)
      side_cut t = rw t refl

      -- it closes none, and the formula is true, or no place is left: there is no tree
      pub side_true : lt_z round (pos 0) ≡ false → known F.program ds ≡ passes → side_by F x ds e ≡ open_at (after (weight x.near.now.rows) q 0)
      side_true t k = rw t (leaf_known x.last F (drop (length ds) (places F.program)) ds facts (after (weight x.near.now.rows) q) k)

      pub side_end : lt_z round (pos 0) ≡ false → known F.program ds ≡ open? → length x.places.now ≤ length ds → side_by F x ds e ≡ open_at (after (weight x.near.now.rows) q 0)
      side_end t k h = rw t (fast_end x.last F ds facts (places F.program) (length ds) nowhere (after (weight x.near.now.rows) q) (omega (arith, as_many)) ∙ rw k refl)

      -- it closes none, and there is a tree below
      pub side_calm : lt_z round (pos 0) ≡ false → (y near : Grid) → y ≡ facts → near ≡ with x.last x.near.now.rows e → (f g : Filling) → Grows f (fast_at x.last F ds y near) g → Grows f (side_by F x ds e) g
      side_calm t y near i j f g h =
          let todo = drop (length ds) (places F.program) in
          let k : Grows f (fast_at x.last F ds facts (with x.last x.near.now.rows e)) g = rw (← i, ← j) h in
          rw t (grows_same (UpTo x.last) calm (fast_at x.last F ds facts (with x.last x.near.now.rows e)) (fast_table x.last F todo ds facts (after (weight x.near.now.rows) q) (weight (with x.last x.near.now.rows e)) (closer_same x.last F x.near.now.rows x.placing.few x.near.now.sized e) (all_drop (Ends x.last F) (length ds) (places F.program) (all_ends x.last F x.instructions.now x.places.now lent x.placing))) f g k)
