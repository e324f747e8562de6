-- Going down to a formula's first open leaf: what holds at each node on the way, and one step.
use Prim.Native.Nat.{ℕ, suc, ◌≤◌, ◌<◌}
use mathlib.Core.Path.{◌≡◌, refl, sym, ap, ◌∙◌, subst}
use mathlib.Core.Logic.{◌⊎◌, inl, inr, ◌≢◌}
use mathlib.Core.Bool.{Bool, true, false}
use mathlib.Core.List.{List, [], ◌∷◌, ◌++◌}
use native.Mathlib.Omega.{arith}
use lib.ListN.{length, get_or, drop}
use lib.Seq.{drop-cons}
use lib.IntN.{pos, ◌+ℤ◌}
use lib.Signed.{◌≤ℤ◌, ◌<ℤ◌}
use Rattle.page_meaning.specs.Limits.{most_vertices}
use Rattle.page_walks.specs.Grid.{Grid, row, weight}
use Rattle.page_walks.specs.Sizes.{Sized}
use Rattle.page_walks.specs.Nearness.{Least}
use Rattle.page_walks.proofs.Rows.{read}
use Rattle.page_formulas.specs.Formulas.{Formula}
use Rattle.page_formulas.specs.Knowledge.{Three, fails, passes, open?, known}
use Rattle.page_formulas.specs.Kinds.{nowhere}
use Rattle.page_formulas.specs.Program.{Values, Place, places}
use Rattle.page_formulas.specs.Truths.{Agrees}
use Rattle.program.specs.Lent.{Lent, place_at}
use Rattle.program.specs.declared.types.Instruction.{Instruction}
use Rattle.program.specs.declared.types.Place as D
use Rattle.program.proofs.Loans.{lent_length, lent_place}
use Rattle.facts.specs.Decisions.{fact_of}
use Rattle.page_sheets.specs.Facts.{taken, decide}
use Rattle.page_sheets.specs.FastRule.{calm_node, fast, after}
use Rattle.page_sheets.specs.Growth.{Growth, open_at}
use Rattle.page_sheets.proofs.FastRule.{UpTo, Same, same_trans, same_open}
use Rattle.page_sheets.proofs.OwnVertices.{SameBelow, fast_table}
use Rattle.page_sheets.proofs.Steps.{fast_end}
use Rattle.page_sheets.proofs.Descent.{Down, TrueIn, down_next, down_table, true_table, table_true, leaf_known, leaf_false, TrueShut, down_true, down_false}
use Rattle.writer_trees.specs.Places.{Placing}
use Rattle.writer_trees.specs.Trees.{fast_at, with}
use Rattle.writer_trees.proofs.NodeHalves.{more, all_ends, closer_same}

module _ (last : ℕ) (F : Formula) where
  -- on the way to the leaf of values x: the first places have these truths, and the fast rule leads there from here
  pub record Leading (x : Values) (ds : List Bool) (near : Grid) : Type 0 where
    pub done : List Place
    pub facts : Grid
    pub down : Down last F done (drop (length ds) (places F.program)) ds (weight near)
    pub leads : Same (UpTo last) (open_at x) (fast_at last F ds facts near)

  module _ (ks : List Instruction) (ps : List D.Place) (lent : Lent F.program ks ps) where
    pub leading_start : (near : Grid) → Placing last ps → Least (suc last) (weight near) → (facts : Grid) (x : Values) → Same (UpTo last) (open_at x) (fast_at last F [] facts near) → Leading x [] near
    leading_start near placing least facts x e = record {
      done = [];
      facts = facts;
      down = record { split_is = refl; as_many = refl; least = least; agreeing = λ y s. none y (places F.program); ends = all_ends last F ks ps lent placing };
      leads = e;
    }
      where
        none : (y : Values) (qs : List Place) → Agrees y qs []
        none y [] = tt
        none y (p ∷ qs) = tt

    module _ (x : Values) (ds : List Bool) (near : Grid) (at : Leading x ds near) (few : last < most_vertices) (table : Sized most_vertices near) where
      -- the row of vertex 0 is the leaf's values
      row_is : Same (UpTo last) (open_at x) (open_at (weight near 0)) → (v : ℕ) → v < suc last → get_or (row near 0) v (pos 0) ≡ x v
      row_is s v h = read most_vertices near 0 v table (omega arith) (omega arith) ∙ sym (s v h)

      -- the formula is known to be true
      pub leading_leaf : known F.program ds ≡ passes → (v : ℕ) → v < suc last → get_or (row near 0) v (pos 0) ≡ x v
      leading_leaf e = row_is (rw (leaf_known last F (drop (length ds) (places F.program)) ds at.facts (weight near) e) at at.leads)

      -- no place is left
      pub leading_end : length ps ≤ length ds → (v : ℕ) → v < suc last → get_or (row near 0) v (pos 0) ≡ x v
      leading_end h =
          row_is (go (known F.program ds) (subst (Same (UpTo last) (open_at x)) (fast_end last F ds at.facts (places F.program) (length ds) nowhere (weight near) (omega (arith, lent_length F.program ks ps lent))) at.leads))
        where
          go : (k : Three) → Same (UpTo last) (open_at x) (calm_node k (weight near 0) (open_at (weight near 0))) → Same (UpTo last) (open_at x) (open_at (weight near 0))
          go fails s = absurd s
          go passes s = s
          go open? s = s

      -- ---- one step: the formula isn't known to be true, and a place is left
      module _ (h : length ds < length ps) (unsure : known F.program ds ≢ passes) where
        abbrev p : Place
        p = place_at ps (length ds)

        abbrev todo : List Place
        todo = drop (suc (length ds)) (places F.program)

        todo_is : drop (length ds) (places F.program) ≡ p ∷ todo
        todo_is = drop-cons (places F.program) (length ds) nowhere (omega (arith, lent_length F.program ks ps lent)) ∙ ap (λ q. q ∷ todo) (sym (lent_place F.program ks ps lent (length ds)))

        down_here : Down last F at.done (p ∷ todo) ds (weight near)
        down_here = subst (λ l. Down last F at.done l ds (weight near)) todo_is at.down

        leads_here : Same (UpTo last) (open_at x) (fast last F (p ∷ todo) ds at.facts (weight near))
        leads_here = subst (λ l. Same (UpTo last) (open_at x) (fast last F l ds at.facts (weight near))) todo_is at.leads

        -- it isn't known to be false either
        open_here : known F.program ds ≡ open?
        open_here = go (known F.program ds) refl
          where
            go : (k : Three) → known F.program ds ≡ k → known F.program ds ≡ open?
            go open? e = e
            go passes e = absurd (unsure e)
            go fails e = absurd (subst (Same (UpTo last) (open_at x)) (leaf_false last F (p ∷ todo) ds at.facts (weight near) e) leads_here)

        -- where the fact of p closes no negative cycle, taken so, and the rule goes on there
        module _ (d : Bool) where
          abbrev closer : Grid
          closer = with last near (fact_of p d)

          abbrev beyond : Growth
          beyond = fast last F todo (ds ++ d ∷ []) (decide at.facts p d) (after (weight near) (taken p d))

          pub same_beyond : SameBelow last F (after (weight near) (taken p d)) (weight closer)
          same_beyond = closer_same last F near few table (fact_of p d)

          onward : pos 0 ≤ℤ (weight near (taken p d).left (taken p d).right +ℤ (taken p d).most) → Same (UpTo last) (open_at x) beyond → Leading x (ds ++ d ∷ []) closer
          onward calm s =
              let w : Down last F (at.done ++ p ∷ []) todo (ds ++ d ∷ []) (weight closer) = down_table last F (after (weight near) (taken p d)) (weight closer) same_beyond (at.done ++ p ∷ []) todo (ds ++ d ∷ []) (down_next last F at.done p todo ds (weight near) down_here d calm) in
              let t = fast_table last F todo (ds ++ d ∷ []) (decide at.facts p d) (after (weight near) (taken p d)) (weight closer) same_beyond w.ends in
              record { done = at.done ++ p ∷ []; facts = decide at.facts p d; down = rw (more ds d) w; leads = rw (more ds d) (same_trans (UpTo last) (open_at x) beyond (fast last F todo (ds ++ d ∷ []) (decide at.facts p d) (weight closer)) s t) }

        -- into the true half, where the formula is open
        pub leading_true : pos 0 ≤ℤ (weight near p.left p.right +ℤ p.most) → (y : Values) → TrueIn last F (weight (with last near (fact_of p true))) y → Leading x (ds ++ true ∷ []) (with last near (fact_of p true))
        leading_true calm y s =
            onward true calm
            (subst (Same (UpTo last) (open_at x)) (down_true last F at.done p todo ds at.facts (weight near) down_here open_here calm y (true_table last F (after (weight near) p) (weight (with last near (fact_of p true))) (same_beyond true) y s)) leads_here)

        -- the true half is shut, as the code finds it: its fact closes a negative cycle, or the formula is true at no values that meet it
        abbrev pub NotTrue : Type 0
        NotTrue = ((weight near p.left p.right +ℤ p.most) <ℤ pos 0) ⊎ ((y : Values) → ¬ TrueIn last F (weight (with last near (fact_of p true))) y)

        module _ (k : NotTrue) where
          true_shut : TrueShut last F at.done p todo ds at.facts (weight near) down_here open_here
          true_shut = go k
            where
              go : NotTrue → TrueShut last F at.done p todo ds at.facts (weight near) down_here open_here
              go (inl l) = inl l
              go (inr f) = inr (λ y s. f y (table_true last F (after (weight near) p) (weight (with last near (fact_of p true))) (same_beyond true) y s))

          second : (pos 0 ≤ℤ (weight near p.right p.left +ℤ (taken p false).most)) × Same (UpTo last) (open_at x) (fast last F todo (ds ++ false ∷ []) (decide at.facts p false) (after (weight near) (taken p false)))
          second =
              let o = same_open (UpTo last) x (fast last F (p ∷ todo) ds at.facts (weight near)) leads_here in
              let r = down_false last F at.done p todo ds at.facts (weight near) down_here open_here true_shut o.0 o.1 in
              (r.0, subst (Same (UpTo last) (open_at x)) (o.1 ∙ sym r.1) leads_here)

          -- into the false half
          pub calm_false : pos 0 ≤ℤ (weight near p.right p.left +ℤ (taken p false).most)
          calm_false = second.0

          pub leading_false : Leading x (ds ++ false ∷ []) (with last near (fact_of p false))
          leading_false = onward false calm_false second.1
