-- The tableau's end, and its split: what is answered then answers what was asked at first.
use Rattle.std.proofs.Common.{ℕ, suc, ◌+◌, ◌-◌, ◌<◌, ◌≡◌, sym, ap, ◌∙◌, ◌⊎◌, inl, inr, Bool, not, List, [], ◌∷◌, Option, Some, None, ℤ, arith}
use Rattle.page_meaning.specs.Limits.{most_vertices}
use Rattle.page_walks.specs.Grid.{Grid, row, weight}
use Rattle.page_walks.specs.Walk.{Sat}
use Rattle.page_walks.proofs.Rows.{read}
use Rattle.page_formulas.specs.Program.{Values}
use Rattle.program_tree.specs.declared.types.Tree.{Tree}
use Rattle.program_tree.specs.Nodes.{size_at, first_at, Describes}
use Rattle.goals.specs.declared.types.Goal.{Goal}
use Rattle.goals.specs.Goals.{goal, held, Opens, Same, Waits, Solves, Standing, Leads}
use Rattle.goals.proofs.AskedInstructions.{smaller, met_on, met_back, other}
use Rattle.tableau_choice.specs.Choices.{Operands}

pub opens_same : (r : Option (List ℤ)) (S T : Values → Type 0) → Same S T → Opens r S → Opens r T
opens_same (Some l) S T e o = (e (held l)).0 o
opens_same None S T e o = λ x n. o x ((e x).1 n)

module _ (t : Tree) (near : Grid) (G : List Goal) where
  module _ (near' : Grid) (gs : List Goal) (w : Leads t near G near' gs) where
    -- no goal is left: row 0 of the closure
    pub ended : gs ≡ [] → (v : Values → ℕ → Bool) → Describes t v → Solves t v near G (held (row near' 0))
    unfolding Sat
    ended e v d =
        let s = w.standing in let is : (u : ℕ) → u < suc t.last → held (row near' 0) u ≡ weight near' 0 u = λ u h. read most_vertices near' 0 u s.table (omega arith) (omega (arith, s.laid.few)) in
        (w.same v d (held (row near' 0))).1 (record {
          at_zero = is 0 (omega arith) ∙ s.tight.itself 0 (omega arith);
          sat = λ u x hu hx. rw (is u hu, is x hx) (s.tight.triangle 0 u x (omega arith) hu hx);
          met = rw e tt;
        })

  -- a goal is split: one operand is wanted, then the other
  module _ (near' : Grid) (g : Goal) (gs : List Goal) (w : Leads t near G near' (g ∷ gs)) (a b : ℕ) (o : Operands t g.at a b) where
    waits : Waits t g
    waits = w.standing.waiting.0

    pub parts : (a < t.count) × (b < t.count) × (size_at t a + size_at t b < size_at t g.at)
    parts = go o
      where
        less : (size_at t (g.at - 1) < g.at) × (size_at t (first_at t g.at) + size_at t (g.at - 1) < size_at t g.at)
        less = smaller t w.standing.laid g waits

        go : Operands t g.at a b → (a < t.count) × (b < t.count) × (size_at t a + size_at t b < size_at t g.at)
        go (inl e) = (omega (arith, e.0, less.0, waits.in_tree), omega (arith, e.1, less.0, waits.in_tree), omega (arith, ap (size_at t) e.0, ap (size_at t) e.1, less.1))
        go (inr e) = (omega (arith, e.0, less.0, waits.in_tree), omega (arith, e.1, less.0, waits.in_tree), omega (arith, ap (size_at t) e.0, ap (size_at t) e.1, less.1))

    pub rest : Standing t near' gs
    rest = let s = w.standing in record { laid = s.laid; table = s.table; tight = s.tight; waiting = s.waiting.1; enough = omega (arith, s.enough) }

    module _ (v : Values → ℕ → Bool) (d : Describes t v) where
      one_of : (x : Values) → v x g.at ≡ g.want → (v x a ≡ g.want) ⊎ (v x b ≡ g.want)
      one_of x m = go o (met_on t w.standing.laid g waits v d x m)
        where
          go : Operands t g.at a b → (v x (first_at t g.at) ≡ g.want) ⊎ (v x (g.at - 1) ≡ g.want) → (v x a ≡ g.want) ⊎ (v x b ≡ g.want)
          go (inl e) (inl m) = inl (ap (v x) e.0 ∙ m)
          go (inl e) (inr m) = inr (ap (v x) e.1 ∙ m)
          go (inr e) (inl m) = inr (ap (v x) e.1 ∙ m)
          go (inr e) (inr m) = inl (ap (v x) e.0 ∙ m)

      enough : (x : Values) → (v x a ≡ g.want) ⊎ (v x b ≡ g.want) → v x g.at ≡ g.want
      enough x m = met_back t w.standing.laid g waits v d x (go o m)
        where
          go : Operands t g.at a b → (v x a ≡ g.want) ⊎ (v x b ≡ g.want) → (v x (first_at t g.at) ≡ g.want) ⊎ (v x (g.at - 1) ≡ g.want)
          go (inl e) (inl m) = inl (sym (ap (v x) e.0) ∙ m)
          go (inl e) (inr m) = inr (sym (ap (v x) e.1) ∙ m)
          go (inr e) (inl m) = inr (sym (ap (v x) e.0) ∙ m)
          go (inr e) (inr m) = inl (sym (ap (v x) e.1) ∙ m)

      pub one_open : (l : List ℤ) → Solves t v near' (goal a g.want ∷ gs) (held l) → Solves t v near G (held l)
      one_open l n = (w.same v d (held l)).1 (record { at_zero = n.at_zero; sat = n.sat; met = (enough (held l) (inl n.met.0), n.met.1) })

      module _ (f : (x : Values) → ¬ Solves t v near' (goal a g.want ∷ gs) x) where
        -- the one leads nowhere, so it is not as wanted and the other is
        other_is : (x : Values) → Solves t v near' (g ∷ gs) x → (v x a ≡ not g.want) × (v x b ≡ g.want)
        other_is x n = (other (v x a) g.want no, go (one_of x n.met.0))
          where
            no : ¬ (v x a ≡ g.want)
            no e = f x (record { at_zero = n.at_zero; sat = n.sat; met = (e, n.met.1) })

            go : (v x a ≡ g.want) ⊎ (v x b ≡ g.want) → v x b ≡ g.want
            go (inl e) = absurd (no e)
            go (inr e) = e

        denied : (x : Values) → Solves t v near' (g ∷ gs) x → Solves t v near' (goal a (not g.want) ∷ gs) x
        denied x n = record { at_zero = n.at_zero; sat = n.sat; met = ((other_is x n).0, n.met.1) }

        pub denied_none : ((x : Values) → ¬ Solves t v near' (goal a (not g.want) ∷ gs) x) → (x : Values) → ¬ Solves t v near G x
        denied_none n x s = n x (denied x ((w.same v d x).0 s))

        pub denied_on : (near'' : Grid) (gs' : List Goal) → Leads t near' (goal a (not g.want) ∷ gs) near'' gs' → (r : Option (List ℤ)) → Opens r (Solves t v near'' (goal b g.want ∷ gs')) → Opens r (Solves t v near G)
        denied_on near'' gs' u r = opens_same r (Solves t v near'' (goal b g.want ∷ gs')) (Solves t v near G) (λ x. (
          λ n. let m = (u.same v d x).1 (record { at_zero = n.at_zero; sat = n.sat; met = n.met.1 }) in
              (w.same v d x).1 (record { at_zero = m.at_zero; sat = m.sat; met = (enough x (inr n.met.0), m.met.1) }),
          λ n. let k = (w.same v d x).0 n in
              let m = (u.same v d x).0 (denied x k) in
              record { at_zero = m.at_zero; sat = m.sat; met = ((other_is x k).1, m.met) },
        ))
