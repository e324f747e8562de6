-- The sizes of the nodes, entry by entry; and the nodes with one more.
use Rattle.std.proofs.Common.{ℕ, ◌+◌, ◌-◌, ◌≤◌, ◌<◌, ◌≡◌, sym, ap, ap₂, ◌∙◌, List, arith, length, get_or}
use Rattle.std.proofs.lemmas.List.{map-set, length-map}
use native.Mathlib.Decide.{ℕ_discrete}
use lib.ListN.{set, get_or-map}
use lib.Seq.{get_or-set_same, get_or-set_other}
use Rattle.page_formulas.specs.Postfix.{size_by, first_of, size_of, places_in}
use Rattle.program.specs.Meanings.{number_of, place_of}
use Rattle.program.specs.Lent.{place_at}
use Rattle.program.specs.declared.types.Program.{Program}
use Rattle.program_tree.specs.declared.types.Node.{Node}
use Rattle.program_tree.specs.declared.types.Tree.{Tree}
use Rattle.program_tree.specs.Nodes.{blank, node, sizes, first_in, size_for, kinds_in, Filled}

pub size_in : (nodes : List Node) (j : ℕ) → get_or (sizes nodes) j 0 ≡ (node nodes j).size
size_in nodes j = get_or-map (λ (r : Node). r.size) nodes j blank

pub first_in_lem : (nodes : List Node) (j : ℕ) → first_of (sizes nodes) j ≡ first_in nodes j
first_in_lem nodes j = ap (λ m. j - 1 - m) (size_in nodes (j - 1))

-- what a size is read from
pub size_read : (kinds : List ℕ) (t : Tree) (k j : ℕ) → k ≡ get_or kinds j 0 → size_for t k j ≡ size_of kinds (sizes t.nodes) j
size_read kinds t k j e =
    rw e (ap₂ (size_by (get_or kinds j 0)) (ap (λ m. (node t.nodes m).size) (sym (first_in_lem t.nodes j)) ∙ sym (size_in t.nodes (first_of (sizes t.nodes) j))) (sym (size_in t.nodes (j - 1))))

-- ---- one node more

pub filled_none : (p : Program) (nodes : List Node) → Filled p nodes 0
filled_none p nodes = record { kinds_are = λ j h. absurd (omega arith); sizes_are = λ j h. absurd (omega arith); places_are = λ j h. absurd (omega arith) }

module _ (kinds sizes : List ℕ) (i s : ℕ) where
  kept : (j : ℕ) → j < i → get_or (set sizes i s) j 0 ≡ get_or sizes j 0
  kept j h = get_or-set_other sizes i j s 0 (omega arith)

  same : (j : ℕ) → 0 < i → j ≤ i → size_of kinds (set sizes i s) j ≡ size_of kinds sizes j
  same j z h = ap₂ (size_by (get_or kinds j 0)) (ap (λ m. get_or (set sizes i s) (j - 1 - m) 0) (kept (j - 1) (omega arith)) ∙ kept (first_of sizes j) (omega arith)) (kept (j - 1) (omega arith))

  sizes_more : ((j : ℕ) → j < i → get_or sizes j 0 ≡ size_of kinds sizes j) → i < length sizes → (i ≡ 0 → (a b : ℕ) → size_by (get_or kinds i 0) a b ≡ 1) → s ≡ size_of kinds sizes i → (j : ℕ) → j < i + 1 → get_or (set sizes i s) j 0 ≡ size_of kinds (set sizes i s) j
  sizes_more w long leaf es j h = go (ℕ_discrete j i) (ℕ_discrete i 0)
    where
      go : Dec (j ≡ i) → Dec (i ≡ 0) → get_or (set sizes i s) j 0 ≡ size_of kinds (set sizes i s) j
      go (yes e) (yes z) = rw e (get_or-set_same sizes i s 0 long ∙ es ∙ leaf z (get_or sizes (first_of sizes i) 0) (get_or sizes (i - 1) 0) ∙ sym (leaf z (get_or (set sizes i s) (first_of (set sizes i s) i) 0) (get_or (set sizes i s) (i - 1) 0)))
      go (yes e) (no z) = rw e (get_or-set_same sizes i s 0 long ∙ es ∙ sym (same i (omega arith) (omega arith)))
      go (no e) (yes z) = absurd (omega arith)
      go (no e) (no z) = kept j (omega arith) ∙ w j (omega arith) ∙ sym (same j (omega arith) (omega arith))

module _ (p : Program) (nodes : List Node) (i : ℕ) (w : Filled p nodes i) (r : Node) (long : i < length nodes) where
  abbrev ks : List ℕ
  ks = kinds_in p

  pub filled_more : (i ≡ 0 → (a b : ℕ) → size_by (get_or ks i 0) a b ≡ 1) → number_of r.instruction ≡ get_or ks i 0 → r.size ≡ size_of ks (sizes nodes) i → (get_or ks i 0 ≡ 0 → place_of r.place ≡ place_at p.places (places_in ks i)) → Filled p (set nodes i r) (i + 1)
  filled_more leaf ek es ep = record {
    kinds_are = λ j h. kind j h (ℕ_discrete j i);
    sizes_are = rw (map-set (λ (r : Node). r.size) nodes i r) (sizes_more ks (sizes nodes) i r.size w.sizes_are (omega (arith, length-map nodes (λ (r : Node). r.size))) leaf es);
    places_are = λ j h. there j h (ℕ_discrete j i);
  }
    where
      kind : (j : ℕ) → j < i + 1 → Dec (j ≡ i) → number_of (node (set nodes i r) j).instruction ≡ get_or ks j 0
      kind j h (yes e) = rw (e, get_or-set_same nodes i r blank long) ek
      kind j h (no e) = rw (get_or-set_other nodes i j r blank e) (w.kinds_are j (omega arith))

      there : (j : ℕ) → j < i + 1 → Dec (j ≡ i) → get_or ks j 0 ≡ 0 → place_of (node (set nodes i r) j).place ≡ place_at p.places (places_in ks j)
      there j h (yes e) = rw (e, get_or-set_same nodes i r blank long) ep
      there j h (no e) = rw (get_or-set_other nodes i j r blank e) (w.places_are j (omega arith))
