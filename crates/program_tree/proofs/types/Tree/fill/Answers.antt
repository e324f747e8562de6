use Rattle.std.proofs.Common.{ℕ, ◌+◌, ◌<◌, ◌≡◌, refl, sym, ap, ◌∙◌, arith, rules, length, get_or}
use lib.ListN.{get_or-map, set, length-set}
use Rattle.page_formulas.specs.Costs.{most_instructions}
use Rattle.page_formulas.specs.Postfix.{places_in, counted}
use Rattle.page_formulas.proofs.Trees.{State, state_at, first_leaf, counted_other}
use Rattle.program.specs.Meanings.{number_of, place_of}
use Rattle.program.specs.Lent.{place_at}
use Rattle.program.specs.declared.types.Place.{Place}
use Rattle.program.specs.declared.types.Instruction.TheVariants as does
use Rattle.program_tree.specs.Nodes.{kinds_in, sizes, size_for, Filled}
use Rattle.program_tree.proofs.Columns.{filled_none, filled_more, size_read}
use Rattle.program_tree.proofs.Rows.{reading, places_none, places_next}
use Rattle.program_tree.proofs.types.Tree.fill.Goals as goal
use Rattle.program_tree.proofs.types.Tree.fill.Goals.{In-loop-i, then-eq, else-eq}

state : (c : In-loop-i) → let p = c.args.program.now in State (kinds_in p) p.length c.requires.long c.requires.formed (sizes c.loop-i.self.nodes) c.loop-i.i
state c = state_at _ _ _ _ _ _ (omega arith) c.loop-i.invariant.3.sizes_are

kind : (c : In-loop-i) → let p = c.args.program.now in number_of (get_or p.instructions c.loop-i.i does.Place) ≡ get_or (kinds_in p) c.loop-i.i 0
kind c = let p = c.args.program.now in sym (get_or-map number_of p.instructions c.loop-i.i does.Place)

pub loop-i-init : goal.loop-i-init
loop-i-init c = let long : length c.args.self.now.nodes ≡ most_instructions = search rules in (places_none (kinds_in c.args.program.now), refl, refl, filled_none c.args.program.now _, long)

pub size-size-requires : goal.size-size-requires
size-size-requires c = let p = c.args.program.now in let s = goal.at.size-size-requires c in
    reading (kinds_in p) p.length c.requires.long c.requires.formed c.loop-i.self c.loop-i.i c.loop-i-test.true (state s.In-loop-i) c.requires.short _ (kind s.In-loop-i)

-- with the node that comes at i
grown : (c : In-loop-i) (size : ℕ) (q : Place) → let p = c.args.program.now in let l = c.loop-i in let d = get_or p.instructions l.i does.Place in
    l.i < p.length → size ≡ size_for l.self (number_of d) l.i → (get_or (kinds_in p) l.i 0 ≡ 0 → place_of q ≡ place_at p.places (places_in (kinds_in p) l.i)) → Filled p (set l.self.nodes l.i (record { instruction = d; size = size; place = q })) (l.i + 1)
grown c size q h e there = let p = c.args.program.now in let l = c.loop-i in
    filled_more p l.self.nodes l.i l.invariant.3 _ (omega (arith, h, c.requires.short, l.invariant.4)) (first_leaf (kinds_in p) p.length c.requires.long c.requires.formed (sizes l.self.nodes) l.i h (state c)) (kind c) (e ∙ size_read (kinds_in p) l.self _ l.i (kind c)) there

pub loop-i-preserved : goal.loop-i-preserved
loop-i-preserved c = let p = c.args.program.now in let l = c.loop-i in let k = kind (goal.at.loop-i-preserved c).In-loop-i in let long : length (set l.self.nodes l.i _) ≡ most_instructions = length-set l.self.nodes l.i _ ∙ l.invariant.4 in elim c.if-eq.branch [
  | then-eq w ↦
      let e : number_of (get_or p.instructions l.i does.Place) ≡ 0 = search rules in
      (w.next-is ∙ ap (λ m. m + 1) l.invariant.0 ∙ sym (ap (λ m. counted m (places_in (kinds_in p) l.i)) (sym k ∙ e)) ∙ places_next (kinds_in p) l.i, l.invariant.1, l.invariant.2, grown (goal.at.loop-i-preserved c).In-loop-i c.size-size.result c.if-eq.place c.loop-i-test.true c.size-size.ensures (λ d. ap place_of w.place-is ∙ ap (place_at p.places) l.invariant.0), long)
  | else-eq w ↦
      let e : number_of (get_or p.instructions l.i does.Place) ≡ 0 → ⊥ = search rules in
      (w.next-is ∙ l.invariant.0 ∙ counted_other (get_or (kinds_in p) l.i 0) (places_in (kinds_in p) l.i) (λ d. e (k ∙ d)) ∙ places_next (kinds_in p) l.i, l.invariant.1, l.invariant.2, grown (goal.at.loop-i-preserved c).In-loop-i c.size-size.result c.if-eq.place c.loop-i-test.true c.size-size.ensures (λ d. absurd (e (k ∙ d))), long)
]
