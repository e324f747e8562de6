use Prim.Native.Nat.{ℕ, suc, ◌<◌}
use native.Mathlib.Numerals.{add-one}
use native.Mathlib.Omega.{arith}
use mathlib.Core.Path.{◌≡◌, refl, sym, ap, ◌∙◌, subst}
use mathlib.Core.Logic.{◌≢◌}
use mathlib.Core.Bool.{Bool, true, false}
use mathlib.Core.List.{map}
use lib.ListN.{length}
use borrow.Author.Rules.{rules}
use Rattle.std.specs.Prelude.{Option, Some, None}
use Rattle.goals.proofs.Tightening.{tight_within}
use Rattle.page_formulas.specs.Formulas.{Formula}
use Rattle.page_formulas.specs.Kinds.{known_kinds}
use Rattle.page_formulas.specs.Knowledge.{passes, known}
use Rattle.page_formulas.specs.Program.{Program, Values}
use Rattle.facts.specs.Decisions.{fact_of}
use Rattle.grid.specs.Edges.{Fact}
use Rattle.grid.specs.declared.Edge.{Edge}
use Rattle.grid.specs.declared.Grid.{Grid}
use Rattle.program.specs.Lent.{place_at}
use Rattle.program.specs.Meanings.{number_of}
use Rattle.program_tree.specs.Nodes.{Tells}
use Rattle.truth.specs.Values.{three_of}
use Rattle.truth.specs.declared.truths.Truth.{Truth}
use Rattle.truth.specs.declared.truths.Truth.TheVariants.{Fails, Open, Passes}
use Rattle.writer_trees.proofs.Growths.{with_is}
use Rattle.writer_trees.proofs.NodeHalves.{known_lent, more}
use Rattle.writer_leaves.specs.Leaves.{Tries, Opening}
use Rattle.writer_leaves.proofs.Descents.{leading_leaf, leading_end}
use Rattle.writer_leaves.proofs.Attempts.{going_start, going_true, going_false}
use Rattle.writer_leaves.proofs.descend.Goals as goal
use Rattle.writer_leaves.proofs.descend.Goals.{In-loop-place, Else-eq, in-Some, in-None}

passes_so : (k : Truth) → three_of k ≡ passes → k ≡ Passes
passes_so Fails e = absurd (let z : ◌≡◌ {A = ℕ} 0 1 = cc in omega arith)
passes_so Open e = absurd (let z : ◌≡◌ {A = ℕ} 0 1 = cc in omega arith)
passes_so Passes e = refl

pub loop-place-init : goal.loop-place-init
loop-place-init c = record { decided = ap length c.new-truths.ensures; going = rw c.new-truths.ensures (going_start _ _ _ _ c.requires) }

pub returns-then-eq : goal.returns-then-eq
returns-then-eq c = λ F x o.
    let l = c.loop-place in
    let a = c.args in
    let e : c.known.result ≡ Passes = search rules in
    let k : known F.program l.truths ≡ passes = sym (c.known.ensures ∙ ap (known_kinds (map number_of a.instructions.now)) c.so_far.ensures ∙ known_lent F a.instructions.now a.places.now o.lent l.truths) ∙ ap three_of e in
    leading_leaf a.tree.now.last F a.instructions.now a.places.now o.lent x l.truths l.near.rows (l.invariant.going.leading F x o) c.requires.placing.few l.near.sized k

pub opens_with-requires : goal.opens_with-requires
opens_with-requires c = let l = c.loop-place in
    let q = c.requires in
    record { program = q.formula.program; tells = q.opening.tells; tight = l.invariant.going.tight; fact = rw c.added.ensures (q.placing.facts l.place-index c.loop-place-test.true true) }

pub relax_in-requires-clause-summable : goal.relax_in-requires-clause-summable
relax_in-requires-clause-summable c = let l = c.loop-place in
    let last = c.args.tree.now.last in
    record { some = omega arith; few = omega (arith, c.requires.placing.few); within = simp add-one (tight_within (suc last) l.near.rows l.invariant.going.tight) }

pub relax_in-requires-clause-edge : goal.relax_in-requires-clause-edge
relax_in-requires-clause-edge c = let last = c.args.tree.now.last in
    let e : Edge = c.added-e.result in
    let f : Fact last e.from e.to e.weight = rw c.added-e.ensures (c.requires.placing.facts c.loop-place.place-index c.loop-place-test.true false) in
    (omega (arith, f.from_is), omega (arith, f.to_is), record { high = omega (arith, f.high); low = omega (arith, f.low) })

pub loop-place-preserved : goal.loop-place-preserved
loop-place-preserved c = let l = c.loop-place in
    let a = c.args in
    let t = a.tree.now in
    let ks = a.instructions.now in
    let ps = a.places.now in
    let n = l.invariant.decided in
    let inside : length l.truths < length ps = omega (arith, n, c.loop-place-test.true) in
    let no : c.known.result ≢ Passes = search rules in
    let unsure : (F : Formula) (x : Values) → Opening ks ps t a.root.now.rows F x → known F.program l.truths ≢ passes = λ F x o k. no (passes_so c.known.result (c.known.ensures ∙ ap (known_kinds (map number_of ks)) c.so_far.ensures ∙ known_lent F ks ps o.lent l.truths ∙ k)) in
    let e : (d : Bool) (f : Edge) → f ≡ fact_of (place_at ps l.place-index) d → f ≡ fact_of (place_at ps (length l.truths)) d = λ d f i. i ∙ ap (λ m. fact_of (place_at ps m) d) (sym n) in
    let said : (r : Option Grid) → c.opens_with.result ≡ r → (P : Program) → Tells t P → Tries r P t.last l.near.rows (fact_of (place_at ps (length l.truths)) true) = λ r i P u. subst (Tries r P t.last l.near.rows) (e true c.added.result c.added.ensures) (subst (λ q. Tries q P t.last l.near.rows c.added.result) i (c.opens_with.ensures P u)) in
    elim c.match-opens_with.branch [
      | in-Some w ↦ rw (w.truths-is, w.with-truths.ensures, w.near-is) (record {
        decided = more l.truths true ∙ omega (arith, n);
        going = going_true ks ps t a.root.now.rows c.requires l.truths l.near l.invariant.going inside unsure w.in-Some.closer (said (Some w.in-Some.closer) w.in-Some.is);
      })
      | in-None w ↦ rw (w.truths-is, w.with-truths-in-None.ensures, w.near-is, with_is t.last l.near.rows _ _ w.relax_in.ensures, e false w.added-e.result w.added-e.ensures) (record {
        decided = more l.truths false ∙ omega (arith, n);
        going = going_false ks ps t a.root.now.rows c.requires l.truths l.near l.invariant.going inside unsure (said None w.in-None.is);
      })
    ]

pub returns : goal.returns
returns c = λ F x o.
    let l = c.loop-place in
    let a = c.args in
    leading_end a.tree.now.last F a.instructions.now a.places.now o.lent x l.truths l.near.rows (l.invariant.going.leading F x o) c.requires.placing.few l.near.sized (omega (arith, c.loop-place-test.false, l.invariant.decided))
