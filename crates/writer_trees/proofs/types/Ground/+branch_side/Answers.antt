-- A branch and its halves, which call each other.
use Prim.Native.Nat.{ℕ, suc, ◌<◌}
use mathlib.Core.Path.{◌≡◌, refl, sym, ap, ◌∙◌, subst}
use mathlib.Core.Bool.{Bool, true, false}
use mathlib.Core.List.{List, [], ◌∷◌, ◌++◌}
use native.Mathlib.Numerals.{add-one}
use native.Mathlib.Omega.{arith}
use lib.ListN.{length}
use Rattle.page_formulas.specs.Formulas.{Formula}
use Rattle.truth.specs.Values.{three_of}
use Rattle.program.specs.Lent.{place_at}
use Rattle.facts.specs.Decisions.{fact_of}
use Rattle.grid.specs.Edges.{Fact, Kept}
use Rattle.grid.specs.declared.Edge.{Edge}
use Rattle.goals.proofs.Tightening.{tight_within}
use Rattle.room.specs.Room.{begun, stopped}
use Rattle.room.proofs.PutBytes.{stopped_is}
use Rattle.writer_trees.specs.Trees.{side_by}
use Rattle.writer_trees.specs.declared.types.Ground.{Ground}
use Rattle.writer_trees.proofs.Growths.{grows_over, grows_leaf, grows_open, grows_cut, grows_join, join_over, kept_next, with_is, tight_next}
use Rattle.writer_trees.proofs.NodeHalves.{more, grown_both, side_false, side_cut, side_true, side_end, side_calm}
use Rattle.writer_trees.proofs.types.Ground.+branch_side.Goals as goal

-- the fact of a half, as the code has it
half_fact : (x : Ground) (i n : ℕ) → n ≡ i → i < length x.places.now → (d : Bool) (e : Edge) → e ≡ fact_of (place_at x.places.now n) d → Fact x.last e.from e.to e.weight
half_fact x i n m h d e f = rw (f, m) (x.placing.facts i h d)

-- what it comes to
half_is : (F : Formula) (x : Ground) (ds es : List Bool) (n : ℕ) → n ≡ length ds → (d : Bool) → es ≡ ds ++ d ∷ [] → (e : Edge) → e ≡ fact_of (place_at x.places.now n) d → side_by F x es e ≡ side_by F x (ds ++ d ∷ []) (fact_of (place_at x.places.now (length ds)) d)
half_is F x ds es n m d i e f = rw (f, i, m) refl

-- ---- a branch

pub branch-returns-in_err-put-clause-grows : goal.branch-returns-in_err-put-clause-grows
branch-returns-in_err-put-clause-grows t c = λ F lent unsure.
    let x = c.args.self.now in
    let ds = c.args.truths.now in
    rw (stopped_is c.put.new.self c.from_residual.result c.from_residual.ensures.0, grown_both F x lent ds c.requires unsure)
    (join_over _ _ (begun c.args.sink.now) (stopped c.put.new.self) (stopped c.put.new.self) c.in_err-put.ensures.filled (grows_over _ _ refl) refl)

pub branch-side-requires : goal.branch-side-requires
branch-side-requires t c = let x = c.args.self.now in
    let ds = c.args.truths.now in
    let m : length c.with.result ≡ suc (length ds) = ap length c.with.ensures ∙ more ds true in
    (omega (arith, c.decreases, c.requires, m), (omega (arith, c.requires, m), half_fact x (length ds) _ c.count.ensures c.requires true c.added.result c.added.ensures))

pub branch-returns-in_err-side-clause-grows : goal.branch-returns-in_err-side-clause-grows
branch-returns-in_err-side-clause-grows t c = λ F lent unsure.
    let x = c.args.self.now in
    let ds = c.args.truths.now in
    let a = half_is F x ds c.with.result _ c.count.ensures true c.with.ensures c.added.result c.added.ensures in
    rw (stopped_is c.side.new.sink c.from_residual-in_err-side.result c.from_residual-in_err-side.ensures.0, grown_both F x lent ds c.requires unsure, ← a)
    (join_over _ _ (begun c.args.sink.now) (begun c.put.new.self) (stopped c.side.new.sink) c.in_ok-put.ensures.filled (c.in_err-side.ensures.grows F lent) refl)

pub branch-side-requires-2 : goal.branch-side-requires-2
branch-side-requires-2 t c = let x = c.args.self.now in
    let ds = c.args.truths.now in
    let m : length c.with-2.result ≡ suc (length ds) = ap length c.with-2.ensures ∙ more ds false in
    (omega (arith, c.decreases, c.requires, m), (omega (arith, c.requires, m), half_fact x (length ds) _ c.count.ensures c.requires false c.added-2.result c.added-2.ensures))

pub branch-returns-clause-grows : goal.branch-returns-clause-grows
branch-returns-clause-grows t c = λ F lent unsure.
    let x = c.args.self.now in
    let ds = c.args.truths.now in
    let a = half_is F x ds c.with.result _ c.count.ensures true c.with.ensures c.added.result c.added.ensures in
    let b = half_is F x ds c.with-2.result _ c.count.ensures false c.with-2.ensures c.added-2.result c.added-2.ensures in
    rw (grown_both F x lent ds c.requires unsure, ← a, ← b)
    (grows_join _ _ (begun c.args.sink.now) (begun c.put.new.self) (begun c.side.new.sink) _ c.in_ok-put.ensures.filled (c.in_ok-side.ensures.grows F lent) (c.side-2.ensures.grows F lent))

-- ---- half of a branch

pub side-returns-then-contradicts-clause-grows : goal.side-returns-then-contradicts-clause-grows
side-returns-then-contradicts-clause-grows t c = λ F lent.
    let a = c.args in
    let x = a.self.now in
    grows_cut _ _ _ (side_cut F x lent a.truths.now a.e (sym c.contradicts.ensures ∙ c.if-contradicts.true)) _ _ (rw (← c.known-k.ensures.lent F lent) c.cut.ensures.filled)

pub side-returns-then-count-self-clause-grows : goal.side-returns-then-count-self-clause-grows
side-returns-then-count-self-clause-grows t c = λ F lent.
    let a = c.args in
    let x = a.self.now in
    grows_open _ _ (side_end F x lent a.truths.now a.e (sym c.contradicts.ensures ∙ c.if-contradicts.false) (sym (c.known-k.ensures.lent F lent) ∙ ap three_of c.in-Open.is) (omega (arith, c.if-count-self.true, c.count.ensures))) _ _

pub side-returns-in-Fails-clause-grows : goal.side-returns-in-Fails-clause-grows
side-returns-in-Fails-clause-grows t c = λ F lent.
    let a = c.args in
    grows_leaf _ (side_false F a.self.now lent a.truths.now a.e (sym (c.known-k.ensures.lent F lent) ∙ ap three_of c.in-Fails.is)) _ _ c.put.ensures.filled

pub side-returns-in-Passes-clause-grows : goal.side-returns-in-Passes-clause-grows
side-returns-in-Passes-clause-grows t c = λ F lent.
    let a = c.args in
    grows_open _ _ (side_true F a.self.now lent a.truths.now a.e (sym c.contradicts.ensures ∙ c.if-contradicts.false) (sym (c.known-k.ensures.lent F lent) ∙ ap three_of c.in-Passes.is)) _ _

pub side-returns-else-count-self-clause-grows : goal.side-returns-else-count-self-clause-grows
side-returns-else-count-self-clause-grows t c = λ F lent. c.deeper.ensures.grows F lent (sym (c.known-k.ensures.lent F lent) ∙ ap three_of c.in-Open.is)

-- ---- the branch below

pub deeper-relax_in-requires-clause-summable : goal.deeper-relax_in-requires-clause-summable
deeper-relax_in-requires-clause-summable t c = let x = c.args.self.now in record { some = omega arith; few = omega (arith, x.placing.few); within = simp add-one (tight_within (suc x.last) x.near.now.rows x.tight) }

pub deeper-invariant_of-below : goal.deeper-invariant_of-below
deeper-invariant_of-below t c = let a = c.args in
    let x = a.self.now in record {
      short = x.short;
      placing = x.placing;
      kept = subst Kept (sym c.enter.ensures) (kept_next x.last a.e c.requires.fact x.facts.now.rows x.kept);
      tight = tight_next x.last x.placing.few x.near.now.rows x.near.now.sized x.tight a.e c.requires.fact c.requires.calm _ (with_is x.last x.near.now.rows a.e _ c.relax_in.ensures);
    }

pub deeper-returns-clause-grows : goal.deeper-returns-clause-grows
deeper-returns-clause-grows t c = λ F lent unsure.
    let a = c.args in
    let x = a.self.now in
    side_calm F x lent a.truths.now a.e c.requires.calm _ _ c.enter.ensures (with_is x.last x.near.now.rows a.e _ c.relax_in.ensures) _ _ (c.branch-below.ensures.grows F lent unsure)
