-- What is asked of one instruction, taken apart: the same values answer.
use Rattle.std.proofs.Common.{ℕ, suc, ◌+◌, ◌-◌, ◌≤◌, ◌<◌, ◌≡◌, refl, sym, ap, ◌∙◌, ◌⊎◌, inl, inr, Bool, true, false, not, ◌&&◌, ◌||◌, true≢false, List, ◌∷◌, Result, Ok, Err, arith}
use Rattle.page_numbers.proofs.Bridge.{ints, +law}
use Rattle.page_walks.specs.Grid.{Grid, weight}
use Rattle.page_walks.specs.Walk.{Sat}
use Rattle.page_formulas.specs.Program.{Values, Place, test}
use Rattle.page_formulas.specs.Postfix.{says}
use Rattle.page_formulas.proofs.Cases.{joint_case, constant_case}
use Rattle.page_sheets.specs.Facts.{taken}
use Rattle.page_sheets.proofs.Descent.{taken_fact, fact_taken}
use Rattle.facts.specs.Decisions.{fact_of}
use Rattle.program_tree.specs.declared.types.Tree.{Tree}
use Rattle.program_tree.specs.Nodes.{kind_at, size_at, first_at, place_in, Made, LaidRows, Describes}
use Rattle.goals.specs.declared.types.Contradiction.{Contradiction}
use Rattle.goals.specs.declared.types.Goal.{Goal}
use Rattle.goals.specs.Closures.{Enters}
use Rattle.goals.specs.Goals.{goal, Same, splitting, unlike, total, Waits, Solves, Standing, Leads, Shut, Takes}

-- ---- truths

pub other : (a want : Bool) → ¬ (a ≡ want) → a ≡ not want
other true true f = absurd (f refl)
other true false f = refl
other false true f = refl
other false false f = absurd (f refl)

pub not_wanted : (a want : Bool) → not a ≡ want → a ≡ not want
not_wanted true true e = absurd (true≢false (sym e))
not_wanted true false e = refl
not_wanted false true e = refl
not_wanted false false e = absurd (true≢false e)

wanted_not : (a want : Bool) → a ≡ not want → not a ≡ want
wanted_not a true e = rw e
wanted_not a false e = rw e

-- an instruction of kind 1 or 2 of which one operand is enough
pub either_on : (k : ℕ) → 0 < k → k < 3 → (want t a b : Bool) → splitting k want ≡ true → says k t a b ≡ want → (a ≡ want) ⊎ (b ≡ want)
either_on = joint_case (λ k. (want t a b : Bool) → splitting k want ≡ true → says k t a b ≡ want → (a ≡ want) ⊎ (b ≡ want)) and_on or_on
  where
    and_on : (want t a b : Bool) → not want ≡ true → (a && b) ≡ want → (a ≡ want) ⊎ (b ≡ want)
    and_on want t true b s e = inr e
    and_on want t false b s e = inl e

    or_on : (want t a b : Bool) → want ≡ true → (a || b) ≡ want → (a ≡ want) ⊎ (b ≡ want)
    or_on want t true b s e = inl e
    or_on want t false b s e = inr e

pub either_back : (k : ℕ) → 0 < k → k < 3 → (want t a b : Bool) → splitting k want ≡ true → (a ≡ want) ⊎ (b ≡ want) → says k t a b ≡ want
either_back = joint_case (λ k. (want t a b : Bool) → splitting k want ≡ true → (a ≡ want) ⊎ (b ≡ want) → says k t a b ≡ want) and_back or_back
  where
    and_back : (want t a b : Bool) → not want ≡ true → (a ≡ want) ⊎ (b ≡ want) → (a && b) ≡ want
    and_back true t a b s o = absurd (true≢false (sym s))
    and_back false t false b s o = refl
    and_back false t true b s (inl e) = absurd (true≢false e)
    and_back false t true b s (inr e) = e

    or_back : (want t a b : Bool) → want ≡ true → (a ≡ want) ⊎ (b ≡ want) → (a || b) ≡ want
    or_back false t a b s o = absurd (true≢false (sym s))
    or_back true t true b s o = refl
    or_back true t false b s (inl e) = absurd (true≢false (sym e))
    or_back true t false b s (inr e) = e

-- one of which both are needed
both_on : (k : ℕ) → 0 < k → k < 3 → (want t a b : Bool) → splitting k want ≡ false → says k t a b ≡ want → (a ≡ want) × (b ≡ want)
both_on = joint_case (λ k. (want t a b : Bool) → splitting k want ≡ false → says k t a b ≡ want → (a ≡ want) × (b ≡ want)) and_on or_on
  where
    and_on : (want t a b : Bool) → not want ≡ false → (a && b) ≡ want → (a ≡ want) × (b ≡ want)
    and_on false t a b s e = absurd (true≢false s)
    and_on true t true b s e = (refl, e)
    and_on true t false b s e = absurd (true≢false (sym e))

    or_on : (want t a b : Bool) → want ≡ false → (a || b) ≡ want → (a ≡ want) × (b ≡ want)
    or_on true t a b s e = absurd (true≢false s)
    or_on false t false b s e = (refl, e)
    or_on false t true b s e = absurd (true≢false e)

both_back : (k : ℕ) → 0 < k → k < 3 → (want t a b : Bool) → a ≡ want → b ≡ want → says k t a b ≡ want
both_back = joint_case (λ k. (want t a b : Bool) → a ≡ want → b ≡ want → says k t a b ≡ want) (λ want t a b d e. rw (d, e) (twice want).0) (λ want t a b d e. rw (d, e) (twice want).1)
  where
    twice : (a : Bool) → ((a && a) ≡ a) × ((a || a) ≡ a)
    twice true = (refl, refl)
    twice false = (refl, refl)

constant_is : (k : ℕ) → 4 ≤ k → (want t a b : Bool) → unlike k want ≡ false → says k t a b ≡ want
constant_is = constant_case (λ k. (want t a b : Bool) → unlike k want ≡ false → says k t a b ≡ want) (λ want t a b u. sym (not_wanted want false u)) (λ k want t a b u. sym u)

constant_isnt : (k : ℕ) → 4 ≤ k → (want t a b : Bool) → unlike k want ≡ true → says k t a b ≡ want → ⊥
constant_isnt = constant_case (λ k. (want t a b : Bool) → unlike k want ≡ true → says k t a b ≡ want → ⊥) (λ want t a b u e. true≢false (e ∙ not_wanted want true u)) (λ k want t a b u e. true≢false (sym u ∙ sym e))

abbrev Answer : Type 0
Answer = Result (Unit {0}) Contradiction

module _ (t : Tree) where
  -- ---- one thing after another

  pub leads_self : (near : Grid) (gs : List Goal) → Standing t near gs → Leads t near gs near gs
  leads_self near gs s = record { standing = s; less = omega arith; old = λ x h. h; same = λ v d x. (λ y. y, λ y. y) }

  -- other goals with the same values, and no more of them
  pub takes_same : (near : Grid) (A B : List Goal) → total t B ≤ total t A → ((v : Values → ℕ → Bool) → Describes t v → Same (Solves t v near A) (Solves t v near B)) → (answer : Answer) (near' : Grid) (C : List Goal) → Takes t near B answer near' C → Takes t near A answer near' C
  takes_same near A B l e (Err c) near' C n = λ v d x s. n v d x ((e v d x).0 s)
  takes_same near A B l e (Ok u) near' C n = record { standing = n.standing; less = omega (arith, n.less); old = n.old; same = λ v d x. (λ s. (n.same v d x).0 ((e v d x).0 s), λ s. (e v d x).1 ((n.same v d x).1 s)) }

  pub takes_then : (near : Grid) (A : List Goal) (near' : Grid) (B : List Goal) → Leads t near A near' B → (answer : Answer) (near'' : Grid) (C : List Goal) → Takes t near' B answer near'' C → Takes t near A answer near'' C
  takes_then near A near' B w (Err c) near'' C n = λ v d x s. n v d x ((w.same v d x).0 s)
  takes_then near A near' B w (Ok u) near'' C n = record { standing = n.standing; less = omega (arith, n.less, w.less); old = λ x h. w.old x (n.old x h); same = λ v d x. (λ s. (n.same v d x).0 ((w.same v d x).0 s), λ s. (w.same v d x).1 ((n.same v d x).1 s)) }

  -- with one goal more on both sides
  pub takes_more : (g : Goal) (near : Grid) (A : List Goal) (near' : Grid) (B : List Goal) → Leads t near A near' B → (answer : Answer) (near'' : Grid) (C : List Goal) → Takes t near' (g ∷ B) answer near'' C → Takes t near (g ∷ A) answer near'' C
  takes_more g near A near' B w answer near'' C n = go answer n
    where
      on : (v : Values → ℕ → Bool) → Describes t v → (x : Values) → Solves t v near (g ∷ A) x → Solves t v near' (g ∷ B) x
      on v d x s = let r = (w.same v d x).0 (record { at_zero = s.at_zero; sat = s.sat; met = s.met.1 }) in record { at_zero = r.at_zero; sat = r.sat; met = (s.met.0, r.met) }

      back : (v : Values → ℕ → Bool) → Describes t v → (x : Values) → Solves t v near' (g ∷ B) x → Solves t v near (g ∷ A) x
      back v d x s = let r = (w.same v d x).1 (record { at_zero = s.at_zero; sat = s.sat; met = s.met.1 }) in record { at_zero = r.at_zero; sat = r.sat; met = (s.met.0, r.met) }

      go : (answer : Answer) → Takes t near' (g ∷ B) answer near'' C → Takes t near (g ∷ A) answer near'' C
      go (Err c) n = λ v d x s. n v d x (on v d x s)
      go (Ok u) n = record { standing = n.standing; less = omega (arith, n.less, w.less); old = λ x h. w.old x (n.old x h); same = λ v d x. (λ s. (n.same v d x).0 (on v d x s), λ s. back v d x ((n.same v d x).1 s)) }

  -- ---- one instruction
  module _ (near : Grid) (gs : List Goal) (i : ℕ) (want : Bool) (s : Standing t near gs) (h : i < t.count) where
    abbrev g : Goal
    g = goal i want

    abbrev k : ℕ
    k = kind_at t i

    abbrev q : Place
    q = taken (place_in t i) want

    node : Made t i
    node = s.laid.made i h

    module _ (v : Values → ℕ → Bool) (d : Describes t v) (x : Values) where
      place_told : k ≡ 0 → v x i ≡ test x (place_in t i)
      place_told e = d.told x i h ∙ ap (λ m. says m (test x (place_in t i)) (v x (first_at t i)) (v x (i - 1))) e

      not_told : k ≡ 3 → v x i ≡ not (v x (i - 1))
      not_told e = d.told x i h ∙ ap (λ m. says m (test x (place_in t i)) (v x (first_at t i)) (v x (i - 1))) e

    pub demand_place : k ≡ 0 → (answer : Answer) (r : Grid) → Enters (suc t.last) near (fact_of (place_in t i) want) answer r → Takes t near (g ∷ gs) answer r gs
    unfolding Sat
    demand_place e (Err o) r c = λ v d x n.
        let f = (node.place e).facts want in let w = taken_fact x (place_in t i) want (sym (place_told v d x e) ∙ n.met.0) in
        omega (ints, w, n.sat q.left q.right f.to_is f.from_is, c, +law (x q.right) q.most, +law (x q.left) (weight near q.left q.right), +law (weight near q.left q.right) q.most)
    demand_place e (Ok u) r c = record {
      standing = record { laid = s.laid; table = c.sized; tight = c.tight; waiting = s.waiting; enough = s.enough };
      less = omega arith;
      old = c.old;
      same = λ v d x. (
        λ n. record { at_zero = n.at_zero; sat = c.both x n.sat (taken_fact x (place_in t i) want (sym (place_told v d x e) ∙ n.met.0)); met = n.met.1 },
        λ n. record { at_zero = n.at_zero; sat = c.old x n.sat; met = (place_told v d x e ∙ fact_taken x (place_in t i) want (c.fact x n.sat), n.met) },
      );
    }

    pub constant_shut : 4 ≤ k → unlike k want ≡ true → Shut t near (g ∷ gs)
    constant_shut e u = λ v d x n. constant_isnt k e want (test x (place_in t i)) (v x (first_at t i)) (v x (i - 1)) u (sym (d.told x i h) ∙ n.met.0)

    pub constant_met : 4 ≤ k → unlike k want ≡ false → Leads t near (g ∷ gs) near gs
    constant_met e u = record {
      standing = s;
      less = omega arith;
      old = λ x n. n;
      same = λ v d x. (
        λ n. record { at_zero = n.at_zero; sat = n.sat; met = n.met.1 },
        λ n. record { at_zero = n.at_zero; sat = n.sat; met = (d.told x i h ∙ constant_is k e want (test x (place_in t i)) (v x (first_at t i)) (v x (i - 1)) u, n.met) },
      );
    }

    pub demand_not : k ≡ 3 → (answer : Answer) (r : Grid) (gs' : List Goal) → Takes t near (goal (i - 1) (not want) ∷ gs) answer r gs' → Takes t near (g ∷ gs) answer r gs'
    demand_not e answer r gs' n = takes_same near (g ∷ gs) (goal (i - 1) (not want) ∷ gs) (omega (arith, (node.one e).1)) (λ v d x. (
      λ n. record { at_zero = n.at_zero; sat = n.sat; met = (not_wanted (v x (i - 1)) want (sym (not_told v d x e) ∙ n.met.0), n.met.1) },
      λ n. record { at_zero = n.at_zero; sat = n.sat; met = (not_told v d x e ∙ wanted_not (v x (i - 1)) want n.met.0, n.met.1) },
    )) answer r gs' n

    -- ---- two operands
    module _ (l : 0 < k) (m : k < 3) where
      abbrev a : ℕ
      a = first_at t i

      abbrev b : ℕ
      b = i - 1

      -- both are needed
      pub both_same : splitting k want ≡ false → (answer : Answer) (r : Grid) (gs' : List Goal) → Takes t near (goal b want ∷ goal a want ∷ gs) answer r gs' → Takes t near (g ∷ gs) answer r gs'
      both_same e answer r gs' n = takes_same near (g ∷ gs) (goal b want ∷ goal a want ∷ gs) (omega (arith, (node.two l m).1)) (λ v d x. (
        λ n. let j = both_on k l m want (test x (place_in t i)) (v x a) (v x b) e (sym (d.told x i h) ∙ n.met.0) in record { at_zero = n.at_zero; sat = n.sat; met = (j.1, (j.0, n.met.1)) },
        λ n. record { at_zero = n.at_zero; sat = n.sat; met = (d.told x i h ∙ both_back k l m want (test x (place_in t i)) (v x a) (v x b) n.met.1.0 n.met.0, n.met.1.1) },
      )) answer r gs' n

      pub first_shut : splitting k want ≡ false → Shut t near (goal a want ∷ gs) → Shut t near (g ∷ gs)
      first_shut e n = λ v d x w. let j = both_on k l m want (test x (place_in t i)) (v x a) (v x b) e (sym (d.told x i h) ∙ w.met.0) in n v d x (record { at_zero = w.at_zero; sat = w.sat; met = (j.0, w.met.1) })

      pub demand_both : splitting k want ≡ false → (near' : Grid) (B : List Goal) → Leads t near (goal a want ∷ gs) near' B → (answer : Answer) (r : Grid) (gs' : List Goal) → Takes t near' (goal b want ∷ B) answer r gs' → Takes t near (g ∷ gs) answer r gs'
      demand_both e near' B w answer r gs' n = both_same e answer r gs' (takes_more (goal b want) near (goal a want ∷ gs) near' B w answer r gs' n)

  -- ---- a goal of which one operand is enough
  module _ (laid : LaidRows t) (g : Goal) (w : Waits t g) where
    abbrev first : ℕ
    first = first_at t g.at

    abbrev second : ℕ
    second = g.at - 1

    pub smaller : (size_at t second < g.at) × (size_at t first + size_at t second < size_at t g.at)
    smaller = (laid.made g.at w.in_tree).two w.kind_low w.kind_high

    module _ (v : Values → ℕ → Bool) (d : Describes t v) (x : Values) where
      pub met_on : v x g.at ≡ g.want → (v x first ≡ g.want) ⊎ (v x second ≡ g.want)
      met_on e = either_on (kind_at t g.at) w.kind_low w.kind_high g.want (test x (place_in t g.at)) (v x first) (v x second) w.splits (sym (d.told x g.at w.in_tree) ∙ e)

      pub met_back : (v x first ≡ g.want) ⊎ (v x second ≡ g.want) → v x g.at ≡ g.want
      met_back o = d.told x g.at w.in_tree ∙ either_back (kind_at t g.at) w.kind_low w.kind_high g.want (test x (place_in t g.at)) (v x first) (v x second) w.splits o
