-- A goal taken out of those that wait: the others are the same, in another order.
use Rattle.std.proofs.Common.{ℕ, zero, suc, ◌+◌, ◌-◌, ◌<◌, ◌≡◌, sym, ap, ◌∙◌, subst, List, ◌∷◌, length, get_or, arith}
use native.Mathlib.Decide.{ℕ_discrete}
use lib.ListN.{set}
use lib.Seq.{get_or-set_same, get_or-set_other}
use Rattle.program_tree.specs.declared.types.Tree.{Tree}
use Rattle.program_tree.specs.Nodes.{size_at}
use Rattle.goals.specs.declared.types.Goal.{Goal}
use Rattle.goals.specs.declared.types.State.{State}
use Rattle.goals.specs.Goals.{no_goal, stack_of, waiting, Each, total, Waits, Standing, Leads}
use Rattle.goals.proofs.Stacks.{below, stack_top, height}
use Rattle.tableau_choice.specs.Choices.{InTree, Out}

-- ---- what holds of each goal

module _ (P : Goal → Type 0) (goals : List Goal) where
  each_at : (n : ℕ) → Each P (stack_of goals n) → (k : ℕ) → k < n → P (get_or goals k no_goal)
  unfolding stack_of
  each_at zero e k h = absurd (omega arith)
  each_at (suc n) e k h = go (λ l. each_at n e.1 k l) (ℕ_discrete k n)
    where
      go : (k < n → P (get_or goals k no_goal)) → Dec (k ≡ n) → P (get_or goals k no_goal)
      go f (yes d) = rw d e.0
      go f (no d) = f (omega arith)

  each_all : (n : ℕ) → ((k : ℕ) → k < n → P (get_or goals k no_goal)) → Each P (stack_of goals n)
  unfolding stack_of
  each_all zero f = tt
  each_all (suc n) f = (f n (omega arith), each_all n (λ k h. f k (omega arith)))

pub in_tree : (t : Tree) (s : State) → Standing t s.near.rows (waiting s) → InTree s
in_tree t s st = record {
  few = omega (arith, height t st.laid s.goals s.count st.waiting, st.enough);
  each = λ k h. omega (arith, (each_at (Waits t) s.goals s.count st.waiting k h).in_tree, st.laid.short);
}

-- ---- one entry written anew
total_set : (t : Tree) (goals : List Goal) (i : ℕ) (g : Goal) (n : ℕ) → i < n → i < length goals → total t (stack_of (set goals i g) n) + size_at t (get_or goals i no_goal).at ≡ total t (stack_of goals n) + size_at t g.at
unfolding stack_of
total_set t goals i g zero h l = absurd (omega arith)
total_set t goals i g (suc n) h l = go (λ k. total_set t goals i g n k l) (ℕ_discrete i n)
  where
    go : (i < n → total t (stack_of (set goals i g) n) + size_at t (get_or goals i no_goal).at ≡ total t (stack_of goals n) + size_at t g.at) → Dec (i ≡ n) → total t (stack_of (set goals i g) (suc n)) + size_at t (get_or goals i no_goal).at ≡ total t (stack_of goals (suc n)) + size_at t g.at
    go f (yes e) =
        let a : size_at t (get_or (set goals i g) n no_goal).at ≡ size_at t g.at = ap (λ m. size_at t (get_or (set goals i g) m no_goal).at) (sym e) ∙ ap (λ (m : Goal). size_at t m.at) (get_or-set_same goals i g no_goal l) in
        let b = ap (total t) (below goals g i n (omega arith)) in
        let d : size_at t (get_or goals i no_goal).at ≡ size_at t (get_or goals n no_goal).at = ap (λ m. size_at t (get_or goals m no_goal).at) e in
        omega (arith, a, b, d)
    go f (no e) =
        let a : size_at t (get_or (set goals i g) n no_goal).at ≡ size_at t (get_or goals n no_goal).at = ap (λ (m : Goal). size_at t m.at) (get_or-set_other goals i n g no_goal (λ d. e (sym d))) in
        omega (arith, a, f (omega arith))

-- ---- taken out
module _ (t : Tree) (s : State) (g : Goal) (left : State) (st : Standing t s.near.rows (waiting s)) (w : Out s g left) where
  abbrev n : ℕ
  n = s.count

  abbrev goals : List Goal
  goals = s.goals

  abbrev rest : ℕ
  rest = n - 1

  abbrev last : Goal
  last = get_or goals rest no_goal

  inside : w.at < length goals
  inside = omega (arith, w.there, w.long, (in_tree t s st).few)

  left_waiting : waiting left ≡ stack_of left.goals rest
  left_waiting = ap (stack_of left.goals) w.count_is

  others : (k : ℕ) → k < rest → (m : ℕ) × (m < n) × (get_or left.goals k no_goal ≡ get_or goals m no_goal)
  others k h = go (ℕ_discrete k w.at)
    where
      go : Dec (k ≡ w.at) → (m : ℕ) × (m < n) × (get_or left.goals k no_goal ≡ get_or goals m no_goal)
      go (yes e) = (rest, omega arith, rw (w.left_is, e) (get_or-set_same goals w.at last no_goal inside))
      go (no e) = (k, omega arith, rw w.left_is (get_or-set_other goals w.at k last no_goal e))

  on : (P : Goal → Type 0) → Each P (stack_of goals n) → Each P (g ∷ stack_of left.goals rest)
  on P e = (subst P (sym w.is) (each_at P goals n e w.at w.there), each_all P left.goals rest (λ k h. let o = others k h in subst P (sym o.2) (each_at P goals n e o.0 o.1)))

  back : (P : Goal → Type 0) → Each P (g ∷ stack_of left.goals rest) → Each P (stack_of goals n)
  back P e = each_all P goals n (λ k h. go k h (ℕ_discrete k w.at) (ℕ_discrete k rest))
    where
      go : (k : ℕ) → k < n → Dec (k ≡ w.at) → Dec (k ≡ rest) → P (get_or goals k no_goal)
      go k h (yes d) r = subst P (w.is ∙ ap (λ m. get_or goals m no_goal) (sym d)) e.0
      go k h (no d) (yes r) =
          let z : ¬ (w.at ≡ rest) = λ z. d (r ∙ sym z) in
          let i : w.at < rest = omega (arith, w.there, z) in
          subst P (ap (λ l. get_or l w.at no_goal) w.left_is ∙ get_or-set_same goals w.at last no_goal inside ∙ ap (λ m. get_or goals m no_goal) (sym r)) (each_at P left.goals rest e.1 w.at i)
      go k h (no d) (no r) = subst P (ap (λ l. get_or l k no_goal) w.left_is ∙ get_or-set_other goals w.at k last no_goal d) (each_at P left.goals rest e.1 k (omega arith))

  size : size_at t g.at + total t (stack_of left.goals rest) ≡ total t (stack_of goals n)
  size = go (ℕ_discrete w.at rest)
    where
      top : total t (stack_of goals n) ≡ size_at t last.at + total t (stack_of goals rest)
      top = ap (total t) (stack_top goals n (omega (arith, w.there)))

      new : total t (stack_of left.goals rest) ≡ total t (stack_of (set goals w.at last) rest)
      new = ap (λ l. total t (stack_of l rest)) w.left_is

      one : size_at t g.at ≡ size_at t (get_or goals w.at no_goal).at
      one = ap (λ (m : Goal). size_at t m.at) w.is

      go : Dec (w.at ≡ rest) → size_at t g.at + total t (stack_of left.goals rest) ≡ total t (stack_of goals n)
      go (yes e) = omega (arith, top, new, one, ap (λ m. size_at t (get_or goals m no_goal).at) e, ap (total t) (below goals last w.at rest (omega arith)))
      go (no e) = omega (arith, top, new, one, total_set t goals w.at last rest (omega (arith, w.there)) inside)

  pub picked : Leads t s.near.rows (waiting s) left.near.rows (g ∷ waiting left)
  picked = rw (left_waiting, w.near_is) (record {
    standing = record { laid = st.laid; table = st.table; tight = st.tight; waiting = on (Waits t) st.waiting; enough = omega (arith, size, st.enough) };
    less = omega (arith, size);
    old = λ x h. h;
    same = λ v d x. (
      λ y. record { at_zero = y.at_zero; sat = y.sat; met = on (λ m. v x m.at ≡ m.want) y.met },
      λ y. record { at_zero = y.at_zero; sat = y.sat; met = back (λ m. v x m.at ≡ m.want) y.met },
    );
  })
