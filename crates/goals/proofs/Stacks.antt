-- A stack of goals in an array.
use Rattle.std.proofs.Common.{ℕ, zero, suc, ◌+◌, ◌-◌, ◌≤◌, ◌<◌, ◌≡◌, refl, ap₂, List, [], ◌∷◌, arith, add-one, length, get_or}
use lib.ListN.{set}
use lib.Seq.{get_or-set_same, get_or-set_other}
use Rattle.program_tree.specs.declared.types.Tree.{Tree}
use Rattle.program_tree.specs.Nodes.{LaidRows}
use Rattle.goals.specs.declared.types.Goal.{Goal}
use Rattle.goals.specs.Goals.{no_goal, stack_of, total, Waiting}

pub below : (goals : List Goal) (g : Goal) (i h : ℕ) → h ≤ i → stack_of (set goals i g) h ≡ stack_of goals h
unfolding stack_of
below goals g i zero l = refl
below goals g i (suc h) l = ap₂ (λ m gs. m ∷ gs) (get_or-set_other goals i h g no_goal (omega arith)) (below goals g i h (omega arith))

pub put : (goals : List Goal) (g : Goal) (h : ℕ) → h < length goals → stack_of (set goals h g) (h + 1) ≡ g ∷ stack_of goals h
unfolding stack_of
put goals g h l = rw (add-one h) (ap₂ (λ m gs. m ∷ gs) (get_or-set_same goals h g no_goal l) (below goals g h h (omega arith)))

pub stack_top : (goals : List Goal) (h : ℕ) → 0 < h → stack_of goals h ≡ get_or goals (h - 1) no_goal ∷ stack_of goals (h - 1)
unfolding stack_of
stack_top goals zero l = absurd (omega arith)
stack_top goals (suc h) l = let e : suc h - 1 ≡ h = omega arith in rw e refl

pub stack_none : (goals : List Goal) (h : ℕ) → h ≡ 0 → stack_of goals h ≡ []
unfolding stack_of
stack_none goals h e = rw e

-- no more goals than they have instructions
pub height : (t : Tree) → LaidRows t → (goals : List Goal) (h : ℕ) → Waiting t (stack_of goals h) → h ≤ total t (stack_of goals h)
unfolding stack_of
height t l goals zero w = omega arith
height t l goals (suc h) w = omega (arith, (l.made (get_or goals h no_goal).at w.0.in_tree).some, height t l goals h w.1)
