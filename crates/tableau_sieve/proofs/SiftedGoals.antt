-- The goals that wait, sifted: what is known of two operands of which one is enough, and what it leaves to do.
use Rattle.std.proofs.Common.{ℕ, suc, ◌+◌, ◌-◌, ◌≤◌, ◌<◌, ◌≡◌, sym, ap, ◌∙◌, subst, ◌⊎◌, inl, inr, Bool, true, false, not, true≢false, List, [], ◌∷◌, get_or, Result, Ok, Err, arith}
use Rattle.page_walks.specs.Grid.{Grid, weight}
use Rattle.page_walks.specs.Walk.{Sat}
use Rattle.page_formulas.specs.Program.{Values}
use Rattle.page_formulas.specs.Knowledge.{Three, fails, passes, open?}
use Rattle.page_formulas.specs.Truths.{Says}
use Rattle.truth.specs.Values.{three_of}
use Rattle.truth.specs.declared.truths.Truth.{Truth}
use Rattle.truth.specs.declared.truths.Truth.TheVariants.{Fails}
use Rattle.program_tree.specs.declared.types.Tree.{Tree}
use Rattle.program_tree.specs.Nodes.{size_at, first_at, Describes}
use Rattle.goals.specs.declared.types.Contradiction.{Contradiction}
use Rattle.goals.specs.declared.types.Goal.{Goal}
use Rattle.goals.specs.Goals.{goal, Granted, total, Waits, Waiting, Solves, Standing, Leads, Shut, Takes, Sifted}
use Rattle.goals.proofs.AskedInstructions.{smaller, met_on, met_back, takes_same}
use Rattle.views.specs.Views.{Sees}
use Rattle.tableau_sieve.specs.Stands.{stand_of}
use Rattle.tableau_sieve.specs.declared.types.Stand.{Stand}
use Rattle.tableau_sieve.specs.declared.types.Stand.TheVariants.{Done, Dead, First, Second, Open}

-- what a stand says of the two truths
abbrev Stood : Bool → Bool → Bool → Stand → Type 0
Stood want a b Done = (a ≡ want) ⊎ (b ≡ want)
Stood want a b Dead = (a ≡ not want) × (b ≡ not want)
Stood want a b First = b ≡ not want
Stood want a b Second = a ≡ not want
Stood want a b Open = Unit {0}

stand_says : (want : Bool) (p q : Three) (a b : Bool) → Says p a → Says q b → Stood want a b (stand_of want p q)
stand_says true passes q a b x y = inl x
stand_says true fails passes a b x y = inr y
stand_says true fails fails a b x y = (x, y)
stand_says true fails open? a b x y = x
stand_says true open? passes a b x y = inr y
stand_says true open? fails a b x y = y
stand_says true open? open? a b x y = tt
stand_says false fails q a b x y = inl x
stand_says false passes fails a b x y = inr y
stand_says false passes passes a b x y = (x, y)
stand_says false passes open? a b x y = x
stand_says false open? fails a b x y = inr y
stand_says false open? passes a b x y = y
stand_says false open? open? a b x y = tt

clash : (a want : Bool) → a ≡ want → a ≡ not want → ⊥
clash a true e f = true≢false (sym e ∙ f)
clash a false e f = true≢false (sym f ∙ e)

module _ (t : Tree) where
  -- ---- one goal
  module _ (near : Grid) (g : Goal) (gs : List Goal) (s : Standing t near (g ∷ gs)) (seen : List Truth) (sees : Sees t near t.count seen) where
    abbrev a : ℕ
    a = first_at t g.at

    abbrev b : ℕ
    b = g.at - 1

    w : Waits t g
    w = s.waiting.0

    pub less : (size_at t b < g.at) × (size_at t a + size_at t b < size_at t g.at)
    less = smaller t s.laid g w

    pub rest : Standing t near gs
    rest = record { laid = s.laid; table = s.table; tight = s.tight; waiting = s.waiting.1; enough = omega (arith, s.enough) }

    abbrev pub known : Stand
    known = stand_of g.want (three_of (get_or seen a Fails)) (three_of (get_or seen b Fails))

    pub known_at : (j : ℕ) (d : Stand) → j ≡ a → d ≡ stand_of g.want (three_of (get_or seen j Fails)) (three_of (get_or seen b Fails)) → d ≡ known
    known_at j d e is = is ∙ ap (λ m. stand_of g.want (three_of (get_or seen m Fails)) (three_of (get_or seen b Fails))) e

    stood : (v : Values → ℕ → Bool) → Describes t v → (x : Values) → Sat (weight near) (suc t.last) x → (d : Stand) → known ≡ d → Stood g.want (v x a) (v x b) d
    stood v d x h k e = subst (Stood g.want (v x a) (v x b)) e (stand_says g.want (three_of (get_or seen a Fails)) (three_of (get_or seen b Fails)) (v x a) (v x b) ((sees.each a (omega (arith, less.0, w.in_tree))).so v d x h) ((sees.each b (omega (arith, less.0, w.in_tree))).so v d x h))

    -- the goal gone, or one operand in its place
    pub sift_done : known ≡ Done → Sifted t near (g ∷ gs) true near gs
    sift_done e = record {
      leads = record {
        standing = rest;
        less = omega arith;
        old = λ x h. h;
        same = λ v d x. (
          λ n. record { at_zero = n.at_zero; sat = n.sat; met = n.met.1 },
          λ n. record { at_zero = n.at_zero; sat = n.sat; met = (met_back t s.laid g w v d x (stood v d x n.sat Done e), n.met) },
        );
      };
      falls = λ m. omega (arith, less.1);
    }

    pub sift_dead : known ≡ Dead → Shut t near (g ∷ gs)
    sift_dead e = λ v d x n. let o = stood v d x n.sat Dead e in neither v x o (met_on t s.laid g w v d x n.met.0)
      where
        neither : (v : Values → ℕ → Bool) (x : Values) → (v x a ≡ not g.want) × (v x b ≡ not g.want) → (v x a ≡ g.want) ⊎ (v x b ≡ g.want) → ⊥
        neither v x o (inl e) = clash (v x a) g.want e o.0
        neither v x o (inr e) = clash (v x b) g.want e o.1

    -- an operand that is taken apart in the goal's place
    module _ (j : ℕ) (l : size_at t j < size_at t g.at) (e : (v : Values → ℕ → Bool) → Describes t v → (x : Values) → Sat (weight near) (suc t.last) x → (v x g.at ≡ g.want → v x j ≡ g.want) × (v x j ≡ g.want → v x g.at ≡ g.want)) where
      demanded : (answer : Result (Unit {0}) Contradiction) (near' : Grid) (gs' : List Goal) → Takes t near (goal j g.want ∷ gs) answer near' gs' → Takes t near (g ∷ gs) answer near' gs'
      demanded = takes_same t near (g ∷ gs) (goal j g.want ∷ gs) (omega (arith, l)) (λ v d x. (
        λ n. record { at_zero = n.at_zero; sat = n.sat; met = ((e v d x n.sat).0 n.met.0, n.met.1) },
        λ n. record { at_zero = n.at_zero; sat = n.sat; met = ((e v d x n.sat).1 n.met.0, n.met.1) },
      ))

      moved_on : (near' : Grid) (gs' : List Goal) → Leads t near (goal j g.want ∷ gs) near' gs' → Sifted t near (g ∷ gs) true near' gs'
      moved_on near' gs' n = record { leads = demanded (Ok tt) near' gs' n; falls = λ m. omega (arith, n.less, l) }

    module _ (e : known ≡ First) where
      one : (v : Values → ℕ → Bool) → Describes t v → (x : Values) → Sat (weight near) (suc t.last) x → (v x g.at ≡ g.want → v x a ≡ g.want) × (v x a ≡ g.want → v x g.at ≡ g.want)
      one v d x h = (λ m. only (stood v d x h First e) (met_on t s.laid g w v d x m), λ m. met_back t s.laid g w v d x (inl m))
        where
          only : v x b ≡ not g.want → (v x a ≡ g.want) ⊎ (v x b ≡ g.want) → v x a ≡ g.want
          only o (inl e) = e
          only o (inr e) = absurd (clash (v x b) g.want e o)

      pub sift_first : (near' : Grid) (gs' : List Goal) → Leads t near (goal a g.want ∷ gs) near' gs' → Sifted t near (g ∷ gs) true near' gs'
      sift_first = moved_on a (omega (arith, less.1)) one

      pub sift_first_shut : (near' : Grid) (gs' : List Goal) (o : Contradiction) → Shut t near (goal a g.want ∷ gs) → Shut t near (g ∷ gs)
      sift_first_shut near' gs' o = demanded a (omega (arith, less.1)) one (Err o) near' gs'

    module _ (e : known ≡ Second) where
      other : (v : Values → ℕ → Bool) → Describes t v → (x : Values) → Sat (weight near) (suc t.last) x → (v x g.at ≡ g.want → v x b ≡ g.want) × (v x b ≡ g.want → v x g.at ≡ g.want)
      other v d x h = (λ m. only (stood v d x h Second e) (met_on t s.laid g w v d x m), λ m. met_back t s.laid g w v d x (inr m))
        where
          only : v x a ≡ not g.want → (v x a ≡ g.want) ⊎ (v x b ≡ g.want) → v x b ≡ g.want
          only o (inl e) = absurd (clash (v x a) g.want e o)
          only o (inr e) = e

      pub sift_second : (near' : Grid) (gs' : List Goal) → Leads t near (goal b g.want ∷ gs) near' gs' → Sifted t near (g ∷ gs) true near' gs'
      sift_second = moved_on b (omega (arith, less.1)) other

      pub sift_second_shut : (near' : Grid) (gs' : List Goal) (o : Contradiction) → Shut t near (goal b g.want ∷ gs) → Shut t near (g ∷ gs)
      sift_second_shut near' gs' o = demanded b (omega (arith, less.1)) other (Err o) near' gs'

  -- ---- all of them: those that are left, and those that were kept
  pub record Sifting (near : Grid) (G : List Goal) (near' : Grid) (left kept : List Goal) (moved : Bool) : Type 0 where
    pub standing : Standing t near' kept
    pub waiting : Waiting t left
    pub fewer : total t left + total t kept ≤ total t G
    pub falls : moved ≡ true → total t left + total t kept < total t G
    pub old : (x : Values) → Sat (weight near') (suc t.last) x → Sat (weight near) (suc t.last) x
    pub on : (v : Values → ℕ → Bool) → Describes t v → (x : Values) → Solves t v near G x → Solves t v near' kept x × Granted (v x) left
    pub back : (v : Values → ℕ → Bool) → Describes t v → (x : Values) → Solves t v near' kept x → Granted (v x) left → Solves t v near G x

  pub sifting_start : (near : Grid) (G : List Goal) → Standing t near G → Sifting near G near G [] false
  sifting_start near G s = record {
    standing = record { laid = s.laid; table = s.table; tight = s.tight; waiting = tt; enough = omega arith };
    waiting = s.waiting;
    fewer = omega arith;
    falls = λ m. absurd (true≢false (sym m));
    old = λ x h. h;
    on = λ v d x n. (record { at_zero = n.at_zero; sat = n.sat; met = tt }, n.met);
    back = λ v d x n m. record { at_zero = n.at_zero; sat = n.sat; met = m };
  }

  module _ (near : Grid) (G : List Goal) (s : Standing t near G) (near' : Grid) (g : Goal) (left kept : List Goal) (moved : Bool) (w : Sifting near G near' (g ∷ left) kept moved) where
    pub sifting_asks : Standing t near' (g ∷ kept)
    sifting_asks = record { laid = w.standing.laid; table = w.standing.table; tight = w.standing.tight; waiting = (w.waiting.0, w.standing.waiting); enough = omega (arith, w.fewer, s.enough) }

    with_goal : (v : Values → ℕ → Bool) → Describes t v → (x : Values) → Solves t v near G x → Solves t v near' (g ∷ kept) x
    with_goal v d x n = let r = w.on v d x n in record { at_zero = r.0.at_zero; sat = r.0.sat; met = (r.1.0, r.0.met) }

    pub sifting_shut : Shut t near' (g ∷ kept) → Shut t near G
    sifting_shut n = λ v d x y. n v d x (with_goal v d x y)

    pub sifting_more : (m : Bool) (near'' : Grid) (gs' : List Goal) → Sifted t near' (g ∷ kept) m near'' gs' → (after : Bool) → (after ≡ true → (m ≡ true) ⊎ (moved ≡ true)) → Sifting near G near'' left gs' after
    sifting_more m near'' gs' n after z =
        let r = n.leads in
        record {
          standing = r.standing;
          waiting = w.waiting.1;
          fewer = omega (arith, r.less, w.fewer);
          falls = λ e. lower (z e);
          old = λ x h. w.old x (r.old x h);
          on = λ v d x y. ((r.same v d x).0 (with_goal v d x y), (w.on v d x y).1.1);
          back = λ v d x y q. let o = (r.same v d x).1 y in w.back v d x (record { at_zero = o.at_zero; sat = o.sat; met = o.met.1 }) (o.met.0, q);
        }
      where
        lower : (m ≡ true) ⊎ (moved ≡ true) → total t left + total t gs' < total t G
        lower (inl e) = omega (arith, n.falls e, w.fewer)
        lower (inr e) = omega (arith, n.leads.less, w.falls e)

  pub sifting_end : (near : Grid) (G : List Goal) (near' : Grid) (kept : List Goal) (moved : Bool) → Sifting near G near' [] kept moved → Sifted t near G moved near' kept
  sifting_end near G near' kept moved w = record {
    leads = record { standing = w.standing; less = omega (arith, w.fewer); old = w.old; same = λ v d x. (λ n. (w.on v d x n).0, λ n. w.back v d x n tt) };
    falls = λ m. omega (arith, w.falls m);
  }

  -- what was seen under fewer facts
  pub sees_on : (near near' : Grid) (seen : List Truth) (n : ℕ) → ((x : Values) → Sat (weight near') (suc t.last) x → Sat (weight near) (suc t.last) x) → Sees t near n seen → Sees t near' n seen
  sees_on near near' seen n o w = record { each = λ j l. record { so = λ v d x h. (w.each j l).so v d x (o x h) } }
