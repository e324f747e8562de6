-- A well-formed program as a tree: the values on its stack are those of instructions, each starting where the one before it ends.
use Prim.Native.Nat.{ℕ, zero, suc, ◌+◌, ◌-◌, ◌≤◌, ◌<◌}
use mathlib.Core.Path.{◌≡◌, refl, sym, ap, ◌∙◌, subst}
use mathlib.Core.Bool.{Bool, true}
use mathlib.Core.List.{List, [], ◌∷◌}
use native.Mathlib.Omega.{arith}
use lib.ListN.{length, get_or, take, drop, drop_of_length-le}
use lib.Seq.{drop-cons, get_or-take, length-take-le, take_all}
use Rattle.page_formulas.specs.Program.{Values, Place, Instr, place, and_i, or_i, not_i, true_i, false_i, Program, test, step, run, top, truth}
use Rattle.page_formulas.specs.Kinds.{kind_of, kinds_of}
use Rattle.page_formulas.specs.Form.{arity, Rises}
use Rattle.page_formulas.specs.Postfix.{says, size_by, first_of, size_of, counted, value_at}
use Rattle.page_formulas.proofs.Cases.{joint_case, constant_case}
use Rattle.page_formulas.proofs.Chains.{Chain, stack, Top, the_top, on_top, on_stack}

-- ---- the code's tests

pub counted_other : (k n : ℕ) → ¬ (k ≡ 0) → n ≡ counted k n
counted_other zero n f = absurd (f refl)
counted_other (suc k) n f = refl

pub size_leaf : (k : ℕ) → 4 ≤ k → (a b : ℕ) → 1 ≡ size_by k a b
size_leaf = constant_case (λ k. (a b : ℕ) → 1 ≡ size_by k a b) (λ a b. refl) (λ k a b. refl)

pub size_place : (k a b : ℕ) → k ≡ 0 → 1 ≡ size_by k a b
size_place k a b e = rw e

pub size_not : (k a b : ℕ) → k ≡ 3 → b + 1 ≡ size_by k a b
size_not k a b e = rw e

pub size_two : (k : ℕ) → 0 < k → k < 3 → (a b : ℕ) → a + b + 1 ≡ size_by k a b
size_two = joint_case (λ k. (a b : ℕ) → a + b + 1 ≡ size_by k a b) (λ a b. refl) (λ a b. refl)

-- ---- one instruction's step

abbrev pub instr_at : Program → ℕ → Instr
instr_at p i = get_or p i true_i

run_next : (x : Values) (p : Program) (i : ℕ) (st : List Bool) → i < length p → run x (take (suc i) p) st ≡ step x (instr_at p i) (run x (take i p) st)
unfolding run
run_next x [] i st h = absurd (omega arith)
run_next x (s ∷ p) zero st h = refl
run_next x (s ∷ p) (suc i) st h = run_next x p i (step x s st) (omega arith)

pub kinds_length : (p : Program) → length (kinds_of p) ≡ length p
unfolding kinds_of
kinds_length [] = refl
kinds_length (s ∷ p) = ap suc (kinds_length p)

pub kind_at_lem : (p : Program) (i : ℕ) → i < length p → get_or (kinds_of p) i 0 ≡ kind_of (instr_at p i)
unfolding kinds_of
kind_at_lem [] i h = absurd (omega arith)
kind_at_lem (s ∷ p) zero h = refl
kind_at_lem (s ∷ p) (suc i) h = kind_at_lem p i (omega arith)

-- q is the place's truth, where it is one
abbrev pub Tests : Values → Instr → Bool → Type 0
Tests x s q = (pl : Place) → s ≡ place pl → q ≡ test x pl

module _ (x : Values) (q a b : Bool) (st : List Bool) where
  step_none : (s : Instr) → arity (kind_of s) ≡ 0 → Tests x s q → step x s st ≡ says (kind_of s) q a b ∷ st
  step_none (place pl) n e = ap (λ r. r ∷ st) (sym (e pl refl))
  step_none and_i n e = absurd (omega arith)
  step_none or_i n e = absurd (omega arith)
  step_none not_i n e = absurd (omega arith)
  step_none true_i n e = refl
  step_none false_i n e = refl

  step_one : (s : Instr) → arity (kind_of s) ≡ 1 → step x s (b ∷ st) ≡ says (kind_of s) q a b ∷ st
  step_one (place pl) n = absurd (omega arith)
  step_one and_i n = absurd (omega arith)
  step_one or_i n = absurd (omega arith)
  step_one not_i n = refl
  step_one true_i n = absurd (omega arith)
  step_one false_i n = absurd (omega arith)

  step_two : (s : Instr) → arity (kind_of s) ≡ 2 → step x s (b ∷ a ∷ st) ≡ says (kind_of s) q a b ∷ st
  step_two (place pl) n = absurd (omega arith)
  step_two and_i n = refl
  step_two or_i n = refl
  step_two not_i n = absurd (omega arith)
  step_two true_i n = absurd (omega arith)
  step_two false_i n = absurd (omega arith)

-- an instruction by how many operands it takes
data Takes : ℕ → Type 0 where
  none : {k : ℕ} → arity k ≡ 0 → ((a b : ℕ) → size_by k a b ≡ 1) → Takes k
  one : {k : ℕ} → arity k ≡ 1 → ((a b : ℕ) → size_by k a b ≡ b + 1) → Takes k
  two : {k : ℕ} → arity k ≡ 2 → ((a b : ℕ) → size_by k a b ≡ a + b + 1) → Takes k

takes : (k : ℕ) → Takes k
takes zero = none refl (λ a b. refl)
takes (suc zero) = two refl (λ a b. refl)
takes (suc (suc zero)) = two refl (λ a b. refl)
takes (suc (suc (suc zero))) = one refl (λ a b. refl)
takes (suc (suc (suc (suc k)))) = none refl (λ a b. refl)

some_operand : (k : ℕ) → 0 < k → k < 4 → 0 < arity k
some_operand zero l m = absurd (omega arith)
some_operand (suc zero) l m = omega arith
some_operand (suc (suc zero)) l m = omega arith
some_operand (suc (suc (suc zero))) l m = omega arith
some_operand (suc (suc (suc (suc k)))) l m = absurd (omega arith)

two_operands : (k : ℕ) → 0 < k → k < 3 → arity k ≡ 2
two_operands = joint_case (λ k. arity k ≡ 2) refl refl

pub positive : (k a b : ℕ) → 0 < size_by k a b
positive k a b = go (takes k)
  where
    go : Takes k → 0 < size_by k a b
    go (none e z) = omega (arith, z a b)
    go (one e z) = omega (arith, z a b)
    go (two e z) = omega (arith, z a b)

abbrev test_of : Values → Instr → Bool
test_of x (place pl) = test x pl
test_of x and_i = true
test_of x or_i = true
test_of x not_i = true
test_of x true_i = true
test_of x false_i = true

-- ---- a well-formed program's instructions, one after another
module _ (kinds : List ℕ) (n : ℕ) (long : n ≤ length kinds) (formed : Rises 0 (take n kinds) 1) where
  kind_in : (i : ℕ) → i < n → get_or (take n kinds) i 0 ≡ get_or kinds i 0
  kind_in i h = get_or-take n kinds i 0 h

  module _ (sizes : List ℕ) where
    -- before instruction i
    pub record State (i : ℕ) : Type 0 where
      height : ℕ
      rises : Rises height (drop i (take n kinds)) 1
      chain : Chain sizes i height
      runs : (p : Program) → kinds_of p ≡ take n kinds → (x : Values) → run x (take i p) [] ≡ stack sizes (value_at p x) i height

    -- what it finds and pushes
    pub record Pushed (i : ℕ) : Type 0 where
      rest : ℕ
      under : ℕ
      chain : Chain sizes rest under
      sum : suc i ≡ rest + size_of kinds sizes i
      one : 0 < get_or kinds i 0 → get_or kinds i 0 < 4 → 0 < i
      two : 0 < get_or kinds i 0 → get_or kinds i 0 < 3 → (get_or sizes (i - 1) 0 < i) × (0 < get_or sizes (i - 1) 0) × (0 < get_or sizes (first_of sizes i) 0)
      leaf : i ≡ 0 → (a b : ℕ) → size_by (get_or kinds i 0) a b ≡ 1
      rises : Rises (suc under) (drop (suc i) (take n kinds)) 1
      tells : (p : Program) → kinds_of p ≡ take n kinds → (x : Values) (q : Bool) → Tests x (instr_at p i) q → run x (take (suc i) p) [] ≡ says (get_or kinds i 0) q (value_at p x (first_of sizes i)) (value_at p x (i - 1)) ∷ stack sizes (value_at p x) rest under

    state_start : State 0
    unfolding run
    state_start = record { height = 0; rises = formed; chain = tt; runs = λ p e x. refl }

    module _ (i : ℕ) (h : i < n) (s : State i) where
      abbrev k : ℕ
      k = get_or kinds i 0

      next : drop i (take n kinds) ≡ k ∷ drop (suc i) (take n kinds)
      next = drop-cons (take n kinds) i 0 (omega (arith, length-take-le n kinds long)) ∙ ap (λ m. m ∷ drop (suc i) (take n kinds)) (kind_in i h)

      rising : (arity k ≤ s.height) × Rises (suc (s.height - arity k)) (drop (suc i) (take n kinds)) 1
      unfolding Rises
      rising = subst (λ l. Rises s.height l 1) next s.rises

      -- the program's own step
      on_run : (p : Program) → kinds_of p ≡ take n kinds → (x : Values) → (run x (take (suc i) p) [] ≡ step x (instr_at p i) (stack sizes (value_at p x) i s.height)) × (kind_of (instr_at p i) ≡ k)
      on_run p e x =
          let l : i < length p = omega (arith, kinds_length p, ap length e, length-take-le n kinds long) in
          (run_next x p i [] l ∙ ap (step x (instr_at p i)) (s.runs p e x), sym (kind_at_lem p i l) ∙ ap (λ m. get_or m i 0) e ∙ kind_in i h)

      pub pushed : Pushed i
      pushed = go (takes k) s.height rising.0 rising.1 s.chain (λ p e x. on_run p e x)
        where
          Runs : ℕ → Type 0
          Runs g = (p : Program) → kinds_of p ≡ take n kinds → (x : Values) → (run x (take (suc i) p) [] ≡ step x (instr_at p i) (stack sizes (value_at p x) i g)) × (kind_of (instr_at p i) ≡ k)

          go : Takes k → (g : ℕ) → arity k ≤ g → Rises (suc (g - arity k)) (drop (suc i) (take n kinds)) 1 → Chain sizes i g → Runs g → Pushed i
          go (none e z) g l r c f = record {
            rest = i;
            under = g;
            chain = c;
            sum = omega (arith, z (get_or sizes (first_of sizes i) 0) (get_or sizes (i - 1) 0));
            one = λ a b. absurd (omega (arith, some_operand k a b));
            two = λ a b. absurd (omega (arith, two_operands k a b));
            leaf = λ d. z;
            rises = subst (λ m. Rises (suc m) (drop (suc i) (take n kinds)) 1) (omega arith) r;
            tells = λ p d x q t. (f p d x).0 ∙ step_none x q (value_at p x (first_of sizes i)) (value_at p x (i - 1)) (stack sizes (value_at p x) i g) (instr_at p i) (ap arity (f p d x).1 ∙ e) t ∙ ap (λ m. says m q (value_at p x (first_of sizes i)) (value_at p x (i - 1)) ∷ stack sizes (value_at p x) i g) (f p d x).1;
          }
          go (one e z) zero l r c f = absurd (omega arith)
          go (one e z) (suc g) l r c f = let t = the_top sizes i g c in record {
            rest = t.rest;
            under = g;
            chain = t.chain;
            sum = omega (arith, z (get_or sizes (first_of sizes i) 0) (get_or sizes (i - 1) 0), t.sum);
            one = λ a b. t.some;
            two = λ a b. absurd (omega (arith, two_operands k a b));
            leaf = λ d. absurd (omega (arith, t.some));
            rises = subst (λ m. Rises (suc m) (drop (suc i) (take n kinds)) 1) (omega arith) r;
            tells = λ p d x q u. (f p d x).0 ∙ ap (step x (instr_at p i)) (t.stacked (value_at p x)) ∙ step_one x q (value_at p x (first_of sizes i)) (value_at p x (i - 1)) (stack sizes (value_at p x) t.rest g) (instr_at p i) (ap arity (f p d x).1 ∙ e) ∙ ap (λ m. says m q (value_at p x (first_of sizes i)) (value_at p x (i - 1)) ∷ stack sizes (value_at p x) t.rest g) (f p d x).1;
          }
          go (two e z) zero l r c f = absurd (omega arith)
          go (two e z) (suc zero) l r c f = absurd (omega arith)
          go (two e z) (suc (suc g)) l r c f =
              let t = the_top sizes i (suc g) c in let u = the_top sizes t.rest g t.chain in let w : t.rest - 1 ≡ first_of sizes i = omega (arith, t.sum) in
              let y : get_or sizes (t.rest - 1) 0 ≡ get_or sizes (first_of sizes i) 0 = ap (λ m. get_or sizes m 0) w in
              record {
                rest = u.rest;
                under = g;
                chain = u.chain;
                sum = omega (arith, z (get_or sizes (first_of sizes i) 0) (get_or sizes (i - 1) 0), t.sum, u.sum, y);
                one = λ a b. t.some;
                two = λ a b. (omega (arith, t.sum, u.sum, u.positive), t.positive, omega (arith, y, u.positive));
                leaf = λ d. absurd (omega (arith, t.some));
                rises = subst (λ m. Rises (suc m) (drop (suc i) (take n kinds)) 1) (omega arith) r;
                tells = λ p d x q o. (f p d x).0 ∙ ap (step x (instr_at p i)) (t.stacked (value_at p x) ∙ ap (λ m. value_at p x (i - 1) ∷ m) (u.stacked (value_at p x) ∙ ap (λ m. value_at p x m ∷ stack sizes (value_at p x) u.rest g) w)) ∙ step_two x q (value_at p x (first_of sizes i)) (value_at p x (i - 1)) (stack sizes (value_at p x) u.rest g) (instr_at p i) (ap arity (f p d x).1 ∙ e) ∙ ap (λ m. says m q (value_at p x (first_of sizes i)) (value_at p x (i - 1)) ∷ stack sizes (value_at p x) u.rest g) (f p d x).1;
              }

      pub size_small : size_of kinds sizes i ≤ suc i
      size_small = omega (arith, pushed.sum)

      pub pushed_one : 0 < k → k < 4 → 0 < i
      pushed_one = pushed.one

      pub pushed_two : 0 < k → k < 3 → get_or sizes (i - 1) 0 < i
      pushed_two a b = (pushed.two a b).0

      pub first_leaf : i ≡ 0 → (a b : ℕ) → size_by k a b ≡ 1
      first_leaf = pushed.leaf

      module _ (e : get_or sizes i 0 ≡ size_of kinds sizes i) where
        total : suc i ≡ pushed.rest + get_or sizes i 0
        total = omega (arith, pushed.sum)

        value_is : (p : Program) → kinds_of p ≡ take n kinds → (x : Values) (q : Bool) → Tests x (instr_at p i) q → value_at p x i ≡ says k q (value_at p x (first_of sizes i)) (value_at p x (i - 1))
        value_is p d x q t = ap top (pushed.tells p d x q t)

        state_next : State (suc i)
        state_next = record {
          height = suc pushed.under;
          rises = pushed.rises;
          chain = on_top sizes i pushed.rest pushed.under (omega (arith, positive k (get_or sizes (first_of sizes i) 0) (get_or sizes (i - 1) 0))) total pushed.chain;
          runs = λ p d x.
              let t = pushed.tells p d x (test_of x (instr_at p i)) (λ pl o. ap (test_of x) o) in
              t ∙ ap (λ b. b ∷ stack sizes (value_at p x) pushed.rest pushed.under) (sym (ap top t)) ∙ sym (on_stack sizes (value_at p x) i pushed.rest pushed.under total);
        }

    pub state_at : (i : ℕ) → i ≤ n → ((j : ℕ) → j < i → get_or sizes j 0 ≡ size_of kinds sizes j) → State i
    state_at zero h f = state_start
    state_at (suc i) h f = state_next i (omega arith) (state_at i (omega arith) (λ j l. f j (omega arith))) (f i (omega arith))

    -- ---- the whole
    module _ (f : (j : ℕ) → j < n → get_or sizes j 0 ≡ size_of kinds sizes j) where
      whole : State n
      whole = state_at n (omega arith) f

      one_left : whole.height ≡ 1
      unfolding Rises
      one_left = subst (λ l. Rises whole.height l 1) (drop_of_length-le (take n kinds) {i = n} (omega (arith, length-take-le n kinds long))) whole.rises

      root : Top sizes n 0
      root = the_top sizes n 0 (subst (Chain sizes n) one_left whole.chain)

      at_zero : (r : ℕ) → Chain sizes r 0 → r ≡ 0
      at_zero zero c = refl
      at_zero (suc r) c = absurd c

      pub root_some : 0 < n
      root_some = root.some

      pub root_size : get_or sizes (n - 1) 0 ≡ n
      root_size = omega (arith, root.sum, at_zero root.rest root.chain)

      module _ (p : Program) (d : kinds_of p ≡ take n kinds) (x : Values) where
        pub root_truth : truth x p ≡ value_at p x (n - 1)
        root_truth = ap top (ap (λ l. run x l []) (sym (take_all n p (omega (arith, kinds_length p, ap length d, length-take-le n kinds long)))) ∙ whole.runs p d x ∙ ap (stack sizes (value_at p x) n) one_left ∙ root.stacked (value_at p x))

        pub tells_value : (j : ℕ) → j < n → (q : Bool) → Tests x (instr_at p j) q → value_at p x j ≡ says (get_or kinds j 0) q (value_at p x (first_of sizes j)) (value_at p x (j - 1))
        tells_value j h = value_is j h (state_at j (omega arith) (λ m l. f m (omega arith))) (f j h) p d x
