-- A node 2 where the code reads it: at a position of the part that it was lent.
use Prim.Native.Nat.{ℕ, zero, suc, ◌+◌, ◌-◌, ◌≤◌, ◌<◌}
use mathlib.Core.Path.{◌≡◌, refl, sym, ap, ap₂, ◌∙◌}
use mathlib.Core.Bool.{true, false, cond}
use mathlib.Core.List.{List, ◌∷◌}
use native.Mathlib.Numerals.{add-one}
use native.Mathlib.Omega.{arith}
use lib.ListN.{length, get_or, take, drop, drop_of_length-le, length-drop}
use lib.Seq.{drop-cons, drop-drop, take_all}
use lib.IntN.{pos}
use lib.Signed.{lt_z}
use borrow.Author.Tests.{le-leb, lt-leb}
use Rattle.page_numbers.specs.Outcome.{good, refused}
use Rattle.page_walks.specs.Walk.{closed}
use Rattle.page_walks.specs.Grid.{Grid, weight}
use Rattle.page_formulas.specs.Formulas.{Formula}
use Rattle.page_sheets.specs.Tree.{vertices, cycle_end, cycle_node}

-- a part up to the end is all that stands after its start
pub to_the_end : (l : List ℕ) (n : ℕ) → take (length l - n) (drop n l) ≡ drop n l
to_the_end l n = take_all (length l - n) (drop n l) (omega (arith, length-drop n l))

-- by the count byte
module _ (N : ℕ) (F : Formula) (g : Grid) (at : ℕ) (bs : List ℕ) where
  count_none : (n : ℕ) → n ≡ 0 → cycle_node N F g at (n ∷ bs) ≡ refused 14 (suc at)
  count_none n e = rw e

  count_many : (n : ℕ) → N < n → cycle_node N F g at (n ∷ bs) ≡ refused 14 (suc at)
  count_many zero h = refl
  count_many (suc n) h = rw (lt-leb (suc n) N h)

  count_good : (n : ℕ) → ¬ (n ≡ 0) → n ≤ N → cycle_node N F g at (n ∷ bs) ≡ cycle_end g at (vertices F.ranges n (suc (suc at)) bs)
  count_good zero f h = absurd (f refl)
  count_good (suc n) f h = rw (le-leb (suc n) N h)

module _ (N : ℕ) (F : Formula) (g : Grid) (part : List ℕ) (at base : ℕ) where
  next : base + (at + 1) ≡ suc (base + at)
  next = omega arith

  pub cycle_end_lem : length part ≤ at + 1 → refused 11 (base + (at + 1)) ≡ cycle_node N F g (base + at) (drop (at + 1) part)
  cycle_end_lem h = rw (drop_of_length-le part h, next)

  module _ (h : at + 1 < length part) where
    abbrev count : ℕ
    count = get_or part (at + 1) 0

    abbrev bytes : List ℕ
    bytes = drop (at + 1 + 1) part

    opened : drop (at + 1) part ≡ count ∷ bytes
    opened = rw (add-one (at + 1)) (drop-cons part (at + 1) 0 h)

    pub cycle_none : count ≡ 0 → refused 14 (base + (at + 1)) ≡ cycle_node N F g (base + at) (drop (at + 1) part)
    cycle_none e = rw (opened, next) (sym (count_none N F g (base + at) bytes count e))

    pub cycle_many : N < count → refused 14 (base + (at + 1)) ≡ cycle_node N F g (base + at) (drop (at + 1) part)
    cycle_many e = rw (opened, next) (sym (count_many N F g (base + at) bytes count e))

    module _ (some : ¬ (count ≡ 0)) (few : count ≤ N) where
      reads : cycle_node N F g (base + at) (drop (at + 1) part) ≡ cycle_end g (base + at) (vertices F.ranges count (base + (at + 1 + 1)) bytes)
      reads =
          let e : base + (at + 1 + 1) ≡ suc (suc (base + at)) = omega arith in
          rw (opened, e) (count_good N F g (base + at) bytes count some few)

      pub cycle_lacking : (n p : ℕ) → refused n (base + (at + 1 + 1) + p) ≡ vertices F.ranges count (base + (at + 1 + 1)) bytes → refused n (base + (at + 1 + 1 + p)) ≡ cycle_node N F g (base + at) (drop (at + 1) part)
      cycle_lacking n p v =
          let e : base + (at + 1 + 1 + p) ≡ base + (at + 1 + 1) + p = omega arith in
          ap (refused n) e ∙ ap (cycle_end g (base + at)) v ∙ sym reads

      module _ (v : good (take count bytes, base + (at + 1 + 1) + count, drop count bytes) ≡ vertices F.ranges count (base + (at + 1 + 1)) bytes) where
        pub cycle_shut : lt_z (closed (weight g) (take count bytes)) (pos 0) ≡ true → good (base + (at + 1 + 1 + count), drop (at + 1 + 1 + count) part) ≡ cycle_node N F g (base + at) (drop (at + 1) part)
        cycle_shut t =
            let e : base + (at + 1 + 1 + count) ≡ base + (at + 1 + 1) + count = omega arith in
            ap₂ (λ (o : ℕ) (r : List ℕ). good (o, r)) e (sym (drop-drop count (at + 1 + 1) part)) ∙ sym (ap (λ b. cond b (good (base + (at + 1 + 1) + count, drop count bytes)) (refused 15 (base + at))) t) ∙ ap (cycle_end g (base + at)) v ∙ sym reads

        pub cycle_open : lt_z (closed (weight g) (take count bytes)) (pos 0) ≡ false → refused 15 (base + at) ≡ cycle_node N F g (base + at) (drop (at + 1) part)
        cycle_open t = sym (ap (λ b. cond b (good (base + (at + 1 + 1) + count, drop count bytes)) (refused 15 (base + at))) t) ∙ ap (cycle_end g (base + at)) v ∙ sym reads
