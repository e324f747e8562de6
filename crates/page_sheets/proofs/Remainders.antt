-- What the tree checker hands on: the bytes after those that it read; a refusal stands within the bytes.
use Prim.Native.Nat.{ℕ, zero, suc, ◌+◌, ◌≤◌, ◌<◌}
use mathlib.Core.Path.{◌≡◌, refl, sym, ap, ◌∙◌}
use mathlib.Core.Bool.{Bool, true, false, cond}
use mathlib.Core.List.{List, [], ◌∷◌, ◌++◌, append_assoc}
use native.Mathlib.Omega.{arith}
use lib.ListN.{length, length-append}
use lib.Dec.{leb}
use lib.IntN.{pos}
use lib.Signed.{lt_z}
use Rattle.page_numbers.specs.Outcome.{good, refused}
use Rattle.page_walks.specs.Grid.{Grid, weight}
use Rattle.page_walks.specs.Walk.{closed}
use Rattle.page_formulas.specs.Formulas.{Formula}
use Rattle.page_formulas.specs.Knowledge.{Three, fails, passes, open?, known}
use Rattle.page_formulas.specs.Program.{Place}
use Rattle.page_formulas.specs.Vertices.{Ranges, present}
use Rattle.page_sheets.specs.Facts.{decide}
use Rattle.page_sheets.specs.Tree.{more, Checked, and_then, Vertices, vertices, false_node, cycle_end, node, check}

abbrev pub HandsOn : ℕ → List ℕ → Checked → Type 0
HandsOn at bs (good (o, r)) = (used : List ℕ) × (bs ≡ used ++ r) × (o ≡ at + length used) × (0 < length used)
HandsOn at bs (refused m o) = (at ≤ o) × (o ≤ at + length bs)

abbrev ReadsOn : ℕ → List ℕ → Vertices → Type 0
ReadsOn at bs (good (c, o, r)) = (bs ≡ c ++ r) × (o ≡ at + length c)
ReadsOn at bs (refused m o) = (at ≤ o) × (o ≤ at + length bs)

reads_on : (rs : Ranges) (n at : ℕ) (bs : List ℕ) → ReadsOn at bs (vertices rs n at bs)
unfolding vertices
reads_on rs zero at bs = (refl, omega arith)
reads_on rs (suc n) at [] = (omega arith, omega arith)
reads_on rs (suc n) at (v ∷ bs) = go (present rs v) (vertices rs n (suc at) bs) (reads_on rs n (suc at) bs)
  where
    go : (b : Bool) (r : Vertices) → ReadsOn (suc at) bs r → ReadsOn at (v ∷ bs) (cond b (more v r) (refused 14 at))
    go true (good (c, o, r)) h = (ap (λ l. v ∷ l) h.0, omega (arith, h.1))
    go true (refused m o) h = (omega (arith, h.0), omega (arith, h.1))
    go false r h = (omega arith, omega arith)

hands_then : (at : ℕ) (bs : List ℕ) (x : Checked) (k : ℕ → List ℕ → Checked) → HandsOn at bs x → ((o : ℕ) (r : List ℕ) → HandsOn o r (k o r)) → HandsOn at bs (and_then x k)
hands_then at bs (refused m o) k h f = h
hands_then at bs (good (o, r)) k h f = go (k o r) (f o r)
  where
    go : (y : Checked) → HandsOn o r y → HandsOn at bs y
    go (good (o₂, r₂)) q = (h.0 ++ q.0, h.1 ∙ ap (λ l. h.0 ++ l) q.1 ∙ sym (append_assoc h.0 q.0 r₂), omega (arith, h.2, q.2, length-append h.0 q.0), omega (arith, h.3, length-append h.0 q.0))
    go (refused m o₂) q = (omega (arith, h.2, q.0), omega (arith, h.2, q.1, ap length h.1, length-append h.0 r))

module _ (N : ℕ) (F : Formula) where
  node_hands : (ds : List Bool) (g : Grid) (at : ℕ) (bs : List ℕ) (branch : List ℕ → Checked) → ((b : ℕ) (rest : List ℕ) → bs ≡ b ∷ rest → HandsOn at bs (branch rest)) → HandsOn at bs (node N F ds g at bs branch)
  node_hands ds g at [] branch k = (omega arith, omega arith)
  node_hands ds g at (zero ∷ bs) branch k = (omega arith, omega arith)
  node_hands ds g at (suc zero ∷ bs) branch k = go (known F.program ds)
    where
      go : (t : Three) → HandsOn at (1 ∷ bs) (false_node t at bs)
      go fails = (1 ∷ [], refl, omega arith, omega arith)
      go passes = (omega arith, omega arith)
      go open? = (omega arith, omega arith)
  node_hands ds g at (suc (suc zero) ∷ []) branch k = (omega arith, omega arith)
  node_hands ds g at (suc (suc zero) ∷ (zero ∷ bs)) branch k = (omega arith, omega arith)
  node_hands ds g at (suc (suc zero) ∷ (suc n ∷ bs)) branch k = go (leb (suc n) N) (vertices F.ranges (suc n) (suc (suc at)) bs) (reads_on F.ranges (suc n) (suc (suc at)) bs)
    where
      sum : (c : List ℕ) (o : ℕ) (r : List ℕ) (b : Bool) → (bs ≡ c ++ r) × (o ≡ suc (suc at) + length c) → HandsOn at (2 ∷ (suc n ∷ bs)) (cond b (good (o, r)) (refused 15 at))
      sum c o r true h = (2 ∷ (suc n ∷ c), ap (λ l. 2 ∷ (suc n ∷ l)) h.0, omega (arith, h.1), omega arith)
      sum c o r false h = (omega arith, omega arith)

      go : (b : Bool) (r : Vertices) → ReadsOn (suc (suc at)) bs r → HandsOn at (2 ∷ (suc n ∷ bs)) (cond b (cycle_end g at r) (refused 14 (suc at)))
      go true (good (c, o, r)) h = sum c o r (lt_z (closed (weight g) c) (pos 0)) h
      go true (refused m o) h = (omega (arith, h.0), omega (arith, h.1))
      go false r h = (omega arith, omega arith)
  node_hands ds g at (suc (suc (suc zero)) ∷ bs) branch k = k 3 bs refl
  node_hands ds g at (suc (suc (suc (suc b))) ∷ bs) branch k = (omega arith, omega arith)

  -- one more byte before
  after_byte : (at b : ℕ) (rest bs : List ℕ) → bs ≡ b ∷ rest → (x : Checked) → HandsOn (suc at) rest x → HandsOn at bs x
  after_byte at b rest bs e (good (o, r)) h = (b ∷ h.0, e ∙ ap (λ l. b ∷ l) h.1, omega (arith, h.2), omega arith)
  after_byte at b rest bs e (refused m o) h = (omega (arith, h.0), omega (arith, h.1, ap length e))

  pub check_hands : (todo : List Place) (ds : List Bool) (g : Grid) (at : ℕ) (bs : List ℕ) → HandsOn at bs (check N F todo ds g at bs)
  unfolding check
  check_hands [] ds g at bs = node_hands ds g at bs (λ rest. refused 15 at) (λ b rest e. (omega arith, omega arith))
  check_hands (p ∷ todo) ds g at bs =
      let first : List ℕ → Checked = λ rest. check N F todo (ds ++ true ∷ []) (decide g p true) (suc at) rest in
      let second : ℕ → List ℕ → Checked = λ o r. check N F todo (ds ++ false ∷ []) (decide g p false) o r in
      node_hands ds g at bs (λ rest. and_then (first rest) second) (λ b rest e. after_byte at b rest bs e (and_then (first rest) second) (hands_then (suc at) rest (first rest) second (check_hands todo (ds ++ true ∷ []) (decide g p true) (suc at) rest) (check_hands todo (ds ++ false ∷ []) (decide g p false))))
