-- What the laws of formulas ask of a question: its columns exist and its conditions leave one truth. An accepted one is usable.
use Prim.Native.Nat.{ℕ, zero, suc, ◌<◌}
use mathlib.Core.List.{List, [], ◌∷◌, ◌++◌, map}
use native.Mathlib.Omega.{arith}
use lib.ListN.{length, get_or, replicate, length-append}
use Rattle.page_meaning.specs.Condition.{Condition, Token, compare, both, either, negate, Side, constant, column}
use Rattle.page_meaning.specs.Contents.{Question, Change, insert, delete, modify, Mode, keep, become, shift, Values, ◌∈◌, columns, columns_of}
use Rattle.page_meaning.specs.WellFormed.{Mine, SideUses, TokenUses, Uses, Reads, ChangeOk}
use Rattle.page_meaning.proofs.MovedRows.{reads_become}
use Rattle.page_questions.specs.Guarantees.{Every, Shaped, ChangeAccepted, Ascending, Accepted}

abbrev pub Exists : Question → ℕ → Type 0
Exists q i = i < length (columns q)

abbrev pub ChangeUsable : Question → Change → Type 0
ChangeUsable q (insert new) = Unit {0}
ChangeUsable q (delete d) = Uses (Exists q) d × Shaped d
ChangeUsable q (modify d ms) = Uses (Exists q) d × Shaped d × Reads (Exists q) ms

-- P holds of each condition with its modes that the change's formulas are read under
abbrev pub Contexts : (Condition → List Mode → Type 0) → Change → Type 0
Contexts P (insert new) = (n : Values) → n ∈ new → P [] (map become n)
Contexts P (delete d) = P d []
Contexts P (modify d ms) = P d ms

-- their columns exist, and the condition leaves one truth
pub record Doable (q : Question) (d : Condition) (ms : List Mode) : Type 0 where
  pub uses : Uses (Exists q) d
  pub shaped : Shaped d
  pub reads : Reads (Exists q) ms

pub record Usable (q : Question) : Type 0 where
  pub uses : Uses (Exists q) q.condition
  pub shaped : Shaped q.condition
  pub visible : Every (Exists q) q.visible
  pub change : ChangeUsable q q.change

-- ---- a column of the changed table exists

module _ (P Q : ℕ → Type 0) (f : (i : ℕ) → P i → Q i) where
  side_weaken : (s : Side) → SideUses P s → SideUses Q s
  side_weaken (constant k) u = tt
  side_weaken (column i k) u = f i u

  token_weaken : (t : Token) → TokenUses P t → TokenUses Q t
  token_weaken (compare op i s) u = (f i u.0, side_weaken s u.1)
  token_weaken both u = tt
  token_weaken either u = tt
  token_weaken negate u = tt

  uses_weaken : (c : Condition) → Uses P c → Uses Q c
  uses_weaken [] u = tt
  uses_weaken (t ∷ c) u = (token_weaken t u.0, uses_weaken c u.1)

  reads_weaken : (ms : List Mode) → Reads P ms → Reads Q ms
  reads_weaken [] u = tt
  reads_weaken (keep ∷ ms) u = reads_weaken ms u
  reads_weaken (become k ∷ ms) u = reads_weaken ms u
  reads_weaken (shift j k ∷ ms) u = (f j u.0, reads_weaken ms u.1)

mine_exists : (q : Question) (i : ℕ) → Mine q i → Exists q i
mine_exists q i m = omega (arith, length-append (columns_of q.front) (q.changed ++ columns_of q.back), length-append q.changed (columns_of q.back), m.1)

ascending_below : (low high : ℕ) (is : List ℕ) → Ascending low high is → Every (λ i. i < high) is
ascending_below low high [] a = tt
ascending_below low high (i ∷ is) a = (a.1, ascending_below (suc i) high is a.2)

pub usable : (q : Question) → Accepted q → Usable q
usable q a = record { uses = a.exist; shaped = a.condition.shaped; visible = ascending_below 0 (length (columns q)) q.visible a.visible; change = go q.change a.well_formed a.change }
  where
    go : (ch : Change) → ChangeOk q ch → ChangeAccepted ch → ChangeUsable q ch
    go (insert new) w c = tt
    go (delete d) w c = (uses_weaken (Mine q) (Exists q) (mine_exists q) d w, c.shaped)
    go (modify d ms) w c = (uses_weaken (Mine q) (Exists q) (mine_exists q) d w.0, c.0.shaped, reads_weaken (Mine q) (Exists q) (mine_exists q) ms w.1)

-- ---- the mode of a column is one of the modes, or keep

pub mode_at_lem : (Q : Mode → Type 0) → Q keep → (n : ℕ) (ms : List Mode) → Every Q ms → (i : ℕ) → Q (get_or (replicate n keep ++ ms) i keep)
mode_at_lem Q k zero [] e i = k
mode_at_lem Q k zero (m ∷ ms) e zero = e.0
mode_at_lem Q k zero (m ∷ ms) e (suc i) = mode_at_lem Q k zero ms e.1 i
mode_at_lem Q k (suc n) ms e zero = k
mode_at_lem Q k (suc n) ms e (suc i) = mode_at_lem Q k n ms e i

reads_every : (P : ℕ → Type 0) (ms : List Mode) → Reads P ms → Every (λ m. Reads P (m ∷ [])) ms
reads_every P [] u = tt
reads_every P (keep ∷ ms) u = (tt, reads_every P ms u)
reads_every P (become k ∷ ms) u = (tt, reads_every P ms u)
reads_every P (shift j k ∷ ms) u = ((u.0, tt), reads_every P ms u.1)

pub reads_at : (P : ℕ → Type 0) (n : ℕ) (ms : List Mode) → Reads P ms → (i : ℕ) → Reads P (get_or (replicate n keep ++ ms) i keep ∷ [])
reads_at P n ms u i = mode_at_lem (λ m. Reads P (m ∷ [])) tt n ms (reads_every P ms u) i

pub contexts_doable : (q : Question) (ch : Change) → ChangeUsable q ch → Contexts (Doable q) ch
contexts_doable q (insert new) h = λ n i. record { uses = tt; shaped = tt; reads = reads_become (Exists q) n }
contexts_doable q (delete d) h = record { uses = h.0; shaped = h.1; reads = tt }
contexts_doable q (modify d ms) h = record { uses = h.0; shaped = h.1; reads = h.2 }
