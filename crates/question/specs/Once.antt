-- What a question guarantees has at most one proof, so that a question may carry it.
use Rattle.std.specs.Prelude.{ℕ, suc, List, [], ◌∷◌}
use Rattle.std.specs.Coded.{×_prop, Unit-prop}
use Rattle.std.proofs.Props.{props}
use Rattle.page_meaning.specs.Condition.{Condition, Token, compare, both, either, negate, Side, constant, column}
use Rattle.page_meaning.specs.Contents.{Mode, keep, become, shift, Change, insert, delete, modify, Question}
use Rattle.page_meaning.specs.WellFormed.{SideUses, TokenUses, Uses, Reads, ChangeOk, Mine}
use Rattle.page_questions.specs.Guarantees.{Every, SideOk, TokenOk, Shaped, ConditionOk, ModeOk, ChangeAccepted, Ascending, Accepted}

Every_prop : {A : Type 0} (P : A → Type 0) → ((a : A) → IsProp (P a)) → (l : List A) → IsProp (Every P l)
Every_prop P h [] = Unit-prop
Every_prop P h (a ∷ l) = ×_prop (h a) (Every_prop P h l)

SideOk_prop : (s : Side) → IsProp (SideOk s)
SideOk_prop (constant k) = Prim.hlevel props
SideOk_prop (column i k) = Prim.hlevel props

TokenOk_prop : (t : Token) → IsProp (TokenOk t)
TokenOk_prop (compare op i s) = SideOk_prop s
TokenOk_prop both = Unit-prop
TokenOk_prop either = Unit-prop
TokenOk_prop negate = Unit-prop

ModeOk_prop : (m : Mode) → IsProp (ModeOk m)
ModeOk_prop keep = Unit-prop
ModeOk_prop (become k) = Prim.hlevel props
ModeOk_prop (shift j k) = Prim.hlevel props

Shaped_prop : (c : Condition) → IsProp (Shaped c)
Shaped_prop [] = Unit-prop
Shaped_prop (t ∷ ts) = Prim.hlevel props

ConditionOk_prop : (c : Condition) → IsProp (ConditionOk c)
ConditionOk_prop c = Prim.hlevel (props, Shaped_prop c, Every_prop TokenOk TokenOk_prop c)

ChangeAccepted_prop : (c : Change) → IsProp (ChangeAccepted c)
ChangeAccepted_prop (insert rows) = Prim.hlevel props
ChangeAccepted_prop (delete d) = ConditionOk_prop d
ChangeAccepted_prop (modify d ms) = ×_prop (ConditionOk_prop d) (Every_prop ModeOk ModeOk_prop ms)

Ascending_prop : (low high : ℕ) (is : List ℕ) → IsProp (Ascending low high is)
Ascending_prop low high [] = Unit-prop
Ascending_prop low high (i ∷ is) = Prim.hlevel (props, Ascending_prop (suc i) high is)

-- ---- columns that are named

module _ (P : ℕ → Type 0) (h : (i : ℕ) → IsProp (P i)) where
  SideUses_prop : (s : Side) → IsProp (SideUses P s)
  SideUses_prop (constant k) = Unit-prop
  SideUses_prop (column i k) = h i

  TokenUses_prop : (t : Token) → IsProp (TokenUses P t)
  TokenUses_prop (compare op i s) = ×_prop (h i) (SideUses_prop s)
  TokenUses_prop both = Unit-prop
  TokenUses_prop either = Unit-prop
  TokenUses_prop negate = Unit-prop

  Uses_prop : (c : Condition) → IsProp (Uses P c)
  Uses_prop [] = Unit-prop
  Uses_prop (t ∷ ts) = ×_prop (TokenUses_prop t) (Uses_prop ts)

  Reads_prop : (ms : List Mode) → IsProp (Reads P ms)
  Reads_prop [] = Unit-prop
  Reads_prop (keep ∷ ms) = Reads_prop ms
  Reads_prop (become k ∷ ms) = Reads_prop ms
  Reads_prop (shift j k ∷ ms) = ×_prop (h j) (Reads_prop ms)

ChangeOk_prop : (q : Question) (c : Change) → IsProp (ChangeOk q c)
ChangeOk_prop q (insert new) = Prim.hlevel props
ChangeOk_prop q (delete d) = Uses_prop (Mine q) (λ i. Prim.hlevel props) d
ChangeOk_prop q (modify d ms) = Prim.hlevel (props, Uses_prop (Mine q) (λ i. Prim.hlevel props) d, Reads_prop (Mine q) (λ i. Prim.hlevel props) ms)

pub Accepted_prop : (q : Question) → IsProp (Accepted q)
Accepted_prop q = Prim.hlevel (props, ChangeOk_prop q q.change, Every_prop, Ascending_prop, Uses_prop, ConditionOk_prop, ChangeAccepted_prop)
