-- Two readings of the table that agree on its words agree on every claim, part, line and formula.
use mathlib.Core.Path.{refl}
use mathlib.Core.Logic.{inl, inr}
use mathlib.Core.Bool.{Bool, true, false, ◌&&◌}
use mathlib.Core.List.{List, [], ◌∷◌, map, foldl}
use lib.Dec.{T, leb, leb→le}
use Rattle.page_meaning.specs.Condition.{Condition}
use Rattle.page_meaning.specs.Contents.{Version, version1, version2, Question, Change, insert, delete, modify, Mode, become, Values, Table}
use Rattle.page_meaning.specs.Claims.{Claim, listed, relisted, chosen, fitting, moving, staying, differing, Part, of1, of2, not1, not2, Line, insertion, deletion, modification, Reading, claims, read_part, read_parts, unless_alone, formulas_by}
use Rattle.page_questions.specs.Guarantees.{Every}
use Rattle.page_meaning.specs.Limits.{most_decisions}
use Rattle.page_meaning.proofs.Truth.{and_l, and_r}
use Rattle.page_formulas.specs.Costs.{line_cost, most_instructions, Fits}
use Rattle.page_formulas.proofs.Usability.{Contexts}

-- rows as they are, rows after the change or not, and what is said of them
module _ {W X A B : Type 0} (Old New : W → X → Type 0) (R : A → B → Type 0) where
  pub record Match (x : Reading W A) (y : Reading X B) : Type 0 where
    pub same : (w : W) (v : X) → Old w v → New w v
    pub F : (w : W) (v : X) → Old w v → New (x.F w) (y.F v)
    pub C : (w : W) (v : X) → New w v → R (x.C w) (y.C v)
    pub D : (w : W) (v : X) → Old w v → R (x.D w) (y.D v)
    pub ranged : (w : W) (v : X) → Old w v → R (x.ranged w) (y.ranged v)
    pub M : (w : W) (v : X) → Old w v → R (x.M w) (y.M v)
    pub differ : (w u : W) (v t : X) → New w v → New u t → R (x.differ w u) (y.differ v t)
    pub deny : {a : A} {b : B} → R a b → R (x.deny a) (y.deny b)
    pub both : {a c : A} {b d : B} → R a b → R c d → R (x.both a c) (y.both b d)
    pub either : {a c : A} {b d : B} → R a b → R c d → R (x.either a c) (y.either b d)

  module _ {x : Reading W A} {y : Reading X B} (m : Match x y) (w : Bool → W) (v : Bool → X) (h : (i : Bool) → Old (w i) (v i)) where
    pub match_claim : (c : Claim) (i : Bool) → R (claims x w c i) (claims y v c i)
    match_claim listed i = m.C _ _ (m.same _ _ (h i))
    match_claim relisted i = m.C _ _ (m.F _ _ (h i))
    match_claim chosen i = m.D _ _ (h i)
    match_claim fitting i = m.ranged _ _ (h i)
    match_claim moving i = m.M _ _ (h i)
    match_claim (staying version1) i = m.either (m.deny (m.M _ _ (h i))) (m.C _ _ (m.F _ _ (h i)))
    match_claim (staying version2) i = m.either (m.deny (m.D _ _ (h i))) (m.both (m.ranged _ _ (h i)) (m.C _ _ (m.F _ _ (h i))))
    match_claim (differing j true) i = m.differ _ _ _ _ (m.F _ _ (h i)) (m.F _ _ (h j))
    match_claim (differing j false) i = m.differ _ _ _ _ (m.F _ _ (h i)) (m.same _ _ (h j))

    pub match_part : (p : Part) → R (read_part x w p) (read_part y v p)
    match_part (of1 c) = match_claim c false
    match_part (of2 c) = match_claim c true
    match_part (not1 c) = m.deny (match_claim c false)
    match_part (not2 c) = m.deny (match_claim c true)

    match_more : (ps : List Part) {a : A} {b : B} → R a b → R (foldl (λ c p. x.both c (read_part x w p)) a ps) (foldl (λ c p. y.both c (read_part y v p)) b ps)
    match_more [] r = r
    match_more (p ∷ ps) r = match_more ps (m.both r (match_part p))

    pub match_parts : (p : Part) (ps : List Part) → R (read_parts x w p ps) (read_parts y v p ps)
    match_parts p ps = match_more ps (match_part p)

-- two lists, position by position
abbrev pub Matched : {A B : Type 0} → (A → B → Type 0) → List A → List B → Type 0
Matched R [] [] = Unit {0}
Matched R [] (b ∷ bs) = ⊥
Matched R (a ∷ l) [] = ⊥
Matched R (a ∷ l) (b ∷ bs) = R a b × Matched R l bs

-- ---- every line of the table finds room

-- by computation
abbrev roomy : Line → Bool
roomy l = leb (line_cost l).instructions most_instructions && leb (line_cost l).places most_decisions

roomy_fits : (l : Line) → T (roomy l) → Fits l
roomy_fits l t = record { instructions = leb→le _ _ (and_l (leb (line_cost l).instructions most_instructions) _ t); places = leb→le _ _ (and_r (leb (line_cost l).instructions most_instructions) _ t) }

abbrev all_roomy : List Line → Bool
all_roomy [] = true
all_roomy (l ∷ ls) = roomy l && all_roomy ls

lines_fit : (ls : List Line) → T (all_roomy ls) → Every Fits ls
lines_fit [] t = tt
lines_fit (l ∷ ls) t = (roomy_fits l (and_l (roomy l) (all_roomy ls) t), lines_fit ls (and_r (roomy l) (all_roomy ls) t))

pub insertion_fits : Fits insertion
insertion_fits = roomy_fits insertion tt

pub deletion_fits : (asked : Bool) → Every Fits (deletion asked)
deletion_fits true = lines_fit (deletion true) tt
deletion_fits false = lines_fit (deletion false) tt

pub modification_fits : (v : Version) (asked : Bool) → Every Fits (modification v asked)
modification_fits version1 true = lines_fit (modification version1 true) tt
modification_fits version1 false = lines_fit (modification version1 false) tt
modification_fits version2 true = lines_fit (modification version2 true) tt
modification_fits version2 false = lines_fit (modification version2 false) tt

-- ---- every formula of a change

module _ {A B : Type 0} (R : A → B → Type 0) (f : Condition → List Mode → Line → A) (g : Condition → List Mode → Line → B)
    (P : Condition → List Mode → Type 0) (h : (d : Condition) (ms : List Mode) → P d ms → (l : Line) → Fits l → R (f d ms l) (g d ms l)) where
  match_lines : (d : Condition) (ms : List Mode) → P d ms → (ls : List Line) → Every Fits ls → Matched R (map (f d ms) ls) (map (g d ms) ls)
  match_lines d ms p [] t = tt
  match_lines d ms p (l ∷ ls) t = (h d ms p l t.0, match_lines d ms p ls t.1)

  match_rows : (new : List Values) → Contexts P (insert new) → Matched R (map (λ n. f [] (map become n) insertion) new) (map (λ n. g [] (map become n) insertion) new)
  match_rows [] p = tt
  match_rows (n ∷ new) p = (h [] (map become n) (p n (inl refl)) insertion insertion_fits, match_rows new (λ m i. p m (inr i)))

  match_unless : (ts us : List Table) (l : List A) (bs : List B) → Matched R l bs → Matched R (unless_alone ts us l) (unless_alone ts us bs)
  match_unless [] [] l bs m = tt
  match_unless [] (u ∷ us) l bs m = m
  match_unless (t ∷ ts) us l bs m = m

  pub match_formulas : (q : Question) (ch : Change) → Contexts P ch → (asked : Bool) → Matched R (formulas_by f q ch asked) (formulas_by g q ch asked)
  match_formulas q (insert new) p true = match_rows new p
  match_formulas q (insert new) p false = match_unless q.front q.back _ _ (match_rows new p)
  match_formulas q (delete d) p asked = match_lines d [] p (deletion asked) (deletion_fits asked)
  match_formulas q (modify d ms) p asked = match_lines d ms p (modification q.version asked) (modification_fits q.version asked)

-- the same of one reading: the other is the lines themselves
pub every_formula : {A : Type 0} (R : A → Type 0) (f : Condition → List Mode → Line → A) (P : Condition → List Mode → Type 0)
    → ((d : Condition) (ms : List Mode) → P d ms → (l : Line) → Fits l → R (f d ms l)) → (q : Question) (ch : Change) → Contexts P ch → (asked : Bool) → Every R (formulas_by f q ch asked)
every_formula {A} R f P h q ch p asked = go (formulas_by f q ch asked) (formulas_by (λ d ms l. l) q ch asked) (match_formulas (λ a l. R a) f (λ d ms l. l) P h q ch p asked)
  where
    go : (l : List A) (bs : List Line) → Matched (λ a b. R a) l bs → Every R l
    go [] bs m = tt
    go (a ∷ l) [] m = absurd m
    go (a ∷ l) (b ∷ bs) m = (m.0, go l bs m.1)
