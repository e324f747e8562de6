-- What is known of a formula under the places decided so far holds of every assignment that agrees with them; with every place decided
-- nothing is unknown; and only the kinds of the instructions count.
use Prim.Native.Nat.{◌≤◌}
use mathlib.Core.Path.{◌≡◌, refl, ap}
use mathlib.Core.Bool.{Bool, true, false, not, ◌&&◌, ◌||◌}
use mathlib.Core.List.{List, [], ◌∷◌}
use native.Mathlib.Omega.{arith}
use lib.ListN.{length}
use Rattle.page_formulas.specs.Program.{Values, Place, test, place, and_i, or_i, not_i, true_i, false_i, Program, two, one, run, top, truth, places}
use Rattle.page_formulas.specs.Kinds.{kinds_of, run_kinds, known_kinds}
use Rattle.page_formulas.specs.Knowledge.{Three, fails, passes, open?, sure, and3, or3, not3, later, next, run3, top3, known}
use Rattle.page_formulas.specs.Truths.{Agrees, Says, Sure}

abbrev SaysAll : List Three → List Bool → Type 0
SaysAll [] [] = Unit {0}
SaysAll [] (b ∷ bs) = ⊥
SaysAll (t ∷ ts) [] = ⊥
SaysAll (t ∷ ts) (b ∷ bs) = Says t b × SaysAll ts bs

pub says_and : (s t : Three) (a b : Bool) → Says s a → Says t b → Says (and3 s t) (a && b)
says_and fails t a b h k = ap (λ x. x && b) h
says_and passes t a b h k = rw h k
says_and open? fails true b h k = k
says_and open? fails false b h k = refl
says_and open? passes a b h k = tt
says_and open? open? a b h k = tt

pub says_or : (s t : Three) (a b : Bool) → Says s a → Says t b → Says (or3 s t) (a || b)
says_or passes t a b h k = ap (λ x. x || b) h
says_or fails t a b h k = rw h k
says_or open? passes true b h k = refl
says_or open? passes false b h k = k
says_or open? fails a b h k = tt
says_or open? open? a b h k = tt

pub says_not : (s : Three) (a : Bool) → Says s a → Says (not3 s) (not a)
says_not fails a h = ap not h
says_not passes a h = ap not h
says_not open? a h = tt

says_sure : (b d : Bool) → b ≡ d → Says (sure d) b
says_sure b true e = e
says_sure b false e = e

says_two : (f : Three → Three → Three) (g : Bool → Bool → Bool) → ((s t : Three) (a b : Bool) → Says s a → Says t b → Says (f s t) (g a b)) → (st : List Three) (bs : List Bool) → SaysAll st bs → SaysAll (two f st) (two g bs)
says_two f g k [] [] h = tt
says_two f g k [] (b ∷ bs) h = absurd h
says_two f g k (t ∷ []) [] h = absurd h
says_two f g k (t ∷ []) (b ∷ []) h = h
says_two f g k (t ∷ []) (b ∷ (a ∷ bs)) h = absurd h.1
says_two f g k (t ∷ (s ∷ st)) [] h = absurd h
says_two f g k (t ∷ (s ∷ st)) (b ∷ []) h = absurd h.1
says_two f g k (t ∷ (s ∷ st)) (b ∷ (a ∷ bs)) h = (k s t a b h.1.0 h.0, h.1.1)

says_one : (st : List Three) (bs : List Bool) → SaysAll st bs → SaysAll (one not3 st) (one not bs)
says_one [] [] h = tt
says_one [] (b ∷ bs) h = absurd h
says_one (t ∷ st) [] h = absurd h
says_one (t ∷ st) (b ∷ bs) h = (says_not t b h.0, h.1)

says_run : (ρ : Values) (p : Program) (ds : List Bool) → Agrees ρ (places p) ds → (st : List Three) (bs : List Bool) → SaysAll st bs → SaysAll (run3 ds p st) (run ρ p bs)
unfolding run3 run places
says_run ρ [] ds a st bs h = h
says_run ρ (place q ∷ is) [] a st bs h = says_run ρ is [] (none (places is)) (open? ∷ st) (test ρ q ∷ bs) (tt, h)
  where
    none : (ps : List Place) → Agrees ρ ps []
    none [] = tt
    none (p ∷ ps) = tt
says_run ρ (place q ∷ is) (d ∷ ds) a st bs h = says_run ρ is ds a.1 (sure d ∷ st) (test ρ q ∷ bs) (says_sure (test ρ q) d a.0, h)
says_run ρ (and_i ∷ is) ds a st bs h = says_run ρ is ds a (two and3 st) (two ◌&&◌ bs) (says_two and3 ◌&&◌ says_and st bs h)
says_run ρ (or_i ∷ is) ds a st bs h = says_run ρ is ds a (two or3 st) (two ◌||◌ bs) (says_two or3 ◌||◌ says_or st bs h)
says_run ρ (not_i ∷ is) ds a st bs h = says_run ρ is ds a (one not3 st) (one not bs) (says_one st bs h)
says_run ρ (true_i ∷ is) ds a st bs h = says_run ρ is ds a (passes ∷ st) (true ∷ bs) (refl, h)
says_run ρ (false_i ∷ is) ds a st bs h = says_run ρ is ds a (fails ∷ st) (false ∷ bs) (refl, h)

says_top : (st : List Three) (bs : List Bool) → SaysAll st bs → Says (top3 st) (top bs)
says_top [] [] h = refl
says_top [] (b ∷ bs) h = absurd h
says_top (t ∷ st) [] h = absurd h
says_top (t ∷ st) (b ∷ bs) h = h.0

-- what is known of a formula holds of all values that agree with the decisions
pub known_says : (ρ : Values) (p : Program) (ds : List Bool) → Agrees ρ (places p) ds → Says (known p ds) (truth ρ p)
known_says ρ p ds a = says_top (run3 ds p []) (run ρ p []) (says_run ρ p ds a [] [] tt)

abbrev SureAll : List Three → Type 0
SureAll [] = Unit {0}
SureAll (t ∷ ts) = Sure t × SureAll ts

sure_and : (s t : Three) → Sure s → Sure t → Sure (and3 s t)
sure_and fails t h k = tt
sure_and passes t h k = k
sure_and open? t h k = absurd h

sure_or : (s t : Three) → Sure s → Sure t → Sure (or3 s t)
sure_or passes t h k = tt
sure_or fails t h k = k
sure_or open? t h k = absurd h

sure_sure : (d : Bool) → Sure (sure d)
sure_sure true = tt
sure_sure false = tt

sure_two : (f : Three → Three → Three) → ((s t : Three) → Sure s → Sure t → Sure (f s t)) → (st : List Three) → SureAll st → SureAll (two f st)
sure_two f k [] h = tt
sure_two f k (t ∷ []) h = h
sure_two f k (t ∷ (s ∷ st)) h = (k s t h.1.0 h.0, h.1.1)

sure_one : (st : List Three) → SureAll st → SureAll (one not3 st)
sure_one [] h = tt
sure_one (fails ∷ st) h = h
sure_one (passes ∷ st) h = h
sure_one (open? ∷ st) h = h

sure_run : (p : Program) (ds : List Bool) → length (places p) ≤ length ds → (st : List Three) → SureAll st → SureAll (run3 ds p st)
unfolding run3 places
sure_run [] ds l st h = h
sure_run (place q ∷ is) [] l st h = absurd (omega arith)
sure_run (place q ∷ is) (d ∷ ds) l st h = sure_run is ds (omega arith) (sure d ∷ st) (sure_sure d, h)
sure_run (and_i ∷ is) ds l st h = sure_run is ds l (two and3 st) (sure_two and3 sure_and st h)
sure_run (or_i ∷ is) ds l st h = sure_run is ds l (two or3 st) (sure_two or3 sure_or st h)
sure_run (not_i ∷ is) ds l st h = sure_run is ds l (one not3 st) (sure_one st h)
sure_run (true_i ∷ is) ds l st h = sure_run is ds l (passes ∷ st) (tt, h)
sure_run (false_i ∷ is) ds l st h = sure_run is ds l (fails ∷ st) (tt, h)

sure_top : (st : List Three) → SureAll st → Sure (top3 st)
sure_top [] h = tt
sure_top (t ∷ st) h = h.0

pub known_sure : (p : Program) (ds : List Bool) → length (places p) ≤ length ds → Sure (known p ds)
known_sure p ds l = sure_top (run3 ds p []) (sure_run p ds l [] tt)

-- ---- the kinds decide

run3_kinds : (p : Program) (ds : List Bool) (st : List Three) → run3 ds p st ≡ run_kinds ds (kinds_of p) st
unfolding run3 run_kinds kinds_of
run3_kinds [] ds st = refl
run3_kinds (place q ∷ is) ds st = run3_kinds is (later ds) (next ds ∷ st)
run3_kinds (and_i ∷ is) ds st = run3_kinds is ds (two and3 st)
run3_kinds (or_i ∷ is) ds st = run3_kinds is ds (two or3 st)
run3_kinds (not_i ∷ is) ds st = run3_kinds is ds (one not3 st)
run3_kinds (true_i ∷ is) ds st = run3_kinds is ds (passes ∷ st)
run3_kinds (false_i ∷ is) ds st = run3_kinds is ds (fails ∷ st)

pub known_kinds_lem : (p : Program) (ds : List Bool) → known p ds ≡ known_kinds (kinds_of p) ds
known_kinds_lem p ds = ap top3 (run3_kinds p ds [])
