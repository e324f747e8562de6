-- FORMAT 7.1: what the places decided so far say of a formula, in Kleene's three values.
-- Places are decided in order, so the decisions are a prefix: one for each of the first places.
use Rattle.std.specs.Prelude.{Bool, true, false, List, [], ◌∷◌}
use Rattle.page_formulas.specs.Program.{place, and_i, or_i, not_i, true_i, false_i, Program, two, one}

pub data Three : Type 0 where
  fails passes open? : Three

abbrev pub sure : Bool → Three
sure true = passes
sure false = fails

-- an and with a false part is false; an or with false parts only is false; a not of a true part is false
abbrev pub and3 : Three → Three → Three
and3 fails b = fails
and3 passes b = b
and3 open? fails = fails
and3 open? passes = open?
and3 open? open? = open?

abbrev pub or3 : Three → Three → Three
or3 passes b = passes
or3 fails b = b
or3 open? passes = passes
or3 open? fails = open?
or3 open? open? = open?

abbrev pub not3 : Three → Three
not3 fails = passes
not3 passes = fails
not3 open? = open?

-- the decision of the next place, and those of the later ones
abbrev pub next : List Bool → Three
next [] = open?
next (d ∷ ds) = sure d

abbrev pub later : List Bool → List Bool
later [] = []
later (d ∷ ds) = ds

unfoldable pub run3 : List Bool → Program → List Three → List Three
run3 ds [] st = st
run3 ds (place p ∷ is) st = run3 (later ds) is (next ds ∷ st)
run3 ds (and_i ∷ is) st = run3 ds is (two and3 st)
run3 ds (or_i ∷ is) st = run3 ds is (two or3 st)
run3 ds (not_i ∷ is) st = run3 ds is (one not3 st)
run3 ds (true_i ∷ is) st = run3 ds is (passes ∷ st)
run3 ds (false_i ∷ is) st = run3 ds is (fails ∷ st)

abbrev pub top3 : List Three → Three
top3 [] = passes
top3 (a ∷ st) = a

abbrev pub known : Program → List Bool → Three
known p ds = top3 (run3 ds p [])
