-- What is known of two operands of which one is enough.
use Rattle.std.specs.Prelude.{Bool}
use Rattle.page_formulas.specs.Knowledge.{Three, fails, passes, open?}
use Rattle.views.specs.Views.{wanted_by}
use Rattle.tableau_sieve.specs.declared.types.Stand.{Stand}
use Rattle.tableau_sieve.specs.declared.types.Stand.TheVariants.{Done, Dead, First, Second, Open}

-- by what is known of their being as wanted
abbrev pub stand_by : Three → Three → Stand
stand_by passes b = Done
stand_by fails passes = Done
stand_by fails fails = Dead
stand_by fails open? = Second
stand_by open? passes = Done
stand_by open? fails = First
stand_by open? open? = Open

abbrev pub stand_of : Bool → Three → Three → Stand
stand_of want a b = stand_by (wanted_by want a) (wanted_by want b)
