-- How a program ends, by what it came to.
use Rattle.std.specs.Prelude.{◌≡◌, Result, Ok, Err}
use Rattle.std.specs.declared.io.Error.{Error}
use Rattle.files.specs.declared.Failure.{Failure}
use Rattle.files.specs.declared.Failure.TheVariants.{Told, Longer, Output}

-- by the error of a line that could not be written; else as if all had gone well, since a line has told what went wrong
abbrev pub Ends : Result (Unit {0}) Failure → Result (Unit {0}) Error → Type 0
Ends (Ok u) r = r ≡ Ok u
Ends (Err Told) r = r ≡ Ok tt
Ends (Err Longer) r = r ≡ Ok tt
Ends (Err (Output e)) r = r ≡ Err e
