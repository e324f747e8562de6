use native.Mathlib.Omega.{arith}
use Rattle.inserted.proofs.FixedValues.{row_of_lem}
use Rattle.inserted.proofs.row_at.Goals as goal

pub returns : goal.returns
returns c = λ width. row_of_lem width c.args.count c.args.i c.args.rows.now _ c.requires.0 (omega arith)
