use borrow.Author.Rules.{rules}
use Prim.Native.Nat.{◌-◌}
use lib.IntN.{pos}
use lib.ListN.{get_or}
use mir.Syntax.{w32}
use mir.Val.{SFits}
use mathlib.Core.Path.{ap, ◌∙◌}
use mathlib.Core.Option.{some}
use native.Mathlib.Omega.{arith}
use mir.Facts.{to_z-of_z}
use Rattle.inserted.proofs.FixedValues.{row_before, row_past, row_has}
use Rattle.inserted.proofs.row_value.Goals as goal

pub returns-then-c-first : goal.returns-then-c-first
returns-then-c-first c = let a = c.args in row_before a.first a.width a.c a.values.now c.if-c-first.true

pub returns-then-width-j : goal.returns-then-width-j
returns-then-width-j c = let a = c.args in row_past a.first a.width a.c a.values.now c.if-c-first.false c.if-width-j.true

pub returns : goal.returns
returns c = let a = c.args in
    let fits : SFits w32 (get_or a.values.now (a.c - a.first) (pos 0)) = search rules in
    ap some (to_z-of_z fits) ∙ row_has a.first a.width a.c a.values.now c.if-c-first.false c.if-width-j.false (omega arith)
