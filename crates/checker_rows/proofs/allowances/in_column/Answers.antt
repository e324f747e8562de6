use Rattle.std.proofs.Common.{◌≡◌, get_or, true, false, ◌∙◌, rules, w32, SFits}
use mir.Facts.{to_z-of_z}
use Rattle.question.proofs.Guaranteed.{held_of}
use lib.Signed.{le_z}
use Rattle.page_meaning.specs.Contents.{in_range}
use Rattle.sights.specs.Sights.{no_column}
use Rattle.checker_rows.proofs.AllowedValues.{in_column_lem, and_so, and_not}
use Rattle.checker_rows.proofs.allowances.in_column.Goals as goal

pub returns-then-z-column : goal.returns-then-z-column
unfolding in_range
returns-then-z-column c = let a = c.args in
    let k = get_or a.q.now.columns a.c no_column in
    let hi : SFits w32 k.hi = search rules in
    let lo : SFits w32 k.lo = search rules in
    let t : le_z a.z k.hi ≡ true = rw (to_z-of_z hi, to_z-of_z c.ranges.z) at c.if-z-column.true in
    rw (to_z-of_z lo, to_z-of_z c.ranges.z) (and_so (le_z a.z k.hi) (le_z k.lo a.z) t ∙ in_column_lem a.q.now (record { held = held_of a.q.now; long = search rules }) a.c c.requires a.z)

pub returns-else-z-column : goal.returns-else-z-column
unfolding in_range
returns-else-z-column c = let a = c.args in
    let k = get_or a.q.now.columns a.c no_column in
    let hi : SFits w32 k.hi = search rules in
    let t : le_z a.z k.hi ≡ false = rw (to_z-of_z hi, to_z-of_z c.ranges.z) at c.if-z-column.false in
    rw (to_z-of_z hi, to_z-of_z c.ranges.z, t) (and_not (le_z a.z k.hi) (le_z k.lo a.z) t ∙ in_column_lem a.q.now (record { held = held_of a.q.now; long = search rules }) a.c c.requires a.z)
