use Rattle.std.proofs.Common.{get_or, pos, rules, w32, w64, SFits}
use mir.Facts.{to_z-of_z}
use Rattle.checker_rows.proofs.FieldValues.{wide_fits, sum_fits}
use Rattle.checker_rows.proofs.values.holds.Goals as goal

pub returns : goal.returns
returns c = let a = c.args in
    let l : SFits w32 (get_or a.values.now a.place.left (pos 0)) = search rules in
    let r : SFits w32 (get_or a.values.now a.place.right (pos 0)) = search rules in
    let k : SFits w64 a.place.most = search rules in
    rw (c.from-left.ensures, c.from-right.ensures, to_z-of_z l, to_z-of_z r, to_z-of_z (wide_fits _ l), to_z-of_z (wide_fits _ r), to_z-of_z k, to_z-of_z (sum_fits _ _ r c.requires.2))
