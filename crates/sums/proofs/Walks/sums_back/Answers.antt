use mathlib.Core.Path.{refl}
use native.Mathlib.Omega.{arith}
use borrow.Author.Rules.{rules}
use Rattle.sums.proofs.SumsBack.{back_first, back_next, back_within}
use Rattle.sums.proofs.Walks.sums_back.Goals as goal

pub loop-j-init : goal.loop-j-init
loop-j-init c = (back_first c.args.self.now.grid.now.rows c.args.self.now.n c.args.self.now.summable c.args.s c.args.row.now _ (search rules) c.column.ensures, search rules, refl)

pub longer-requires : goal.longer-requires
longer-requires c = let l = c.loop-j in
    let r = c.requires in
    back_within c.args.self.now.grid.now.rows c.args.self.now.n c.args.self.now.summable c.args.s l.j l.row r.0 (omega (arith, r, c.args.self.now.summable)) l.invariant.0

pub loop-j-preserved : goal.loop-j-preserved
loop-j-preserved c = let l = c.loop-j in
    let new = back_next c.args.self.now.grid.now.rows c.args.self.now.n c.args.self.now.summable c.args.s l.j l.row l.next _ l.invariant.2 l.invariant.0 c.longer.ensures in
    (new, omega (arith, c.loop-j-test.true), new.long)
