use mathlib.Core.Path.{sym, ap, ◌∙◌}
use native.Mathlib.Omega.{arith}
use lib.Seq.{take-take, get_or-take}
use Rattle.page_questions.specs.Layout.{total}
use Rattle.page_questions.proofs.Sums.{inside, total_le}
use Rattle.tables.proofs.widths.shape.Goals as goal

pub total-requires : goal.total-requires
total-requires c = omega (arith, total_le c.args.widths c.args.changed c.args.n (omega (arith, c.requires.changed_lt_n)), c.requires.counted.small)

pub returns-clause-shape_held : goal.returns-clause-shape_held
returns-clause-shape_held c = let a = c.args in
    let k = c.requires.counted in
    let l = c.requires.changed_lt_n in
    record {
      some_table = omega (arith, l);
      few_tables = k.few;
      changed = l;
      first = c.total.ensures ∙ ap total (sym (take-take a.changed a.n a.widths (omega (arith, l))));
      width = sym (get_or-take a.n a.widths a.changed 0 l);
      total = c.total-2.ensures;
      some_column = k.each a.changed l;
      inside = omega (arith, inside a.widths a.changed a.n l (omega (arith, l, k.few)), c.total.ensures, c.total-2.ensures);
      few_columns = omega (arith, c.total-2.ensures, k.small);
    }
