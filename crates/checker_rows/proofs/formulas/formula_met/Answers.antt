use Rattle.std.proofs.Common.{ap, ◌∙◌, arith}
use Rattle.page_sheets.specs.Rows.{read_values}
use Rattle.program.proofs.Loans.{instructions_long, lent_of, count_few, placed_of}
use Rattle.checker_rows.specs.NoSheet.{seen}
use Rattle.checker_rows.proofs.FieldValues.{seen_read}
use Rattle.checker_rows.proofs.formulas.formula_met.Goals as goal

pub met-requires : goal.met-requires
met-requires c = let i = c.requires.0 in
    let f = c.args.f.now in
    rw (c.instructions.ensures, c.places.ensures) (omega (arith, instructions_long i.is.program, count_few f i.formula i.is i.proper), placed_of f i.formula i.is i.proper)

pub returns : goal.returns
returns c = λ F q is e.
    let s = c.args.sheet.now in
    c.met.ensures F (read_values q F s) (rw (c.instructions.ensures, c.places.ensures) (lent_of c.args.f.now F is)) (λ v. c.values.ensures v ∙ ap (λ n. seen s n v) e ∙ seen_read q F s v)
