use Rattle.std.proofs.Common.{◌-◌, ap, ◌∙◌, get_or}
use Rattle.page_formulas.specs.Knowledge.{and3, or3}
use Rattle.program.specs.Meanings.{number_of}
use Rattle.truth.specs.Values.{three_of}
use Rattle.truth.specs.declared.truths.Truth.TheVariants.{Fails}
use Rattle.views.proofs.SeenTruths.{shows_place, shows_not, shows_and, shows_or}
use Rattle.views.proofs.view.Goals as goal

pub returns-in-Place : goal.returns-in-Place
returns-in-Place c = let a = c.args in let r = c.requires in
    shows_place a.tree.now r.laid_rows.0 a.near.now.rows a.i a.seen.now r.i_lt_count.1 r.i_lt_count.0 c.seen_place.result (ap number_of c.in-Place.is) c.seen_place.ensures

pub returns-in-Not : goal.returns-in-Not
returns-in-Not c = let a = c.args in let r = c.requires in
    shows_not a.tree.now r.laid_rows.0 a.near.now.rows a.i a.seen.now r.i_lt_count.1 r.i_lt_count.0 c.not.result (ap number_of c.in-Not.is) c.not.ensures

pub returns-in-And : goal.returns-in-And
returns-in-And c = let a = c.args in let r = c.requires in
    shows_and a.tree.now r.laid_rows.0 a.near.now.rows a.i a.seen.now r.i_lt_count.1 r.i_lt_count.0 c.and.result (ap number_of c.in-And.is) (c.and.ensures ∙ ap (λ j. and3 (three_of (get_or a.seen.now j Fails)) (three_of (get_or a.seen.now (a.i - 1) Fails))) c.first_of.ensures)

pub returns-in-Or : goal.returns-in-Or
returns-in-Or c = let a = c.args in let r = c.requires in
    shows_or a.tree.now r.laid_rows.0 a.near.now.rows a.i a.seen.now r.i_lt_count.1 r.i_lt_count.0 c.or.result (ap number_of c.in-Or.is) (c.or.ensures ∙ ap (λ j. or3 (three_of (get_or a.seen.now j Fails)) (three_of (get_or a.seen.now (a.i - 1) Fails))) c.first_of-in-Or.ensures)
