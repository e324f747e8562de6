use Rattle.std.proofs.Common.{rules, ◌∙◌}
use Rattle.question.proofs.Guaranteed.{held_of}
use Rattle.sights.proofs.Sightings.{row_vertex}
use Rattle.sights.proofs.terms.vertex_at.Goals as goal

pub returns : goal.returns
returns c = let a = c.args in c.vertex_of.ensures ∙ row_vertex a.q.now (record { held = held_of a.q.now; long = search rules }) a.second a.i c.requires
