use lib.ListN.{length-map}
use Rattle.changes.proofs.change.change.Goals as goal

pub returns-in-Insert-clause-meaning : goal.returns-in-Insert-clause-meaning
returns-in-Insert-clause-meaning c = simp c.in-Insert.is c.insert.ensures.meaning

pub returns-in-Delete-clause-meaning : goal.returns-in-Delete-clause-meaning
returns-in-Delete-clause-meaning c = simp (c.in-Delete.is, length-map) c.delete.ensures.meaning

pub returns-in-Modify-clause-meaning : goal.returns-in-Modify-clause-meaning
returns-in-Modify-clause-meaning c = simp (c.in-Modify.is, length-map) c.modify.ensures.meaning
