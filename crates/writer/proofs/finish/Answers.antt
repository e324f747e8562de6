use borrow.Author.Rules.{rules}
use mathlib.Core.Path.{refl, ap, ◌∙◌}
use Rattle.question.specs.Held.{question_of}
use Rattle.page_sheets.specs.Sheet.{verdict_for, finding_of, sheet_of}
use Rattle.room.specs.Room.{begun, stopped, puts}
use Rattle.writer.specs.Layouts.{Lays}
use Rattle.writer.proofs.Layouts.{lays, told, told_is}
use Rattle.writer.proofs.Places.{fits_in, placed_whole, placed_past}
use Rattle.writer.proofs.finish.Goals as goal
use Rattle.writer.proofs.finish.Goals.{In-Ok, In-Err}

-- what stands in the room when the sink ends
laid : (c : In-Ok) → let q = question_of c.args.q.now in Lays c.args.room.now q c.args.asked (finding_of q c.args.asked) c.in-Ok.verdict (begun c.lay.new.sink)
laid c = let q = question_of c.args.q.now in
    lays q c.args.asked c.in-Ok.verdict c.in-Ok.ensures.says c.args.room.now (begun c.lay.new.sink) (c.in-Ok.ensures.filled ∙ ap (λ f. puts f (sheet_of q c.args.asked)) c.new-sink.ensures.start)

past : (c : In-Err) → let q = question_of c.args.q.now in let f = finding_of q c.args.asked in Lays c.args.room.now q c.args.asked f (told (verdict_for f)) (stopped c.lay.new.sink)
past c = let q = question_of c.args.q.now in
    let a = c.args.asked in
    lays q a _ (told_is (verdict_for (finding_of q a))) c.args.room.now (stopped c.lay.new.sink) (c.in-Err.ensures.filled ∙ ap (λ f. puts f (sheet_of q a)) c.new-sink.ensures.start)

pub clear-requires : goal.clear-requires
clear-requires c = fits_in (question_of c.args.q.now) c.args.asked c.args.room.now c.in-Ok.verdict c.lay.new.sink (laid (goal.at.clear-requires c).In-Ok) _ (search rules) c.length-length.result c.length-length.ensures

pub returns-in-Ok : goal.returns-in-Ok
returns-in-Ok c = placed_whole (question_of c.args.q.now) c.args.asked c.args.room.now c.in-Ok.verdict c.lay.new.sink (laid (goal.at.returns-in-Ok c).In-Ok) _ (search rules) c.length-length.result c.length-length.ensures c.clear.new.room c.clear.ensures

pub returns-in-Err : goal.returns-in-Err
returns-in-Err c = rw c.at.ensures (placed_past (question_of c.args.q.now) c.args.asked c.args.room.now _ (stopped c.lay.new.sink) (past (goal.at.returns-in-Err c).In-Err) refl _ (search rules) c.clear-in-Err.new.room c.clear-in-Err.ensures)
