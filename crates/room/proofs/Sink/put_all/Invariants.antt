use Rattle.std.proofs.Common.{◌≡◌, drop}
use Rattle.room.specs.Room.{begun, puts}
use Rattle.room.proofs.Sink.put_all.Given as goal

abbrev pub invariant-loop-b : goal.invariant-loop-b
invariant-loop-b l = record {
  same_reference : l.self.room.ghost_name ≡ l.initial.self.room.ghost_name;
  to_come : puts (begun l.self) (drop l.b-index l.bytes) ≡ puts (begun l.initial.self) l.bytes;
}
