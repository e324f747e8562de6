use mathlib.Core.Path.{refl}
use Rattle.room.proofs.store.Goals as goal

-- Said here, though it is found without, so that a store of another byte is refused by name.
pub returns : goal.returns
returns c = refl
