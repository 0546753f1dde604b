use Rattle.dri_model.proofs.Rooms.{place_found}
use Rattle.dri_model.proofs.always_room.Goals as goal

pub returns : goal.returns
returns c = place_found
