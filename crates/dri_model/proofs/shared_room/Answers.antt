use Rattle.dri_model.proofs.shared_room.Goals as goal
use Rattle.dri_model.proofs.SharedRooms.{found_is, none_is}

pub returns-clause-found : goal.returns-clause-found
returns-clause-found c = found_is

pub returns-clause-none : goal.returns-clause-none
returns-clause-none c size levels blocks k none lt = none_is size levels blocks none k lt
