use Rattle.dri_core.proofs.RunLaws.{one_turn, turns_legal, no_light, turns_leave_less, kill_one, kills_legal, is_played, items_run}
use Rattle.dri_core.proofs.core_runs.turns.Goals as goal

pub returns-clause-one : goal.returns-clause-one
returns-clause-one c = one_turn

pub returns-clause-legal : goal.returns-clause-legal
returns-clause-legal c = turns_legal

pub returns-clause-one_kill : goal.returns-clause-one_kill
returns-clause-one_kill c = kill_one

pub returns-clause-kill_legal : goal.returns-clause-kill_legal
returns-clause-kill_legal c = kills_legal

pub returns-clause-items : goal.returns-clause-items
returns-clause-items c = items_run

pub returns-clause-played : goal.returns-clause-played
returns-clause-played c = is_played

pub returns-clause-less : goal.returns-clause-less
returns-clause-less c = turns_leave_less

pub returns-clause-mark : goal.returns-clause-mark
returns-clause-mark c = no_light
