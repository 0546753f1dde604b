-- How many entries a client can add in a hold.
use Rattle.std.specs.Prelude.{List, [], drop, if◌then◌else◌, pred, suc, ℕ, ◌*◌, ◌+◌, ◌∷◌}
use Rattle.dri_base.specs.declared.command.Command.{Command}
use Rattle.dri_base.specs.declared.command.Command.TheVariants.{Swap, Yield}
use Rattle.dri_core.specs.Phases.{Phase, Old, In, Over, Ask}
use Rattle.dri_core.specs.Privates.{Private, is_ready}
use Rattle.dri_model.specs.Groups.{is_empty}
use Rattle.dri_driver.specs.Clients.{ClientState, part_of, script_of_client}

-- how many commands come up to the first swap or yield and with it, or up to the end
abbrev pub count_ahead : List Command → ℕ
count_ahead [] = 0
count_ahead (Swap ∷ commands) = 1
count_ahead (Yield ∷ commands) = 1
count_ahead (command ∷ commands) = suc (count_ahead commands)

-- how many commands the client may run before it has to leave
abbrev pub commands_ahead : ClientState → ℕ
commands_ahead k = count_ahead (drop (pred k.place) (script_of_client k))

-- the most entries that the client's next hold can add: 3 for each of these commands, and 4 more
abbrev pub need_of : ClientState → ℕ
need_of k = 3 * commands_ahead k + 4

-- the most entries until the next command has run: place, emit and run; emit and run; or run alone
abbrev pub entries_to_run : Private → ℕ
entries_to_run p = if is_ready p then (if is_empty p.dirty then 1 else 2) else 3

-- the most entries that a client in this phase can still add in its hold, the last one included
abbrev pub left_in : Phase → ℕ → ℕ → ℕ
left_in In ahead next = next + (3 * pred ahead + 1)
left_in Over ahead next = 1
left_in Ask ahead next = 1
left_in Old ahead next = 2
left_in phase ahead next = 0

-- the most entries that the client can still add in its hold
abbrev pub entries_left : ClientState → ℕ
entries_left k = left_in k.phase (commands_ahead k) (entries_to_run (part_of k))
