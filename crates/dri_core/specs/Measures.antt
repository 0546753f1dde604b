-- How much is left to do, as one number. Each event but a stop leaves less, so turns come to an end.
use Rattle.std.specs.Prelude.{ℕ, ◌+◌, ◌*◌, ◌-◌, ◌<◌, ◌≡◌, length, Bool, true, false, ◌==◌, not, ◌||◌, ◌&&◌, nat_lt, Some}
use Rattle.std.specs.List.{sum_by}
use Rattle.dri_base.specs.declared.journal.Event.{Event}
use Rattle.dri_base.specs.declared.scene.Scene.{Scene}
use Rattle.dri_core.specs.Cores.{Core, opening_core, is_queued}
use Rattle.dri_core.specs.CoreRuns.{after_events}
use Rattle.dri_core.specs.EventTable.{after_event}
use Rattle.dri_core.specs.Phases.{Phase, Out, Old, Over, Ask, is_done, wants_in}
use Rattle.dri_core.specs.Privates.{is_ready}
use Rattle.dri_base.specs.Ranges.{client_numbers}
use Rattle.dri_base.specs.Scenes.{commands_of, window_of}
use Rattle.dri_core.specs.Turns.{turn, all_pass, round, turns_and_rounds}
use Rattle.dri_core.specs.Worlds.{World}
use Rattle.dri_model.specs.Groups.{is_empty}

-- 1 where it is so, else 0
abbrev pub one_if : Bool → ℕ
one_if true = 1
one_if false = 0

-- what a phase has still to lead to, before the next command
abbrev pub phase_left : Phase → ℕ
phase_left Out = 12
phase_left Old = 5
phase_left Over = 15
phase_left Ask = 3
phase_left _ = 0

-- what a client in a phase has left, of so many commands: its stamp may be stale, its texture may be missing, its groups dirty, and it may have to wait; death is worth a new stamp and a wait for each of n clients
abbrev pub part_left : ℕ → ℕ → Phase → Bool → Bool → Bool → Bool → ℕ
part_left n commands phase stale missing dirty waits =
    20 * commands + phase_left phase + 16 * one_if stale + 2 * one_if missing + one_if dirty + one_if waits + (17 * n + 4) * one_if (not (is_done phase))

-- client c's stamp isn't the shared one
abbrev pub is_stale : Scene → World → ℕ → Bool
is_stale s w c = not ((w.client c).stamp == w.stamps (window_of s c))

-- client c wants a hold and isn't in the queue
abbrev pub has_to_wait : Core → ℕ → Bool
has_to_wait k c = (k.dying c || wants_in (k.world.client c).phase) && not (is_queued c k.queue)

-- what client c has left, of n clients
abbrev pub client_left : Scene → Core → ℕ → ℕ → ℕ
client_left s k n c =
    part_left n (length (commands_of s c) + 1 - (k.world.client c).place) (k.world.client c).phase (is_stale s k.world c)
    (not (is_ready (k.world.client c))) (not (is_empty (k.world.client c).dirty)) (has_to_wait k c)

-- what all clients have left
abbrev pub clients_left : Scene → Core → ℕ
clients_left s k = sum_by (client_left s k (length s.clients)) (client_numbers s.clients)

-- what the server has left: its changes, each worth a new stamp and a wait for each client, and its own wait
abbrev pub server_left : Scene → Core → ℕ
server_left s k =
    (17 * length s.clients + 4) * (length s.changes - k.world.made) + one_if (nat_lt k.world.made (length s.changes) && not (is_queued 0 k.queue))

-- what is left to do
abbrev pub work_left : Scene → Core → ℕ
work_left s k = clients_left s k + server_left s k + one_if (not k.word.contended)

-- each turn that isn't passed over leaves less to do
abbrev pub TurnsLeaveLess : Scene → Core → Type 0
TurnsLeaveLess s k = (a : ℕ) (e : Event) → turn s k a ≡ Some e → work_left s (after_event s k e) < work_left s k

-- after some number of rounds every turn is passed over
pub record ComesToAnEnd (s : Scene) : Type 0 where
  pub rounds : ℕ
  pub ended : all_pass s (after_events s (opening_core s) (turns_and_rounds s rounds)) (round s) ≡ true
