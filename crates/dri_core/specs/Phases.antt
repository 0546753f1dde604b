-- The phases of a client.
use Rattle.std.specs.Prelude.{Bool, List, Option, Some, [], false, true, ℕ, ◌==◌, ◌∷◌}
use Rattle.dri_base.specs.declared.command.Command.{Command}
use Rattle.dri_base.specs.declared.command.Command.TheVariants.{Swap, Yield}

-- what a client is doing
pub data Phase : Type 0 where
  -- holds nothing, and a command is left
  Out : Phase
  -- holds, and its stamp differs from the shared one
  Old : Phase
  -- holds, and may act
  In : Phase
  -- holds, and must leave
  Over : Phase
  -- holds, has said that its stamp is old, and must leave
  Ask : Phase
  -- holds nothing, and wants information
  Asking : Phase
  -- has run its last command
  Ended : Phase
  -- was killed, or died
  Dead : Phase

-- a client with an empty script is ended from the start
abbrev pub first_phase : List Command → Phase
first_phase [] = Ended
first_phase (c ∷ cs) = Out

-- the client holds
abbrev pub is_holding : Phase → Bool
is_holding Old = true
is_holding In = true
is_holding Over = true
is_holding Ask = true
is_holding _ = false

-- the client has ended or is dead
abbrev pub is_done : Phase → Bool
is_done Ended = true
is_done Dead = true
is_done _ = false

-- the phase after a leave: from ask it is asking; else out, or ended where no command is left
abbrev pub left_from : Phase → Bool → Phase
left_from Ask last = Asking
left_from _ true = Ended
left_from _ false = Out

-- the phase after a command: over after a swap, a yield or the last command
abbrev pub phase_after : Option Command → Bool → Phase
phase_after (Some Swap) last = Over
phase_after (Some Yield) last = Over
phase_after _ true = Over
phase_after _ false = In

-- the client wants a hold
abbrev pub wants_in : Phase → Bool
wants_in Out = true
wants_in Asking = true
wants_in _ = false

-- the client may take the word, where it is unheld
abbrev pub is_out : Phase → Bool
is_out Out = true
is_out _ = false

-- a number for each phase
abbrev pub phase_code : Phase → ℕ
phase_code Out = 0
phase_code Old = 1
phase_code In = 2
phase_code Over = 3
phase_code Ask = 4
phase_code Asking = 5
phase_code Ended = 6
phase_code Dead = 7

-- the two phases are one
abbrev pub same_phase : Phase → Phase → Bool
same_phase a b = phase_code a == phase_code b
