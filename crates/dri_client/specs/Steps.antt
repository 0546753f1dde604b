-- What the steps of a part do, in words that no world is needed for.
use Rattle.std.specs.Prelude.{◌+◌, Bool, Option, Some, is_some, length, nat_lt, not, ℕ}
use Rattle.dri_base.specs.States.{state_after}
use Rattle.dri_base.specs.declared.command.Command.{Command}
use Rattle.dri_base.specs.declared.command.Command.TheVariants.{Triangle}
use Rattle.dri_base.specs.declared.scene.ClientScript.{ClientScript}
use Rattle.dri_core.specs.Phases.{phase_after}
use Rattle.dri_core.specs.Privates.{Private, is_bound_lost}
use Rattle.dri_model.specs.Groups.{all_where, dirtied, with_bound}
use Rattle.dri_model.specs.Heaps.{Heap, Spot, is_newer, lose}
use Rattle.dri_model.specs.Shares.{lose_levels}
use Rattle.dri_client.specs.Parts.{PartState}
use Rattle.dri_client.specs.Textures.{age_known, spot_used}

-- a part once it knows what others did: all groups are dirty where another owned the card, and textures and shared regions newer than its local age are lost
abbrev pub caught_up : Heap → Bool → Private → Private
caught_up h new_owner p = record p {
  dirty = with_bound (is_bound_lost p (is_newer h p.local)) (all_where new_owner p.dirty);
  placed = λ t. lose (is_newer h p.local) (p.placed t);
  levels = lose_levels (is_newer h p.local) p.levels;
  local = h.global;
}

-- the age up to which a part knows the regions of this heap, which a command has left: a triangle uses its texture's
abbrev pub age_after : Command → Heap → Option Spot → ℕ → ℕ
age_after (Triangle t) h spot local = age_known h local (is_some spot)
age_after _ h spot local = local

-- a part with the state and the age that a command leaves, over the heap after it
abbrev pub changed_by : Command → Heap → PartState → PartState
changed_by command h p = record p {
  state = state_after command p.state;
  dirty = dirtied p.state (state_after command p.state) p.dirty;
  local = age_after command h (spot_used p) p.local;
}

-- place i is the last command's, or comes behind it
abbrev pub is_last_of : ClientScript → ℕ → Bool
is_last_of script i = not (nat_lt i (length script.commands))

-- a part that goes on to the command behind this one
abbrev pub advanced : ClientScript → Command → PartState → PartState
advanced script command p = record p {
  place = p.place + 1;
  phase = phase_after (Some command) (is_last_of script p.place);
}
