-- What holds of a client's part still holds after its steps.
use Rattle.std.proofs.Common.{◌≡◌, ◌≤◌, ◌+◌, ℕ, List, [], ◌∷◌, length, Bool, true, false, Some, arith, sym, subst}
use Rattle.std.specs.Prelude.{IsSome, if◌then◌else◌, nat_lt, not, pred}
use Rattle.std.proofs.lemmas.Bool.Decides.{nat_tests}
use Rattle.std.proofs.lemmas.Option.{slice_get_within}
use Rattle.dri_base.specs.States.{state_after}
use Rattle.dri_base.specs.Texels.{texture_in}
use Rattle.dri_base.specs.Ranges.{CommandInRange, texture_numbers}
use Rattle.dri_base.specs.declared.command.Command.{Command}
use Rattle.dri_base.specs.declared.command.Command.TheVariants as Command_is
use Rattle.dri_base.specs.declared.scene.ClientScript.{ClientScript}
use Rattle.dri_base.specs.declared.state.State.{State}
use Rattle.dri_core.specs.Phases.{Phase, Out, Old, In, Over, Ask, Asking, Ended, Dead, first_phase, left_from, phase_after}
use Rattle.dri_model.specs.Groups.{no_groups}
use Rattle.dri_model.specs.Heaps.{Heap}
use Rattle.dri_client.specs.Kept.{GoesOn, IsKept, StaysKept}
use Rattle.dri_client.specs.Parts.{PartState, next_command}
use Rattle.dri_client.specs.Steps.{advanced, changed_by, is_last_of}
use Rattle.dri_client.proofs.Owned.{setting_bound}

-- where a phase and perhaps a stamp change alone
pub phase_kept : (p l : PartState) (x : Phase) (n : ℕ) → l ≡ record p { phase = x; stamp = n } → ((count : ℕ) → GoesOn p.phase p.place count → GoesOn x p.place count) → StaysKept p l
phase_kept p l x n is goes script regions kept = subst (IsKept script regions) (sym is) (record {
  started = kept.started;
  within = kept.within;
  more = goes (length script.commands) kept.more;
  bound = kept.bound;
  inside = kept.inside;
  blocks = kept.blocks;
})

-- from a phase in which a command is left
pub goes_from : (x y : Phase) (place count : ℕ) → x ≡ y → GoesOn x place count → GoesOn y place count
goes_from x y place count is goes = subst (λ z. GoesOn z place count) is goes

-- who was let in may act or is stale, so a command is left
pub goes_taken : (stale : Bool) (x : Phase) (place count : ℕ) → x ≡ (if stale then Old else In) → GoesOn Out place count → GoesOn x place count
goes_taken true x place count is goes = subst (λ y. GoesOn y place count) (sym is) goes
goes_taken false x place count is goes = subst (λ y. GoesOn y place count) (sym is) goes

-- after a leave a command is left, where one is
pub left_goes : (x : Phase) (script : ClientScript) (place : ℕ) → GoesOn x place (length script.commands) → GoesOn (left_from x (is_last_of script (pred place))) place (length script.commands)
left_goes x script place goes = by_last (is_last_of script (pred place)) x (λ e. more e) goes
  where
    more : is_last_of script (pred place) ≡ false → place ≤ length script.commands
    more e = grind (arith, nat_tests)

    by_last : (b : Bool) (y : Phase) → (b ≡ false → place ≤ length script.commands) → GoesOn y place (length script.commands) → GoesOn (left_from y b) place (length script.commands)
    by_last b Ask is left = left
    by_last true Out is left = tt
    by_last true Old is left = tt
    by_last true In is left = tt
    by_last true Over is left = tt
    by_last true Asking is left = tt
    by_last true Ended is left = tt
    by_last true Dead is left = tt
    by_last false Out is left = left
    by_last false Old is left = left
    by_last false In is left = left
    by_last false Over is left = is (λ i. false)
    by_last false Asking is left = left
    by_last false Ended is left = is (λ i. false)
    by_last false Dead is left = is (λ i. false)

-- after a command that isn't the last one, and leaves it in, one is left
pub goes_after : (command : Command) (last : Bool) (i n : ℕ) → last ≡ not (nat_lt i n) → GoesOn (phase_after (Some command) last) (i + 1) n
goes_after Command_is.Swap last i n is = tt
goes_after Command_is.Yield last i n is = tt
goes_after (Command_is.Set setting) true i n is = tt
goes_after (Command_is.Clear colour depth) true i n is = tt
goes_after (Command_is.Triangle t) true i n is = tt
goes_after Command_is.Die true i n is = tt
goes_after (Command_is.Set setting) false i n is = grind (arith, nat_tests)
goes_after (Command_is.Clear colour depth) false i n is = grind (arith, nat_tests)
goes_after (Command_is.Triangle t) false i n is = grind (arith, nat_tests)
goes_after Command_is.Die false i n is = grind (arith, nat_tests)

-- a script that isn't empty has a first command
pub opened_goes : (cs : List Command) → GoesOn (first_phase cs) 1 (length cs)
opened_goes [] = tt
opened_goes (c ∷ cs) = omega arith

-- the bound texture is one of the script's after a command in range
bound_after : (script : ClientScript) (command : Command) (old : State) → CommandInRange (texture_numbers script.textures) command → ((t : ℕ) → old.bound ≡ Some t → IsSome (texture_in script.textures t)) → (t : ℕ) → (state_after command old).bound ≡ Some t → IsSome (texture_in script.textures t)
bound_after script (Command_is.Set setting) old range own t is = setting_bound script.textures setting old range own t is
bound_after script (Command_is.Clear colour depth) old range own t is = own t is
bound_after script (Command_is.Triangle x) old range own t is = own t is
bound_after script Command_is.Swap old range own t is = own t is
bound_after script Command_is.Yield old range own t is = own t is
bound_after script Command_is.Die old range own t is = own t is

-- after what a command in range does to the state
pub changed_kept : (script : ClientScript) (command : Command) (h : Heap) (p l : PartState) (n : ℕ) → CommandInRange (texture_numbers script.textures) command → l ≡ changed_by command h p → IsKept script n p → IsKept script n l
changed_kept script command h p l n range is kept = subst (IsKept script n) (sym is) (record {
  started = kept.started;
  within = kept.within;
  more = kept.more;
  bound = bound_after script command p.state range kept.bound;
  inside = kept.inside;
  blocks = kept.blocks;
})

-- after it went on to the command behind
pub advanced_kept : (script : ClientScript) (command : Command) (p l : PartState) (n : ℕ) → next_command script p ≡ Some command → l ≡ advanced script command p → IsKept script n p → IsKept script n l
advanced_kept script command p l n next is kept = subst (IsKept script n) (sym is) (record {
  started = omega arith;
  within = let within = slice_get_within script.commands (pred p.place) command next in omega (arith, within, kept.started);
  more = goes_after command (is_last_of script p.place) p.place (length script.commands) (λ i. is_last_of script p.place);
  bound = kept.bound;
  inside = kept.inside;
  blocks = kept.blocks;
})

-- after a leave
pub left_kept : (script : ClientScript) (p l : PartState) (n : ℕ) → l ≡ record p { phase = left_from p.phase (is_last_of script (pred p.place)) } → IsKept script n p → IsKept script n l
left_kept script p l n is kept = subst (IsKept script n) (sym is) (record {
  started = kept.started;
  within = kept.within;
  more = left_goes p.phase script p.place kept.more;
  bound = kept.bound;
  inside = kept.inside;
  blocks = kept.blocks;
})

-- once nothing is dirty
pub emptied_kept : (p l : PartState) → l ≡ record p { dirty = no_groups } → StaysKept p l
emptied_kept p l is script regions kept = subst (IsKept script regions) (sym is) (record {
  started = kept.started;
  within = kept.within;
  more = kept.more;
  bound = kept.bound;
  inside = kept.inside;
  blocks = kept.blocks;
})
