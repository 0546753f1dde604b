-- How many entries can come.
use Rattle.std.proofs.Common.{◌≡◌, ◌<◌, ◌≤◌, ◌+◌, ◌*◌, ℕ, suc, List, [], ◌∷◌, length, drop, Bool, true, false, Some, refl, sym, ap, ◌∙◌, subst, arith, inl, inr, length-drop}
use Rattle.std.specs.Prelude.{◌⊎◌, if◌then◌else◌, pred}
use Rattle.std.proofs.lemmas.List.{drop_more}
use Rattle.std.proofs.lemmas.Option.{get_or_from_slice_get, slice_get_within}
use Rattle.dri_base.specs.declared.command.Command.{Command}
use Rattle.dri_base.specs.declared.command.Command.TheVariants as Command_is
use Rattle.dri_base.specs.Scenes.{commands_of}
use Rattle.dri_core.specs.Effects.{is_last}
use Rattle.dri_core.specs.Phases.{Phase, Out, Old, In, Over, phase_after}
use Rattle.dri_core.specs.Privates.{Private, is_ready}
use Rattle.dri_model.specs.Groups.{is_empty}
use Rattle.dri_driver.specs.Clients.{ClientState, part_of, next_command, script_of_client}
use Rattle.dri_client.specs.Kept.{GoesOn}
use Rattle.dri_client.proofs.Keeping.{goes_after}
use Rattle.dri_driver.specs.Kept.{IsClient}
use Rattle.dri_driver.specs.Needs.{commands_ahead, count_ahead, entries_left, entries_to_run, left_in, need_of}

pub some_ahead : (cs : List Command) → 0 < length cs → 0 < count_ahead cs
some_ahead [] l = absurd (omega (arith, l))
some_ahead (Command_is.Swap ∷ cs) l = omega arith
some_ahead (Command_is.Yield ∷ cs) l = omega arith
some_ahead (Command_is.Set setting ∷ cs) l = omega arith
some_ahead (Command_is.Clear colour depth ∷ cs) l = omega arith
some_ahead (Command_is.Triangle t ∷ cs) l = omega arith
some_ahead (Command_is.Die ∷ cs) l = omega arith

-- a client with a command left has one ahead
pub ahead_some : (k : ClientState) → 0 < k.place → k.place ≤ length (script_of_client k) → 0 < commands_ahead k
ahead_some k started within = some_ahead (drop (pred k.place) (script_of_client k)) (omega (arith, started, within, length-drop (pred k.place) (script_of_client k)))

some_to_run : (a b : Bool) → (0 < (if a then (if b then 1 else 2) else 3)) × ((if a then (if b then 1 else 2) else 3) ≤ 3)
some_to_run true true = (omega arith, omega arith)
some_to_run true false = (omega arith, omega arith)
some_to_run false b = (omega arith, omega arith)

-- the next command takes one to three entries
pub to_run_some : (p : Private) → (0 < entries_to_run p) × (entries_to_run p ≤ 3)
to_run_some p = some_to_run (is_ready p) (is_empty p.dirty)

pub ahead_same : (k l : ClientState) → l.scene ≡ k.scene → l.number ≡ k.number → l.place ≡ k.place → commands_ahead l ≡ commands_ahead k
ahead_same k l scene number place = λ i. count_ahead (drop (pred (place i)) (commands_of (scene i) (number i)))

-- a client that goes on has a command left
pub command_left : (k : ClientState) (index : ℕ) (p : Phase) → IsClient k index → k.phase ≡ p → (p ≡ Out) ⊎ (p ≡ In) → k.place ≤ length (script_of_client k)
command_left k index p client is (inl out) = subst (λ q. GoesOn q k.place (length (script_of_client k))) (is ∙ out) client.kept.more
command_left k index p client is (inr acts) = subst (λ q. GoesOn q k.place (length (script_of_client k))) (is ∙ acts) client.kept.more

in_need : (n ahead : ℕ) (p : Phase) → n ≤ 3 → 0 < ahead → (p ≡ In) ⊎ (p ≡ Old) → left_in p ahead n + 1 ≤ 3 * ahead + 4
in_need n ahead p few some (inl acts) = rw acts (omega (arith, few, some))
in_need n ahead p few some (inr old) = rw old (omega (arith, few, some))

-- who has taken the lock can add one entry less than it needed
pub taken_need : (k l : ClientState) (index : ℕ) → l.scene ≡ k.scene → l.number ≡ k.number → l.place ≡ k.place → (l.phase ≡ In) ⊎ (l.phase ≡ Old) → IsClient k index → k.phase ≡ Out → entries_left l + 1 ≤ need_of k
taken_need k l index scene number place phase client out =
    subst (λ n. left_in l.phase n (entries_to_run (part_of l)) + 1 ≤ need_of k) (sym (ahead_same k l scene number place))
    (in_need (entries_to_run (part_of l)) (commands_ahead k) l.phase (to_run_some (part_of l)).1 (ahead_some k client.kept.started (command_left k index Out client out (inl refl))) phase)

-- a command that leaves it in is one of those ahead
pub ahead_on : (command : Command) (last : Bool) (rest : List Command) → phase_after (Some command) last ≡ In → count_ahead (command ∷ rest) ≡ suc (count_ahead rest)
ahead_on Command_is.Swap last rest is = absurd (cc)
ahead_on Command_is.Yield last rest is = absurd (cc)
ahead_on (Command_is.Set setting) last rest is = refl
ahead_on (Command_is.Clear colour depth) last rest is = refl
ahead_on (Command_is.Triangle t) last rest is = refl
ahead_on Command_is.Die last rest is = refl

-- after a command a client may act or must leave
pub acts_after : (command : Command) (last : Bool) → (phase_after (Some command) last ≡ In) ⊎ (phase_after (Some command) last ≡ Over)
acts_after Command_is.Swap last = inr refl
acts_after Command_is.Yield last = inr refl
acts_after (Command_is.Set setting) true = inr refl
acts_after (Command_is.Clear colour depth) true = inr refl
acts_after (Command_is.Triangle t) true = inr refl
acts_after Command_is.Die true = inr refl
acts_after (Command_is.Set setting) false = inl refl
acts_after (Command_is.Clear colour depth) false = inl refl
acts_after (Command_is.Triangle t) false = inl refl
acts_after Command_is.Die false = inl refl

-- the next command stands first among those that are left
pub next_first : (k : ClientState) (command : Command) → 0 < k.place → next_command k ≡ Some command → drop (pred k.place) (script_of_client k) ≡ command ∷ drop k.place (script_of_client k)
next_first k command started next =
    let within = slice_get_within (script_of_client k) (pred k.place) command next in
    let e : pred k.place + 1 ≡ k.place = omega (arith, started) in
    drop_more (script_of_client k) (pred k.place) command within ∙ (λ i. get_or_from_slice_get (script_of_client k) (pred k.place) command command next i ∷ drop (e i) (script_of_client k))

-- a run takes one entry of those that could come
pub ran_falls : (k l : ClientState) (command : Command) → 0 < k.place → k.phase ≡ In → next_command k ≡ Some command → l.scene ≡ k.scene → l.number ≡ k.number → l.place ≡ k.place + 1 → l.phase ≡ phase_after (Some command) (is_last k.scene k.number k.place) → entries_left l + 1 ≤ entries_left k
ran_falls k l command started acts next scene number place phase = by_phase (acts_after command (is_last k.scene k.number k.place))
  where
    all : ℕ
    all = length (script_of_client k)

    old : entries_left k ≡ entries_to_run (part_of k) + (3 * pred (commands_ahead k) + 1)
    old = ap (λ p. left_in p (commands_ahead k) (entries_to_run (part_of k))) acts

    later : commands_ahead l ≡ count_ahead (drop k.place (script_of_client k))
    later = let e : pred l.place ≡ k.place = omega (arith, place) in λ i. count_ahead (drop (e i) (commands_of (scene i) (number i)))

    by_phase : (phase_after (Some command) (is_last k.scene k.number k.place) ≡ In) ⊎ (phase_after (Some command) (is_last k.scene k.number k.place) ≡ Over) → entries_left l + 1 ≤ entries_left k
    by_phase (inr over) =
        let new : entries_left l ≡ 1 = ap (λ p. left_in p (commands_ahead l) (entries_to_run (part_of l))) (phase ∙ over) in
        omega (arith, old, new, (to_run_some (part_of k)).0)
    by_phase (inl on) =
        let new : entries_left l ≡ entries_to_run (part_of l) + (3 * pred (commands_ahead l) + 1) = ap (λ p. left_in p (commands_ahead l) (entries_to_run (part_of l))) (phase ∙ on) in
        let more : commands_ahead k ≡ suc (commands_ahead l) = ap count_ahead (next_first k command started next) ∙ (ahead_on command (is_last k.scene k.number k.place) (drop k.place (script_of_client k)) on ∙ ap suc (sym later)) in
        let left : k.place + 1 ≤ all = subst (λ p. GoesOn p (k.place + 1) all) on (goes_after command (is_last k.scene k.number k.place) k.place all refl) in
        let some : 0 < commands_ahead l = subst (λ n. 0 < n) (sym later) (some_ahead (drop k.place (script_of_client k)) (omega (arith, left, length-drop k.place (script_of_client k)))) in
        omega (arith, old, new, more, some, (to_run_some (part_of k)).0, (to_run_some (part_of l)).1)
