-- What a deed makes of the planes is what its entry makes of the world.
use Rattle.std.proofs.Common.{◌≡◌, ◌≢◌, ◌<◌, ℕ, List, [], ◌∷◌, ◌++◌, Bool, true, false, if◌then◌else◌, Option, Some, None, is_some, refl, ◌∙◌, sym, ap, subst, arith, inl, inr, Contains, All}
use Rattle.std.specs.Prelude.{slice_get, pred}
use Rattle.std.proofs.lemmas.Bool.{true≢false}
use Rattle.std.proofs.lemmas.Bool.Decides.{eqb_tells}
use Rattle.std.proofs.lemmas.List.Elements.{All-head, All-tail}
use Rattle.std.proofs.lemmas.Option.{get_or_from_slice_get, slice_get_within}
use Rattle.dri_base.specs.Fragments.{fragment, rules_of}
use Rattle.dri_base.specs.Ranges.{CommandInRange, InRange, TriangleInRange, client_numbers, texture_numbers}
use Rattle.dri_base.specs.Scenes.{command_at, commands_of, script_in, textures_of}
use Rattle.dri_base.specs.States.{state_at}
use Rattle.dri_base.specs.Texels.{own_image}
use Rattle.dri_base.specs.declared.colour.Pixel.{Pixel}
use Rattle.dri_base.specs.declared.colour.Rgb.{Rgb}
use Rattle.dri_base.specs.declared.command.Change.{Change as WindowChange}
use Rattle.dri_base.specs.declared.command.Command.{Command}
use Rattle.dri_base.specs.declared.command.Command.TheVariants as Command_is
use Rattle.dri_base.specs.declared.journal.Entry.{Entry}
use Rattle.dri_base.specs.declared.journal.Entry.TheVariants as Entry_is
use Rattle.dri_base.specs.declared.scene.ClientScript.{ClientScript}
use Rattle.dri_base.specs.declared.scene.Scene.{Scene}
use Rattle.dri_base.specs.declared.scene.Window.{Window}
use Rattle.dri_base.specs.declared.shape.Triangle.{Triangle}
use Rattle.dri_core.proofs.Laws.{after-push}
use Rattle.dri_core.proofs.Parts.{put_here}
use Rattle.dri_core.proofs.PlaneSteps.{plane_step}
use Rattle.dri_core.proofs.Sound.{sound_after}
use Rattle.dri_core.specs.Effects.{run_by}
use Rattle.dri_core.specs.EntryTable.{LegalEntry}
use Rattle.dri_core.specs.Frames.{across, down}
use Rattle.dri_core.specs.PlaneSteps.{back_by, front_by}
use Rattle.dri_core.specs.Privates.{Private}
use Rattle.dri_core.specs.Restacks.{back_restacked, change_moved, change_stack, front_restacked, next_moved, next_stack}
use Rattle.dri_core.specs.Runs.{HoldRun, after, client_of}
use Rattle.dri_core.specs.Worlds.{World, clips_in}
use Rattle.dri_base.proofs.RangeLemmas.{well_formed}
use Rattle.dri_replay.specs.Makings.{MayMake, back_made, clips_now, front_made, state_now}
use Rattle.dri_replay.proofs.Stacked.{along_is, can_show, filled_is, unpainted_same}
use Rattle.dri_journal.proofs.Whom.{has_number}
use Rattle.dri_journal.specs.Deeds.{Does, deed_by, is_refused}
use Rattle.dri_journal.specs.Replays.{MayTake, ReplayState, Took, world_of}
use Rattle.dri_journal.specs.declared.deed.Deed.{Deed}
use Rattle.dri_journal.specs.declared.deed.Deed.TheVariants as Deed_is
use Rattle.dri_model.specs.Stacks.{Refusal, changed as changed_stack, moves, moves_unless, refusal, unless_refused, without_owner}

-- a scene and the entries that were taken, one entry more
abbrev pub with_entry : Scene → List Entry → Entry → ReplayState
with_entry s j e = record { scene = s; entries = j ++ e ∷ [] }

-- the world that the entries leave, with these planes
abbrev pub planed : Scene → List Entry → (ℕ → ℕ → Pixel) → (ℕ → ℕ → Rgb) → World
planed s j f shown = record (after s j) { front = shown; back = f }

-- a deed makes of any planes what its entry makes of them
record IsLifted (s : Scene) (j : List Entry) (f : ℕ → ℕ → Pixel) (shown : ℕ → ℕ → Rgb) (e : Entry) (deed : Deed) : Type 0 where
  pub may : MayMake (with_entry s j e) (client_of e) deed
  pub front : (x y : ℕ) → x < s.width → y < s.height → front_made (with_entry s j e) (client_of e) deed f shown x y ≡ front_by s (planed s j f shown) e x y
  pub back : (x y : ℕ) → back_made (with_entry s j e) (client_of e) deed f x y ≡ back_by s (planed s j f shown) e x y

-- a command that is there
no_command : (cs : List Command) (k : ℕ) (x : Command) → slice_get cs k ≡ Some x → cs ≢ []
no_command [] k x e none = absurd (cc)
no_command (d ∷ cs) k x e none = absurd (cc)

only_same : (b : Bool) (p : Pixel) → p ≡ (if b then p else p)
only_same true p = refl
only_same false p = refl

-- each command of a client's script is in range
script_meets : (P : ClientScript → Type 0) (ps : List ClientScript) (c : ℕ) → All P ps → P (record { number = c; window = 0; textures = []; commands = [] }) → P (script_in ps c)
script_meets P [] c all none = none
script_meets P (p ∷ ps) c all none =
    elim (eqb_tells p.number c) as (λ _. P (script_in (p ∷ ps) c)) [
      | inl same ↦ rw same.0 (All-head P p ps all)
      | inr other ↦ rw other.0 (script_meets P ps c (All-tail P p ps all) none)
    ]

triangle_ranged : (s : Scene) (c i : ℕ) (t : Triangle) → InRange s → command_at s c i ≡ Some (Command_is.Triangle t) → TriangleInRange t
triangle_ranged s c i t good e =
    let each = script_meets (λ p. All (CommandInRange (texture_numbers p.textures)) p.commands) s.clients c (λ k d below. (good.scripted.each k d below).commanded.each) (λ k d below. absurd (omega arith)) in
    subst (CommandInRange (texture_numbers (textures_of s c))) (get_or_from_slice_get (commands_of s c) (pred i) (Command_is.Triangle t) (Command_is.Triangle t) e) (each (pred i) (Command_is.Triangle t) (slice_get_within (commands_of s c) (pred i) (Command_is.Triangle t) e))

-- a refused change leaves the stack, and moves nothing
pub refused_stays : (ws : List Window) (o : Option WindowChange) → is_refused ws o ≡ true → (change_moved ws o ≡ None) × (change_stack ws o ≡ ws)
refused_stays ws None refused = absurd (true≢false (sym refused))
refused_stays ws (Some change) refused = by_refusal (refusal change ws) refused
  where
    by_refusal : (r : Option Refusal) → is_some r ≡ true → (moves_unless r (moves change) ≡ None) × (unless_refused r ws (changed_stack change ws) ≡ ws)
    by_refusal None is = absurd (true≢false (sym is))
    by_refusal (Some why) is = (refl, refl)

module _ (s : Scene) (j : List Entry) (good : InRange s) (run : HoldRun s j) where
  module _ (c i : ℕ) (legal : LegalEntry s (after s j) (Entry_is.Run c i)) where
    -- the client's clips, origin and state as the run found them
    pub clips_same : (x y : ℕ) → clips_now (with_entry s j (Entry_is.Run c i)) c x y ≡ clips_in s (after s j) c x y
    clips_same x y = ap (λ (u : World). clips_in s u c x y) (after-push s j (Entry_is.Run c i))

    pub across_same : (x : ℕ) → across s (world_of (with_entry s j (Entry_is.Run c i))) c x ≡ across s (after s j) c x
    across_same x = ap (λ (u : World). across s u c x) (after-push s j (Entry_is.Run c i))

    pub down_same : (y : ℕ) → down s (world_of (with_entry s j (Entry_is.Run c i))) c y ≡ down s (after s j) c y
    down_same y = ap (λ (u : World). down s u c y) (after-push s j (Entry_is.Run c i))

    part_now : (world_of (with_entry s j (Entry_is.Run c i))).client c ≡ run_by s (after s j) c i
    part_now = ap (λ (u : World). u.client c) (after-push s j (Entry_is.Run c i)) ∙ put_here (after s j).client c (run_by s (after s j) c i)

    pub state_same : (t : Triangle) → command_at s c i ≡ Some (Command_is.Triangle t) → state_now (with_entry s j (Entry_is.Run c i)) c ≡ state_at (commands_of s c) i
    state_same t e =
        let kept : (run_by s (after s j) c i).state ≡ ((after s j).client c).state = rw e refl in
        ap (λ (p : Private). p.state) part_now ∙ kept ∙ (sound_after s j (well_formed s good) run).main.state c ∙ ap (state_at (commands_of s c)) (sym legal.1)

    -- what it needs
    there : (x : Command) → command_at s c i ≡ Some x → Contains (client_numbers s.clients) c
    there x e = has_number s j good run c (no_command (commands_of s c) (pred i) x e)

    may_run : (o : Option Command) → command_at s c i ≡ o → MayMake (with_entry s j (Entry_is.Run c i)) c (deed_by o)
    may_run (Some (Command_is.Clear colour depth)) e = there (Command_is.Clear colour depth) e
    may_run (Some (Command_is.Triangle t)) e = (there (Command_is.Triangle t) e, triangle_ranged s c i t good e)
    may_run (Some Command_is.Swap) e = there Command_is.Swap e
    may_run (Some Command_is.Yield) e = tt
    may_run (Some Command_is.Die) e = tt
    may_run (Some (Command_is.Set setting)) e = tt
    may_run None e = tt

  module _ (f : ℕ → ℕ → Pixel) (shown : ℕ → ℕ → Rgb) where
    -- back after the run of a command
    back_ran : (c i : ℕ) → LegalEntry s (after s j) (Entry_is.Run c i) → (o : Option Command) → command_at s c i ≡ o → (x y : ℕ) → back_made (with_entry s j (Entry_is.Run c i)) c (deed_by o) f x y ≡ back_by s (planed s j f shown) (Entry_is.Run c i) x y
    back_ran c i legal (Some (Command_is.Clear colour depth)) e x y = rw (e, clips_same c i legal x y) refl
    back_ran c i legal (Some (Command_is.Triangle t)) e x y =
        let st = state_same c i legal t e in
        rw (e, clips_same c i legal x y) (λ k. if clips_in s (after s j) c x y then fragment (rules_of (st k)) (own_image (textures_of s c) (st k).bound) t (across_same c i legal x k) (down_same c i legal y k) (f x y) else f x y)
    back_ran c i legal None e x y = rw e (only_same (clips_in s (after s j) c x y) (f x y))
    back_ran c i legal (Some Command_is.Swap) e x y = rw e (only_same (clips_in s (after s j) c x y) (f x y))
    back_ran c i legal (Some Command_is.Yield) e x y = rw e (only_same (clips_in s (after s j) c x y) (f x y))
    back_ran c i legal (Some Command_is.Die) e x y = rw e (only_same (clips_in s (after s j) c x y) (f x y))
    back_ran c i legal (Some (Command_is.Set setting)) e x y = rw e (only_same (clips_in s (after s j) c x y) (f x y))

    -- front after it
    front_ran : (c i : ℕ) → LegalEntry s (after s j) (Entry_is.Run c i) → (o : Option Command) → command_at s c i ≡ o → (x y : ℕ) → front_made (with_entry s j (Entry_is.Run c i)) c (deed_by o) f shown x y ≡ front_by s (planed s j f shown) (Entry_is.Run c i) x y
    front_ran c i legal (Some Command_is.Swap) e x y = rw (e, clips_same c i legal x y) refl
    front_ran c i legal (Some (Command_is.Clear colour depth)) e x y = rw e refl
    front_ran c i legal (Some (Command_is.Triangle t)) e x y = rw e refl
    front_ran c i legal (Some Command_is.Yield) e x y = rw e refl
    front_ran c i legal (Some Command_is.Die) e x y = rw e refl
    front_ran c i legal (Some (Command_is.Set setting)) e x y = rw e refl
    front_ran c i legal None e x y = rw e refl

    ran : (c i : ℕ) (deed : Deed) → LegalEntry s (after s j) (Entry_is.Run c i) → deed ≡ deed_by (command_at s c i) → IsLifted s j f shown (Entry_is.Run c i) deed
    ran c i deed legal does = subst (IsLifted s j f shown (Entry_is.Run c i)) (sym does) (record {
      may = may_run c i legal (command_at s c i) refl;
      front = λ x y column row. front_ran c i legal (command_at s c i) refl x y;
      back = back_ran c i legal (command_at s c i) refl;
    })

    changed : (i : ℕ) (deed : Deed) → Does s (after s j) (Entry_is.Change i) deed → IsLifted s j f shown (Entry_is.Change i) deed
    changed i (Deed_is.Touched touched) does =
        let moved = next_moved s (after s j) in let new = next_stack s (after s j) in
        record {
          may = can_show s.width s.height s.root (after s j).stack new moved touched does.1.carry does.1.paints;
          front = filled_is s.width s.height s.root (after s j).stack new moved touched shown does.1.carry does.1.paints;
          back = along_is s.width s.height (after s j).stack new moved touched.carry f does.1.carry;
        }
    changed i Deed_is.Nothing does =
        let stays = refused_stays (after s j).stack (slice_get s.changes (after s j).made) does in
        record {
          may = tt;
          front = λ x y column row. unpainted_same s.root (after s j).stack shown x y ∙ (λ k. front_restacked s (planed s j f shown) (sym stays.0 k) (sym stays.1 k) x y);
          back = λ x y k. back_restacked s (planed s j f shown) (sym stays.0 k) (sym stays.1 k) x y;
        }
    changed i (Deed_is.Clear colour depth) does = absurd does
    changed i (Deed_is.Triangle t) does = absurd does
    changed i Deed_is.Swap does = absurd does

    gone : (c : ℕ) (deed : Deed) → Does s (after s j) (Entry_is.Gone c) deed → IsLifted s j f shown (Entry_is.Gone c) deed
    gone c (Deed_is.Touched touched) does =
        let new = without_owner c (after s j).stack in
        record {
          may = can_show s.width s.height s.root (after s j).stack new None touched does.1.carry does.1.paints;
          front = filled_is s.width s.height s.root (after s j).stack new None touched shown does.1.carry does.1.paints;
          back = along_is s.width s.height (after s j).stack new None touched.carry f does.1.carry;
        }
    gone c Deed_is.Nothing does = absurd (true≢false (sym does))
    gone c (Deed_is.Clear colour depth) does = absurd does
    gone c (Deed_is.Triangle t) does = absurd does
    gone c Deed_is.Swap does = absurd does

    nothing : (e : Entry) → IsLifted s j f shown e Deed_is.Nothing → (deed : Deed) → deed ≡ Deed_is.Nothing → IsLifted s j f shown e deed
    nothing e is deed does = subst (IsLifted s j f shown e) (sym does) is

    lifted : (e : Entry) (deed : Deed) → LegalEntry s (after s j) e → Does s (after s j) e deed → IsLifted s j f shown e deed
    lifted (Entry_is.Run c i) deed legal does = ran c i deed legal does
    lifted (Entry_is.Change i) deed legal does = changed i deed does
    lifted (Entry_is.Gone c) deed legal does = gone c deed does
    lifted (Entry_is.Light c) deed legal does = nothing (Entry_is.Light c) (record { may = tt; front = λ x y column row. refl; back = λ x y. refl }) deed does
    lifted (Entry_is.Kernel c found) deed legal does = nothing (Entry_is.Kernel c found) (record { may = tt; front = λ x y column row. refl; back = λ x y. refl }) deed does
    lifted (Entry_is.Stale c) deed legal does = nothing (Entry_is.Stale c) (record { may = tt; front = λ x y column row. refl; back = λ x y. refl }) deed does
    lifted (Entry_is.Emit c groups) deed legal does = nothing (Entry_is.Emit c groups) (record { may = tt; front = λ x y column row. refl; back = λ x y. refl }) deed does
    lifted (Entry_is.Place c t first count) deed legal does = nothing (Entry_is.Place c t first count) (record { may = tt; front = λ x y column row. refl; back = λ x y. refl }) deed does
    lifted (Entry_is.Leave c) deed legal does = nothing (Entry_is.Leave c) (record { may = tt; front = λ x y column row. refl; back = λ x y. refl }) deed does
    lifted (Entry_is.Info c) deed legal does = nothing (Entry_is.Info c) (record { may = tt; front = λ x y column row. refl; back = λ x y. refl }) deed does

  module _ (e : Entry) (deed : Deed) (legal : LegalEntry s (after s j) e) (does : Does s (after s j) e deed) where
    -- what the deed needs
    pub may_make : MayMake (with_entry s j e) (client_of e) deed
    may_make = (lifted (after s j).back (after s j).front e deed legal does).may

    -- front and back after it are what the entry makes of any planes
    pub front_lifted : (f : ℕ → ℕ → Pixel) (shown : ℕ → ℕ → Rgb) (x y : ℕ) → x < s.width → y < s.height → front_made (with_entry s j e) (client_of e) deed f shown x y ≡ front_by s (planed s j f shown) e x y
    front_lifted f shown = (lifted f shown e deed legal does).front

    pub back_lifted : (f : ℕ → ℕ → Pixel) (shown : ℕ → ℕ → Rgb) (x y : ℕ) → back_made (with_entry s j e) (client_of e) deed f x y ≡ back_by s (planed s j f shown) e x y
    back_lifted f shown = (lifted f shown e deed legal does).back

    -- and of the world's planes those of the world that the entry leaves
    pub front_after : (x y : ℕ) → x < s.width → y < s.height → front_made (with_entry s j e) (client_of e) deed (after s j).back (after s j).front x y ≡ (world_of (with_entry s j e)).front x y
    front_after x y column row =
        front_lifted (after s j).back (after s j).front x y column row ∙ sym ((plane_step s j e good run legal).front x y) ∙ ap (λ (u : World). u.front x y) (sym (after-push s j e))

    pub back_after : (x y : ℕ) → back_made (with_entry s j e) (client_of e) deed (after s j).back x y ≡ (world_of (with_entry s j e)).back x y
    back_after x y = back_lifted (after s j).back (after s j).front x y ∙ sym ((plane_step s j e good run legal).back x y) ∙ ap (λ (u : World). u.back x y) (sym (after-push s j e))

-- the value after an entry was taken
pub taken : (old new : ReplayState) (e : Entry) → Took old new e → with_entry old.scene old.entries e ≡ new
taken old new e took = λ k. record { scene = sym took.scene k; entries = sym took.entries k }

-- what the deed of an entry that was taken needs
pub may : (old new : ReplayState) (e : Entry) (deed : Deed) (n : ℕ) → InRange old.scene → HoldRun old.scene old.entries → MayTake old e → Took old new e → Does old.scene (world_of old) e deed → n ≡ client_of e → MayMake new n deed
may old new e deed n good run legal took does client =
    subst (λ v. MayMake v n deed) (taken old new e took) (subst (λ k. MayMake (with_entry old.scene old.entries e) k deed) (sym client) (may_make old.scene old.entries good run e deed legal does))
