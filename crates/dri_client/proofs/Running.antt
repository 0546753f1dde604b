-- The step of a command that ran.
use Rattle.std.proofs.Common.{◌≡◌, ℕ, ◌+◌, true, false, Bool, Option, Some, None, ap, refl, subst, sym, ◌∙◌, arith}
use Rattle.std.specs.Prelude.{◌==◌, ◌&&◌, ◌||◌, is_some, not, pred, slice_get}
use Rattle.std.proofs.lemmas.Bool.Decides.{nat_tests}
use Rattle.dri_base.specs.Scenes.{command_at, script_of}
use Rattle.dri_base.specs.declared.command.Command.{Command}
use Rattle.dri_base.specs.declared.command.Command.TheVariants as Command_is
use Rattle.dri_base.specs.declared.journal.Entry.TheVariants as Entry_is
use Rattle.dri_base.specs.declared.scene.ClientScript.{ClientScript}
use Rattle.dri_base.specs.declared.scene.Scene.{Scene}
use Rattle.dri_base.specs.declared.shape.ClipRect.{ClipRect}
use Rattle.dri_base.specs.declared.shape.Triangle.{Triangle}
use Rattle.dri_base.specs.declared.state.Setting.{Setting}
use Rattle.dri_base.specs.declared.state.State.{State}
use Rattle.dri_core.specs.Effects.{heap_after, local_after}
use Rattle.dri_core.specs.EntryTable.{after_entry}
use Rattle.dri_core.specs.Phases.{phase_after}
use Rattle.dri_core.specs.Privates.{Private, state_by, used_spot}
use Rattle.dri_core.specs.Worlds.{World}
use Rattle.dri_model.specs.Groups.{Groups, blend_word, depth_word, dirtied, flag_word, mode_word, same_number, same_rect, shade_word, wrap_word}
use Rattle.dri_model.specs.Heaps.{Heap, Spot}
use Rattle.dri_client.specs.Parts.{Agrees, PartState, next_command, part_after}
use Rattle.dri_client.specs.Steps.{advanced, age_after, changed_by, is_last_of}
use Rattle.dri_client.specs.Textures.{age_known, spot_used}
use Rattle.dri_client.proofs.Agreeing.{agrees_put}

-- no group becomes dirty where no value differs
dirtied_same : (s : State) (g : Groups) → dirtied s s g ≡ g
dirtied_same s g = λ i. record {
  shade = one g.shade (shade_word s.shade) i;
  depth = two g.depth (depth_word s.depth_func) (flag_word s.depth_write) i;
  blend = one g.blend (blend_word s.blend) i;
  mode = one g.mode (mode_word s.tex_mode) i;
  wrap = one g.wrap (wrap_word s.wrap) i;
  bound = kept g.bound (same_number s.bound s.bound) (number s.bound) i;
  scissor = kept g.scissor (same_rect s.scissor s.scissor) (rect s.scissor) i;
} where
  kept : (b t : Bool) → t ≡ true → (b || not t) ≡ b
  kept true t is = refl
  kept false t is = rw is refl

  one : (b : Bool) (x : ℕ) → (b || not (x == x)) ≡ b
  one b x = kept b (x == x) (grind (arith, nat_tests))

  two : (b : Bool) (x y : ℕ) → (b || not ((x == x) && (y == y))) ≡ b
  two b x y = kept b ((x == x) && (y == y)) (let e : (x == x) ≡ true = grind (arith, nat_tests) in let f : (y == y) ≡ true = grind (arith, nat_tests) in rw (e, f) refl)

  number : (o : Option ℕ) → same_number o o ≡ true
  number None = refl
  number (Some t) = grind (arith, nat_tests)

  rect : (o : Option ClipRect) → same_rect o o ≡ true
  rect None = refl
  rect (Some r) =
      let a : (r.x1 == r.x1) ≡ true = grind (arith, nat_tests) in
      let b : (r.y1 == r.y1) ≡ true = grind (arith, nat_tests) in
      let c : (r.x2 == r.x2) ≡ true = grind (arith, nat_tests) in
      let d : (r.y2 == r.y2) ≡ true = grind (arith, nat_tests) in
      rw (a, b, c, d) refl

-- what a triangle does to a part
pub changed_triangle : (p : PartState) (command : Command) (t : Triangle) (h : Heap) (local : ℕ) → command ≡ Command_is.Triangle t → local ≡ age_known h p.local (is_some (spot_used p)) → record p { local = local } ≡ changed_by command h p
changed_triangle p command t h local is known = (λ i. record p { dirty = sym (dirtied_same p.state p.dirty) i; local = known i }) ∙ ap (λ (x : Command). changed_by x h p) (sym is)

-- a command that is no setting and no triangle does nothing to it
pub changed_none : (p : PartState) (command : Command) (h : Heap) → ((x : Setting) → command ≡ Command_is.Set x → ⊥) → ((t : Triangle) → command ≡ Command_is.Triangle t → ⊥) → p ≡ changed_by command h p
changed_none p (Command_is.Set x) h unset undrawn = absurd (unset x refl)
changed_none p (Command_is.Triangle t) h unset undrawn = absurd (undrawn t refl)
changed_none p (Command_is.Clear colour depth) h unset undrawn = λ i. record p { dirty = sym (dirtied_same p.state p.dirty) i }
changed_none p Command_is.Swap h unset undrawn = λ i. record p { dirty = sym (dirtied_same p.state p.dirty) i }
changed_none p Command_is.Yield h unset undrawn = λ i. record p { dirty = sym (dirtied_same p.state p.dirty) i }
changed_none p Command_is.Die h unset undrawn = λ i. record p { dirty = sym (dirtied_same p.state p.dirty) i }

-- the age up to which a part knows the regions that a command left
age_left : (command : Command) (h : Heap) (run : Option Spot) (local : ℕ) → age_after command (heap_after h run (Some command)) run local ≡ local_after local h run (Some command)
age_left (Command_is.Triangle t) h (Some run) local = refl
age_left (Command_is.Triangle t) h None local = refl
age_left (Command_is.Set setting) h run local = refl
age_left (Command_is.Clear colour depth) h run local = refl
age_left Command_is.Swap h run local = refl
age_left Command_is.Yield h run local = refl
age_left Command_is.Die h run local = refl

-- its command ran
pub run_agrees : (s : Scene) (w : World) (c : ℕ) (p m l : PartState) (script : ClientScript) (command : Command) (h : Heap) → m ≡ changed_by command h p → l ≡ advanced script command m → next_command script p ≡ Some command
    → script ≡ script_of s c → Agrees p (w.client c) → h ≡ (after_entry s w (Entry_is.Run c p.place)).heap → Agrees l (part_after s w (Entry_is.Run c p.place) c)
run_agrees s w c p m l script command h m_is l_is next own agrees heap =
    agrees_put l w.client c (ran (script_of s c) (command_at s c p.place) (local_after q.local w.heap (used_spot q) (command_at s c p.place)) q)
    (subst (λ (n : PartState). Agrees n (ran (script_of s c) (command_at s c p.place) (local_after q.local w.heap (used_spot q) (command_at s c p.place)) q)) (sym (l_is ∙ ap (advanced script command) m_is))
    (λ i. ran (own i) (at i) (local i) (agrees i)))
  where
    q : Private
    q = w.client c

    ran : ClientScript → Option Command → ℕ → Private → Private
    ran t o age r = record r {
      place = p.place + 1;
      phase = phase_after o (is_last_of t p.place);
      state = state_by o r.state;
      dirty = dirtied r.state (state_by o r.state) r.dirty;
      local = age;
    }

    at : Some command ≡ command_at s c p.place
    at = sym next ∙ ap (λ (t : ClientScript). slice_get t.commands (pred p.place)) own

    run : spot_used p ≡ used_spot q
    run = ap used_spot agrees

    local : age_after command h (spot_used p) p.local ≡ local_after q.local w.heap (used_spot q) (command_at s c p.place)
    local = (λ i. age_after command ((heap ∙ ap (heap_after w.heap (used_spot q)) (sym at)) i) (run i) (agrees i).local) ∙ (age_left command w.heap (used_spot q) q.local ∙ ap (local_after q.local w.heap (used_spot q)) at)
