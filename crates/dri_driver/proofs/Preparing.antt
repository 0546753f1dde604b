-- Making ready for a triangle.
use Rattle.std.proofs.Common.{◌≡◌, ◌≤◌, ◌+◌, ◌*◌, ℕ, List, [], ◌∷◌, ◌++◌, Bool, true, false, Option, Some, None, arith, refl, sym, ap, ◌∙◌, subst, inl}
use Rattle.std.specs.Prelude.{◌==◌, if◌then◌else◌, is_some, pred}
use Rattle.std.proofs.lemmas.Bool.{and_parts}
use Rattle.std.proofs.lemmas.Bool.Decides.{nat_tests}
use Rattle.dri_base.specs.Ranges.{InRange}
use Rattle.dri_base.specs.declared.journal.Entry.{Entry}
use Rattle.dri_base.specs.declared.journal.Entry.TheVariants as Entry_is
use Rattle.dri_base.specs.declared.journal.Event.TheVariants as Event_is
use Rattle.dri_base.specs.declared.scene.Scene.{Scene}
use Rattle.dri_base.specs.declared.state.State.{State}
use Rattle.dri_base.specs.declared.texture.BoundTexture.{BoundTexture}
use Rattle.dri_core.specs.Effects.{freed_by, placed_by, run_at, spot_for}
use Rattle.dri_core.specs.EntryTable.{LegalEntry, after_entry, is_start_for}
use Rattle.dri_core.specs.Phases.{In}
use Rattle.dri_core.specs.Runs.{HoldRun, Intact, IsCurrent}
use Rattle.dri_core.proofs.Laws.{LegalEntries-append}
use Rattle.dri_core.proofs.Parts.{put_here}
use Rattle.dri_core.proofs.RunLaws.{acting_current, intact}
use Rattle.dri_model.specs.Heaps.{Run, Spot, classes_for, lowest_place}
use Rattle.dri_client.specs.Parts.{Agrees, PartState, part_after, private_of}
use Rattle.dri_client.specs.Textures.{missing_texture}
use Rattle.dri_client.proofs.Owned.{missing_parts}
use Rattle.dri_texheap.specs.Placements.{placed_of}
use Rattle.dri_texheap.specs.RegionStates.{AreRegionsOf, RegionState, heap_of}
use Rattle.dri_core.specs.Privates.{Private, bound_texture, is_ready, is_ready_for, is_triangle, own_registers, placed_after, room_in, textured_with}
use Rattle.dri_core.specs.Turns.{emit_turn, start_for, triangle_turn}
use Rattle.dri_core.specs.Worlds.{World, opening}
use Rattle.dri_core.proofs.EventTurns.{at_triangle, ready_turn}
use Rattle.dri_model.specs.Groups.{Groups, bits, is_empty, no_groups}
use Rattle.dri_model.specs.Words.{emitted_words, register_words}
use Rattle.dri_shared.specs.Sides.{Makes, MayMake, client_at, part_at, value_at, world_at}
use Rattle.dri_shared.specs.States.{Added, SharedState}
use Rattle.dri_shared.specs.declared.client_side.ClientSide.{ClientSide}
use Rattle.dri_driver.specs.Acts.{IsStep}
use Rattle.dri_driver.specs.Clients.{ClientState, kept_of, next_command, part_of}
use Rattle.dri_driver.specs.Fits.{Fits}
use Rattle.dri_driver.specs.Needs.{commands_ahead, entries_left, entries_to_run, left_in}
use Rattle.dri_driver.proofs.Counts.{ahead_same}
use Rattle.dri_driver.proofs.Fitting.{IsSameBut, emit_copies, made, place_copies, step_made, stepped, world_added}

-- the words are those that the side wants
pub words_are : (k : ClientState) (a : ClientSide) (words : List ℕ) (groups : Groups) (state : State) (bound : Option BoundTexture) → client_at a ≡ k.number → Fits k (value_at a) → words ≡ emitted_words groups state bound → state ≡ k.state → bound ≡ bound_texture k.scene k.number (part_of k)
    → words ≡ register_words groups (own_registers (value_at a).scene (client_at a) (part_at a))
words_are k a words groups state bound here fits is state_is bound_is =
    is ∙ ((λ i. emitted_words groups (state_is i) (bound_is i)) ∙ (λ i. register_words groups (own_registers (fits.scene i) (sym here i) (part i))))
  where
    part : part_of k ≡ part_at a
    part = fits.part ∙ ap (world_at a).client (sym here)

-- the run of a shorter journal
run_before : (v u : SharedState) (e : Entry) → Added v u e → HoldRun u.scene u.journal → HoldRun v.scene v.journal
run_before v u e added run = (LegalEntries-append v.scene (opening v.scene) v.journal (e ∷ []) (subst (λ s. HoldRun s (v.journal ++ e ∷ [])) added.scene (subst (HoldRun u.scene) added.journal run))).0

two_most : (p : Private) → is_ready p ≡ true → entries_to_run p ≤ 2
two_most p ready = rw ready (by_dirty (is_empty p.dirty))
  where
    by_dirty : (b : Bool) → (if b then 1 else 2) ≤ 2
    by_dirty true = omega arith
    by_dirty false = omega arith

module _ (k : ClientState) (a b : ClientSide) (fits : Fits k (value_at a)) (acts : k.phase ≡ In) (triangle : is_triangle (next_command k) ≡ true) where
  abbrev w : World
  w = world_at a

  -- the card has learnt what was dirty
  pub emit_step : (l : ClientState) (e : Entry) → is_ready (part_of k) ≡ true → is_empty k.dirty ≡ false → IsSameBut k l → kept_of l ≡ record (kept_of k) { dirty = no_groups } → Agrees (kept_of l) (part_after k.scene w (Entry_is.Emit k.number (bits k.dirty)) k.number)
      → e ≡ Entry_is.Emit k.number (bits k.dirty) → Makes a b (Entry_is.Emit k.number (bits k.dirty)) → IsStep k l a b e
  emit_step l e ready dirty same is agrees entry makes = subst (λ x. IsStep k l a b x) (sym entry) (record {
    event = at_triangle k.scene w k.number (next_command k) triangle ∙ (ready_turn k.scene w k.number (textured_with (w.client k.number).state) (ap is_ready (sym fits.part) ∙ ready)
        ∙ (ap (λ p. emit_turn p k.number) (sym fits.part) ∙ rw dirty refl));
    own = refl;
    made = step_made k l a b (Entry_is.Emit k.number (bits k.dirty)) fits makes same (emit_copies k.scene w k.number (bits k.dirty)) agrees;
    acting = inl (phase ∙ acts);
    falls = omega (arith, before, after, ahead_same k l same.same.scene same.same.number (ap (λ (p : PartState). p.place) is));
  })
    where
      phase : l.phase ≡ k.phase
      phase = ap (λ (p : PartState). p.phase) is

      before : entries_left k ≡ 2 + (3 * pred (commands_ahead k) + 1)
      before = (λ i. left_in (acts i) (commands_ahead k) (entries_to_run (part_of k))) ∙ ap (λ n. n + (3 * pred (commands_ahead k) + 1)) two
        where
          two : entries_to_run (part_of k) ≡ 2
          two = rw (ready, dirty) refl

      after : entries_left l ≡ 1 + (3 * pred (commands_ahead l) + 1)
      after = (λ i. left_in ((phase ∙ acts) i) (commands_ahead l) (entries_to_run (part_of l))) ∙ ap (λ n. n + (3 * pred (commands_ahead l) + 1)) one
        where
          bare : PartState → Private
          bare p = private_of p (part_of l).copy (part_of l).origin

          one : entries_to_run (part_of l) ≡ 1
          one = ap (λ (p : PartState). entries_to_run (bare p)) is ∙ rw ready refl

  -- a texture that it needs is placed
  module _ (t : ℕ) (run : Run) (regions : RegionState) (here : client_at a ≡ k.number) (good : InRange k.scene) (holds : HoldRun (value_at b).scene (value_at b).journal) (missing : missing_texture (kept_of k) ≡ Some t)
      (may : MayMake a (Entry_is.Place (client_at a) t run.first run.count)) (makes : Makes a b (Entry_is.Place (client_at a) t run.first run.count)) where
    pub legal : LegalEntry k.scene w (Entry_is.Place k.number t run.first run.count)
    legal = subst (λ s. LegalEntry s w (Entry_is.Place k.number t run.first run.count)) (sym fits.scene) (subst (λ n. MayMake a (Entry_is.Place n t run.first run.count)) here may)

    before_run : HoldRun (value_at a).scene (value_at a).journal
    before_run = run_before (value_at a) (value_at b) (Entry_is.Place (client_at a) t run.first run.count) makes.added holds

    good_there : InRange (value_at a).scene
    good_there = subst InRange fits.scene good

    pub whole_there : Intact k.scene w
    whole_there = subst (λ s. Intact s w) (sym fits.scene) (intact (value_at a).scene (value_at a).journal good_there before_run)

    pub current_there : IsCurrent k.scene w k.number
    current_there = subst (λ s. IsCurrent s w k.number) (sym fits.scene) (acting_current (value_at a).scene (value_at a).journal good_there before_run k.number (inl (ap (λ (p : Private). p.phase) (sym fits.part) ∙ acts)))

    pub regions_there : heap_of regions ≡ (world_at b).heap → regions.count ≡ (value_at b).scene.regions → AreRegionsOf k.scene (after_entry k.scene w (Entry_is.Place k.number t run.first run.count)).heap regions
    regions_there heap count = record {
      count = count ∙ ap (λ (s : Scene). s.regions) (makes.added.scene ∙ sym fits.scene);
      ages = heap ∙ (ap (λ (x : World). x.heap) (world_added (value_at a) (value_at b) (Entry_is.Place (client_at a) t run.first run.count) makes.added) ∙ (λ i. (after_entry (sym fits.scene i) w (Entry_is.Place (here i) t run.first run.count)).heap));
    }

    pub used : textured_with k.state ≡ Some t
    used = (missing_parts (placed_of k.placed) (textured_with k.state) t missing).0

    pub place_step : (l : ClientState) (e : Entry) → IsSameBut k l → Agrees (kept_of l) (part_after k.scene w (Entry_is.Place k.number t run.first run.count) k.number) → e ≡ Entry_is.Place k.number t run.first run.count → IsStep k l a b e
    place_step l e same agrees entry = subst (λ x. IsStep k l a b x) (sym entry) (record {
      event = at_triangle k.scene w k.number (next_command k) triangle ∙ (ap (triangle_turn k.scene w k.number) legal.1
          ∙ rw legal.2 (ap (λ n. Some (Event_is.Place k.number t (start_for (room_in k.scene k.number (w.client k.number) t) k.scene.regions w.heap n) n)) (sym legal.3) ∙ ap (λ f. Some (Event_is.Place k.number t f run.count)) (sym at_start)));
      own = refl;
      made = made k l a b (Entry_is.Place k.number t run.first run.count) fits (subst (λ n. Makes a b (Entry_is.Place n t run.first run.count)) here makes) same.same part;
      acting = inl (phase ∙ acts);
      falls = omega (arith, before, after, two_most (part_of l) ready, ahead_same k l same.same.scene same.same.number place);
    })
      where
        at_start : run.first ≡ start_for (room_in k.scene k.number (w.client k.number) t) k.scene.regions w.heap run.count
        at_start = by_room (room_in k.scene k.number (w.client k.number) t) legal.4
          where
            same_number : (x y : ℕ) → (x == y) ≡ true → x ≡ y
            same_number x y is = grind (arith, nat_tests)

            by_room : (o : Option Spot) → is_start_for o k.scene.regions w.heap run.count run.first ≡ true → run.first ≡ start_for o k.scene.regions w.heap run.count
            by_room None is = same_number _ _ (and_parts (run.first == lowest_place k.scene.regions w.heap run.count (classes_for k.scene.regions w.heap run.count)) _ is).0
            by_room (Some room) is = same_number _ _ is

        part : part_of l ≡ part_after k.scene w (Entry_is.Place k.number t run.first run.count) k.number
        part = stepped k l w (Entry_is.Place k.number t run.first run.count) fits.part same.clips same.origin (place_copies k.scene w k.number t run.first run.count) agrees

        placed : part_of l ≡ placed_by k.scene w k.number t run.first run.count
        placed = part ∙ put_here w.client k.number (placed_by k.scene w k.number t run.first run.count)

        place : l.place ≡ k.place
        place = ap (λ (p : Private). p.place) placed ∙ ap (λ (p : Private). p.place) (sym fits.part)

        phase : l.phase ≡ k.phase
        phase = ap (λ (p : Private). p.phase) placed ∙ ap (λ (p : Private). p.phase) (sym fits.part)

        ready : is_ready (part_of l) ≡ true
        ready = ap is_ready placed ∙ (ap (is_ready_for (placed_after (w.client k.number).placed (freed_by (room_in k.scene k.number (w.client k.number) t) k.scene.regions w.heap run.count) t (spot_for (room_in k.scene k.number (w.client k.number) t) (run_at run.first run.count)))) legal.1 ∙ here_it_is)
          where
            here_it_is : is_some (placed_after (w.client k.number).placed (freed_by (room_in k.scene k.number (w.client k.number) t) k.scene.regions w.heap run.count) t (spot_for (room_in k.scene k.number (w.client k.number) t) (run_at run.first run.count)) t) ≡ true
            here_it_is = let same : (t == t) ≡ true = grind (arith, nat_tests) in rw same refl

        before : entries_left k ≡ 3 + (3 * pred (commands_ahead k) + 1)
        before = (λ i. left_in (acts i) (commands_ahead k) (entries_to_run (part_of k))) ∙ ap (λ n. n + (3 * pred (commands_ahead k) + 1)) three
          where
            parts : (textured_with k.state ≡ Some t) × (placed_of k.placed t ≡ None)
            parts = missing_parts (placed_of k.placed) (textured_with k.state) t missing

            unready : is_ready (part_of k) ≡ false
            unready = ap (is_ready_for (placed_of k.placed)) parts.0 ∙ ap is_some parts.1

            three : entries_to_run (part_of k) ≡ 3
            three = rw unready refl

        after : entries_left l ≡ entries_to_run (part_of l) + (3 * pred (commands_ahead l) + 1)
        after = λ i. left_in ((phase ∙ acts) i) (commands_ahead l) (entries_to_run (part_of l))
