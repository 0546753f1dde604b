-- What a legal entry of a client needs of its part and of the regions, and what it makes of the regions.
use Rattle.std.proofs.Common.{◌≡◌, ◌<◌, ◌≤◌, ◌+◌, ◌-◌, ◌∙◌, ℕ, List, Bool, true, Option, Some, None, length, refl, sym, ap, subst, arith, inl}
use Rattle.std.specs.Prelude.{IfSome, IsSome, if◌then◌else◌, pred, slice_get}
use Rattle.std.proofs.lemmas.Bool.{eqb-true, true≢false}
use Rattle.std.proofs.Math.Nat.{le-div_iff_mul-le}
use Rattle.dri_base.specs.Limits.{last_age}
use Rattle.dri_base.specs.Ranges.{InRange, TextureInRange, heap_bytes}
use Rattle.dri_base.specs.Scenes.{bytes_of, command_at, commands_of, regions_for, script_of, textures_of}
use Rattle.dri_base.specs.Texels.{texture_in}
use Rattle.dri_base.specs.declared.command.Command.{Command}
use Rattle.dri_base.specs.declared.journal.Entry.{Entry}
use Rattle.dri_base.specs.declared.journal.Entry.TheVariants as Entry_is
use Rattle.dri_base.specs.declared.scene.Scene.{Scene}
use Rattle.dri_base.specs.declared.texture.Texture.{Texture}
use Rattle.dri_base.proofs.RangeLemmas.{textures_in_range, well_formed}
use Rattle.dri_base.proofs.RegionSizes.{region_size_above, region_size_within}
use Rattle.dri_client.specs.Kept.{IsKept}
use Rattle.dri_client.specs.Parts.{Agrees, PartState, next_command}
use Rattle.dri_client.specs.Textures.{spot_used}
use Rattle.dri_core.specs.Effects.{heap_after, heap_placed, run_at, spot_for}
use Rattle.dri_core.specs.EntryTable.{LegalEntry, after_entry, is_start_for}
use Rattle.dri_core.specs.Phases.{In}
use Rattle.dri_core.specs.Privates.{Private, can_draw, can_run, is_small, room_by, room_in, run_in, size_of, spot_of, textured_with, used_spot}
use Rattle.dri_core.specs.Runs.{HoldRun, IsCurrent, after, client_of}
use Rattle.dri_core.proofs.Bounds.{age_most_of_all}
use Rattle.dri_core.proofs.Packing.{IsRoom, room_is}
use Rattle.dri_core.proofs.Parts.{used_bound}
use Rattle.dri_core.proofs.RunLaws.{acting_current, intact}
use Rattle.dri_core.proofs.Sizes.{small_one}
use Rattle.dri_core.proofs.TextureSizes.{place_inside, some_bytes}
use Rattle.dri_journal.specs.Acts.{MayAct, UsesRegions, heap_by, is_quiet, own_room}
use Rattle.dri_journal.proofs.Judged.{texture_small}
use Rattle.dri_model.specs.Heaps.{Heap, Spot}
use Rattle.dri_model.specs.Shares.{is_small_for}
use Rattle.dri_texheap.specs.Placements.{placed_of}
use Rattle.dri_texheap.specs.RegionStates.{AreRegionsOf, IsInUse, IsInside, RegionState, heap_of}

pub at_least_one : (size n : ℕ) → 0 < size → 0 < n → 1 ≤ regions_for size n
at_least_one size n sized some = (le-div_iff_mul-le {k = size} {x = 1} {y = n + (size - 1)} sized).1 (omega arith)

-- the texture that a part's triangles need has bytes
pub needed_bytes : (s : Scene) (c t : ℕ) (part : PartState) → InRange s → IsKept (script_of s c) s.regions part → textured_with part.state ≡ Some t → 0 < length (bytes_of (texture_in (textures_of s c) t))
needed_bytes s c t part good kept e = by_texture (texture_in (textures_of s c) t) refl (kept.bound t (used_bound part.state.tex_mode part.state.bound t e))
  where
    by_texture : (o : Option Texture) → texture_in (textures_of s c) t ≡ o → IsSome o → 0 < length (bytes_of (texture_in (textures_of s c) t))
    by_texture None is some = absurd (cc)
    by_texture (Some p) is some =
        let range : TextureInRange (heap_bytes s) p = textures_in_range s c t p good is in
        rw is (some_bytes p.shape.format p.shape.width p.shape.height (length p.bytes) range.whole range.wide.0 range.high.0)

-- the command is the one that the entry runs, where it runs one
abbrev pub Runs : Scene → Entry → Option Command → Type 0
Runs s (Entry_is.Run c i) command = command ≡ command_at s c i
Runs s _ command = Unit {0}

can_run_some : (ready : Bool) (command : Option Command) → can_run ready command ≡ true → IsSome command
can_run_some ready None e = absurd (true≢false (sym e))
can_run_some ready (Some command) e = refl

-- a legal entry of client c after a journal, whose part is this
module _ (s : Scene) (j : List Entry) (good : InRange s) (run : HoldRun s j) (c : ℕ) (part : PartState) (agrees : Agrees part ((after s j).client c)) (kept : IsKept (script_of s c) s.regions part) (sized : part.placed.region_size ≡ s.region_size) where
  private_is : part.phase ≡ ((after s j).client c).phase
  private_is = ap (λ (q : Private). q.phase) agrees

  place_is : part.place ≡ ((after s j).client c).place
  place_is = ap (λ (q : Private). q.place) agrees

  used_is : textured_with part.state ≡ textured_with ((after s j).client c).state
  used_is = ap (λ (q : Private). textured_with q.state) agrees

  placed_is : placed_of part.placed ≡ ((after s j).client c).placed
  placed_is = ap (λ (q : Private). q.placed) agrees

  -- the part's room is that of the world
  room_same : (t : ℕ) → own_room (script_of s c) part t ≡ room_in s c ((after s j).client c) t
  room_same t = λ k. room_by (sized k) ((agrees k).levels) (size_of s c t)

  -- a texture that is placed legally stands in this run, which lies inside the regions
  stands : (t first count : ℕ) → LegalEntry s (after s j) (Entry_is.Place c t first count) → (o : Option Spot) → room_in s c ((after s j).client c) t ≡ o →
      ((spot_for o (run_at first count)).run ≡ run_at first count) × IsInside s.regions (run_at first count)
  stands t first count legal None e = (refl, place_inside s.regions (after s j).heap count first (subst (λ o. is_start_for o s.regions (after s j).heap count first ≡ true) e legal.4))
  stands t first count legal (Some spot) e = ((λ k. record { first = sym begins k; count = sym many k }), omega (arith, begins, one, below))
    where
      is : IsRoom s c t ((after s j).client c).levels spot
      is = room_is s c ((after s j).client c) t spot e

      begins : first ≡ spot.run.first
      begins = eqb-true first spot.run.first (subst (λ o. is_start_for o s.regions (after s j).heap count first ≡ true) e legal.4)

      one : count ≡ 1
      one = legal.3 ∙ small_one s.region_size (size_of s c t) is.small

      many : count ≡ spot.run.count
      many = one ∙ sym is.one

      below : spot.run.first < s.regions
      below = kept.inside.shared spot.run.first spot.block (ap (λ (q : Private). q.levels spot.run.first) agrees ∙ is.level)

  pub may_act : (e : Entry) → client_of e ≡ c → is_quiet e ≡ true → LegalEntry s (after s j) e → MayAct (script_of s c) s.regions part e
  may_act (Entry_is.Light d) own quiet legal = private_is ∙ sym (ap (λ n. ((after s j).client n).phase) own) ∙ legal.0
  may_act (Entry_is.Kernel d found) own quiet legal = private_is ∙ sym (ap (λ n. ((after s j).client n).phase) own) ∙ legal.0
  may_act (Entry_is.Stale d) own quiet legal = private_is ∙ sym (ap (λ n. ((after s j).client n).phase) own) ∙ legal
  may_act (Entry_is.Info d) own quiet legal = private_is ∙ sym (ap (λ n. ((after s j).client n).phase) own) ∙ legal.0
  may_act (Entry_is.Place d t first count) own quiet legal = record {
    textured = used_is ∙ mine.1;
    spot = (λ k. (spot_for (room_same t k) (run_at first count)).run) ∙ here.0;
    inside = here.1;
    some = omega (arith, mine.3, at_least_one s.region_size (size_of s c t) (region_size_above s.region_size good.card.sized) (needed_bytes s c t part good kept (used_is ∙ mine.1)));
  }
    where
      mine : LegalEntry s (after s j) (Entry_is.Place c t first count)
      mine = subst (λ n. LegalEntry s (after s j) (Entry_is.Place n t first count)) own legal

      here : ((spot_for (room_in s c ((after s j).client c) t) (run_at first count)).run ≡ run_at first count) × IsInside s.regions (run_at first count)
      here = stands t first count mine (room_in s c ((after s j).client c) t) refl
  may_act (Entry_is.Run d i) own quiet legal = (at, there)
    where
      at : i ≡ part.place
      at = legal.1 ∙ ap (λ n. ((after s j).client n).place) own ∙ sym place_is

      there : IsSome (next_command (script_of s c) part)
      there = subst (λ n. IsSome (slice_get (commands_of s c) (pred n))) at (subst (λ n. IsSome (command_at s n i)) own (can_run_some (can_draw ((after s j).client d)) (command_at s d i) legal.2))
  may_act (Entry_is.Emit d groups) own quiet legal = tt
  may_act (Entry_is.Leave d) own quiet legal = tt
  may_act (Entry_is.Change i) own quiet legal = tt
  may_act (Entry_is.Gone d) own quiet legal = tt

  pub ran_command : (e : Entry) → client_of e ≡ c → LegalEntry s (after s j) e → Runs s e (next_command (script_of s c) part)
  ran_command (Entry_is.Run d i) own legal = (λ k. slice_get (commands_of s c) (pred (place_is k))) ∙ (λ k. slice_get (commands_of s (sym own k)) (pred (((after s j).client (sym own k)).place))) ∙ (λ k. slice_get (commands_of s d) (pred (sym legal.1 k)))
  ran_command (Entry_is.Light d) own legal = tt
  ran_command (Entry_is.Kernel d found) own legal = tt
  ran_command (Entry_is.Stale d) own legal = tt
  ran_command (Entry_is.Info d) own legal = tt
  ran_command (Entry_is.Emit d groups) own legal = tt
  ran_command (Entry_is.Leave d) own legal = tt
  ran_command (Entry_is.Place d t first count) own legal = tt
  ran_command (Entry_is.Change i) own legal = tt
  ran_command (Entry_is.Gone d) own legal = tt

  module _ (regions : RegionState) (are : AreRegionsOf s (after s j).heap regions) where
    pub age_small : (heap_of regions).global ≤ last_age
    age_small = let same : (heap_of regions).global ≡ (after s j).heap.global = ap (λ (h : Heap). h.global) are.ages in omega (arith, same, age_most_of_all s j good run)

    -- what a triangle uses is inside and in use
    in_use : (((after s j).client c).phase ≡ In) → (o : Option ℕ) (u : Option Spot) → spot_of (placed_of part.placed) o ≡ u → IfSome (run_in u) (IsInside regions.count) × IfSome (run_in u) (IsInUse (heap_of regions))
    in_use acts None None e = (tt, tt)
    in_use acts None (Some r) e = absurd (cc)
    in_use acts (Some t) None e = (tt, tt)
    in_use acts (Some t) (Some r) e = (subst (λ n. IsInside n r.run) (sym are.count) (subst (λ (v : Option Spot). IfSome v (λ spot. IsInside s.regions spot.run)) e (kept.inside.placed t)), held)
      where
        current : IsCurrent s (after s j) c
        current = acting_current s j good run c (inl acts)

        live : ((after s j).client c).placed t ≡ Some r
        live = ap (λ (f : ℕ → Option Spot). f t) (sym placed_is) ∙ e

        held : IsInUse (heap_of regions) r.run
        held = subst (λ (h : Heap). IsInUse h r.run) (sym are.ages) ((intact s j good run).used c t r (live, λ k i. subst (λ n. (after s j).heap.age k ≤ n) (sym current.local) ((intact s j good run).ages k)))

    pub uses : (e : Entry) → client_of e ≡ c → is_quiet e ≡ true → LegalEntry s (after s j) e → UsesRegions (script_of s c) part regions e
    uses (Entry_is.Place d t first count) own quiet legal = record {
      sized = rw sized (region_size_above s.region_size good.card.sized);
      small = rw sized (region_size_within s.region_size good.card.sized).1;
      fit = texture_small s c t good;
      needed = mine.3 ∙ (λ k. regions_for (sym sized k) (size_of s c t));
      some = some;
      few = few;
      age = age_small;
      start = (λ k. is_start_for (room_same t k) (are.count k) (are.ages k) count first) ∙ mine.4;
    }
      where
        mine : LegalEntry s (after s j) (Entry_is.Place c t first count)
        mine = subst (λ n. LegalEntry s (after s j) (Entry_is.Place n t first count)) own legal

        some : 1 ≤ count
        some = rw mine.3 (at_least_one s.region_size (size_of s c t) (region_size_above s.region_size good.card.sized) (needed_bytes s c t part good kept (used_is ∙ mine.1)))

        few : count ≤ regions.count
        few = rw (mine.3, are.count) ((well_formed s good).heap c t)
    uses (Entry_is.Run d i) own quiet legal = let both = in_use (sym (ap (λ n. ((after s j).client n).phase) own) ∙ legal.0) (textured_with part.state) (spot_used part) refl in (both.0, both.1, age_small)
    uses (Entry_is.Light d) own quiet legal = tt
    uses (Entry_is.Kernel d found) own quiet legal = tt
    uses (Entry_is.Stale d) own quiet legal = tt
    uses (Entry_is.Info d) own quiet legal = tt
    uses (Entry_is.Emit d groups) own quiet legal = tt
    uses (Entry_is.Leave d) own quiet legal = tt
    uses (Entry_is.Change i) own quiet legal = tt
    uses (Entry_is.Gone d) own quiet legal = tt

    -- the regions after it
    pub used : (e : Entry) (new : RegionState) → client_of e ≡ c → is_quiet e ≡ true → LegalEntry s (after s j) e → new.count ≡ regions.count →
        heap_of new ≡ heap_by (script_of s c) part regions.count (heap_of regions) e → AreRegionsOf s (after_entry s (after s j) e).heap new
    used e new own quiet legal count is = record { count = count ∙ are.count; ages = is ∙ (λ i. heap_by (script_of s c) part (are.count i) (are.ages i) e) ∙ after_is e own quiet legal }
      where
        after_is : (e : Entry) → client_of e ≡ c → is_quiet e ≡ true → LegalEntry s (after s j) e → heap_by (script_of s c) part s.regions (after s j).heap e ≡ (after_entry s (after s j) e).heap
        after_is (Entry_is.Place d t first count) own quiet legal =
            (λ k. heap_placed (room_same t k) (is_small_for (sized k) (size_of s c t)) s.regions (after s j).heap (run_at first count))
            ∙ ap (λ n. heap_placed (room_in s n ((after s j).client n) t) (is_small s n t) s.regions (after s j).heap (run_at first count)) (sym own)
        after_is (Entry_is.Run d i) own quiet legal = λ k. heap_after (after s j).heap (spots k) (commands k)
          where
            spots : spot_used part ≡ used_spot ((after s j).client d)
            spots = ap (λ (q : Private). used_spot q) agrees ∙ sym (ap (λ n. used_spot ((after s j).client n)) own)

            commands : next_command (script_of s c) part ≡ command_at s d i
            commands = ran_command (Entry_is.Run d i) own legal
        after_is (Entry_is.Light d) own quiet legal = refl
        after_is (Entry_is.Kernel d found) own quiet legal = refl
        after_is (Entry_is.Stale d) own quiet legal = refl
        after_is (Entry_is.Info d) own quiet legal = refl
        after_is (Entry_is.Emit d groups) own quiet legal = refl
        after_is (Entry_is.Leave d) own quiet legal = refl
        after_is (Entry_is.Change i) own quiet legal = absurd (true≢false (sym quiet))
        after_is (Entry_is.Gone d) own quiet legal = absurd (true≢false (sym quiet))
