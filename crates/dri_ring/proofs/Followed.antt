-- One entry more through the ring, and the entries of a journal one after the other.
use Rattle.std.proofs.Common.{◌≡◌, ◌≤◌, ℕ, List, [], length, Err, Result, refl, ◌∙◌, sym, ap, subst, arith}
use Rattle.dri_base.proofs.PlaneLists.{plane_same}
use Rattle.dri_base.specs.Planes.{plane}
use Rattle.dri_base.specs.Ranges.{InRange}
use Rattle.dri_base.specs.declared.colour.Rgb.{Rgb}
use Rattle.dri_base.specs.declared.journal.Entry.{Entry}
use Rattle.dri_base.specs.declared.scene.Scene.{Scene}
use Rattle.dri_core.proofs.FirstBad.{bad_is_no_run}
use Rattle.dri_core.specs.EntryTable.{LegalEntry}
use Rattle.dri_core.specs.FirstBad.{IsFirstBad}
use Rattle.dri_core.specs.Runs.{HoldRun, after, client_of}
use Rattle.dri_journal.specs.Deeds.{Does}
use Rattle.dri_journal.specs.Replays.{MayTake, ReplayState, Steps, Took, world_of}
use Rattle.dri_journal.specs.declared.deed.Deed.{Deed}
use Rattle.dri_journal.specs.declared.refusal.StepFault.{StepFault}
use Rattle.dri_journal.specs.declared.refusal.StepFault.TheVariants as faults
use Rattle.dri_plane.specs.Grids.{Grid}
use Rattle.dri_replay.proofs.Lifted.{back_after, front_after, taken, with_entry}
use Rattle.dri_replay.specs.Pictures.{IsPictureOf}
use Rattle.dri_replay.specs.declared.fault.ReplayFault.{ReplayFault}
use Rattle.dri_replay.specs.declared.fault.ReplayFault.TheVariants as replay_faults
use Rattle.dri_ring.specs.Counts.{Counts, nothing_put, ring_counts}
use Rattle.dri_ring.specs.Follows.{IsAfter, IsFollowing, IsMade, counted, counted_made, planes_in, planes_made, waited}
use Rattle.dri_ring.specs.Jobs.{Planes}
use Rattle.dri_ring.specs.Replays.{IsRinged, Replays}
use Rattle.dri_ring.specs.Rings.{Agree, Has, IsOpening, IsScreen, OnlyRan, Ring, opening_planes, planes_of, settled}
use Rattle.dri_ring.specs.declared.counted.CountedRing.{CountedRing}
use Rattle.dri_ring.specs.declared.ringed.Ringed.{Ringed}
use Rattle.dri_ring.proofs.Counting.{counts_lifted, counts_more, few_counted, waited_puts}
use Rattle.dri_ring.proofs.Kept.{read_agrees}
use Rattle.dri_ring.proofs.Made.{settled_idle, sides_of}

-- a ring that followed the entries before follows this one too, once it waited where it has to, and the entry's deed was made
module _ (s : Scene) (j : List Entry) (good : InRange s) (run : HoldRun s j) (e : Entry) (deed : Deed) (legal : LegalEntry s (after s j) e) (does : Does s (after s j) e deed) where
  made_after : (n : ℕ) (ring waiting made : CountedRing) → IsAfter (record { scene = s; entries = j }) n ring → OnlyRan ring.engine waiting.engine → settled waiting.engine ≡ settled ring.engine → counted waiting ≡ waited e (counted ring) →
      IsMade (with_entry s j e) (client_of e) deed waiting made → IsAfter (with_entry s j e) n made
  made_after n ring waiting made before ran settles waits is = record {
    scene = is.scene ∙ (ap (λ (r : Ring). r.scene) ran ∙ before.scene);
    room = is.room ∙ room;
    planes = record {
      front = λ x y lx ly. then.front x y lx ly ∙ front_after s j good run e deed legal does x y lx ly;
      back = λ x y lx ly. then.back x y lx ly ∙ back_after s j good run e deed legal does x y;
    };
    counts = is.counts ∙ ((λ k. counted_made (room k) deed ((waits ∙ ap (waited e) before.counts) k)) ∙ (counts_lifted s (after s j) n e deed (ring_counts s n j) does ∙ sym (counts_more s n j e)));
  }
    where
      room : waiting.engine.room ≡ n
      room = ap (λ (r : Ring). r.room) ran ∙ before.room

      then : Agree s.width s.height (settled made.engine) (planes_made (with_entry s j e) (client_of e) deed (planes_in (after s j)))
      then = is.planes (planes_in (after s j)) (subst (λ (q : Planes). Agree s.width s.height q (planes_in (after s j))) (sym settles) before.planes)

module _ (old new : ReplayState) (e : Entry) (deed : Deed) (n : ℕ) (good : InRange old.scene) (run : HoldRun old.scene old.entries) (legal : MayTake old e) (took : Took old new e) (does : Does old.scene (world_of old) e deed) (client : n ≡ client_of e) where
  -- the ring follows
  pub follows : (room : ℕ) (ring waiting made : CountedRing) → IsAfter old room ring → OnlyRan ring.engine waiting.engine → settled waiting.engine ≡ settled ring.engine → counted waiting ≡ waited e (counted ring) → IsMade new n deed waiting made → IsAfter new room made
  follows room ring waiting made before ran settles waits is =
      subst (λ v. IsAfter v room made) (taken old new e took) (made_after old.scene old.entries good run e deed legal does room ring waiting made before ran settles waits
      (subst (λ k. IsMade (with_entry old.scene old.entries e) k deed waiting made) client (subst (λ v. IsMade v n deed waiting made) (sym (taken old new e took)) is)))

  pub scene_kept : (room : ℕ) (ring waiting : CountedRing) → IsAfter old room ring → OnlyRan ring.engine waiting.engine → waiting.engine.scene ≡ new.scene
  scene_kept room ring waiting before ran = ap (λ (r : Ring). r.scene) ran ∙ (before.scene ∙ sym took.scene)

-- the counts are no higher than the number of entries
pub few_idles : (v : ReplayState) (n : ℕ) (ring : CountedRing) → IsAfter v n ring → ring.idles ≤ length v.entries
few_idles v n ring is = omega (arith, ap (λ (k : Counts). k.idles) is.counts, (few_counted v.scene n v.entries).1)

pub few_puts : (v : ReplayState) (n : ℕ) (ring waiting : CountedRing) (e : Entry) → IsAfter v n ring → counted waiting ≡ waited e (counted ring) → waiting.puts ≤ length v.entries
few_puts v n ring waiting e is waits = omega (arith, ap (λ (k : Counts). k.puts) waits, waited_puts e (counted ring), ap (λ (k : Counts). k.puts) is.counts, (few_counted v.scene n v.entries).0)

-- an entry that wasn't taken
pub not_followed : (A : Type 0) (old new : ReplayState) (e : Entry) (n : ℕ) (ring : CountedRing) (fault : StepFault) → Steps old new e (Err fault) → IsFollowing {A = A} old new e n ring (Err fault)
not_followed A old new e n ring (faults.Refused refusal) steps = steps.0
not_followed A old new e n ring faults.OutOfMemory steps = tt

-- before the first entry
pub opened : (s : Scene) (n : ℕ) (ring : CountedRing) → IsOpening s n ring.engine → counted ring ≡ nothing_put → IsAfter (record { scene = s; entries = [] }) ring.engine.room ring
opened s n ring is none = record {
  scene = is.scene;
  room = refl;
  planes = record {
    front = λ x y lx ly. ap (λ (q : Planes). q.front x y) settles ∙ opens.front x y lx ly;
    back = λ x y lx ly. ap (λ (q : Planes). q.back x y) settles ∙ opens.back x y lx ly;
  };
  counts = none;
}
  where
    settles : settled ring.engine ≡ planes_of ring.engine
    settles = settled_idle ring.engine is.empty

    opens : Agree s.width s.height (planes_of ring.engine) (opening_planes s)
    opens = read_agrees ring.engine.front ring.engine.back ring.engine.depth s.width s.height (opening_planes s) (sides_of ring.engine s is.scene is.sides) is.planes

-- the room that is meant
pub roomed : (v : ReplayState) (n : ℕ) (ring : CountedRing) → IsAfter v n ring → IsAfter v ring.engine.room ring
roomed v n ring is = subst (λ k. IsAfter v k ring) (sym is.room) is

pub following_roomed : (v : ReplayState) (n : ℕ) (ring made : CountedRing) → ring.engine.room ≡ n → IsAfter v ring.engine.room made → IsAfter v n made
following_roomed v n ring made room is = subst (λ k. IsAfter v k made) room is

-- what is left of all entries
pub ringed_is : (v : ReplayState) (followed : CountedRing) (engine : Ring) (front : Grid Rgb) (ringed : Ringed) → IsAfter v followed.engine.room followed → HoldRun v.scene v.entries → OnlyRan followed.engine engine → planes_of engine ≡ settled followed.engine → IsScreen engine → Has engine (planes_of engine) →
    front ≡ engine.front → IsPictureOf front ringed.picture → ringed.puts ≡ followed.puts → ringed.idles ≡ followed.idles → ringed.most ≡ followed.most → IsRinged v.scene v.entries followed.engine.room ringed
ringed_is v followed engine front ringed is run ran planes screen has same picture puts idles most = record {
  run = run;
  width = picture.width ∙ (ap (λ (g : Grid Rgb). g.width) same ∙ wide);
  height = picture.height ∙ (ap (λ (g : Grid Rgb). g.height) same ∙ high);
  pixels = picture.pixels ∙ (ap (λ (g : Grid Rgb). g.pixels) same ∙ (has.shown ∙ ((λ k. plane (wide k) (high k) (planes_of engine).front) ∙ plane_same v.scene.width v.scene.height (planes_of engine).front (world_of v).front
      (λ x y lx ly. ap (λ (q : Planes). q.front x y) planes ∙ is.planes.front x y lx ly))));
  puts = puts ∙ ap (λ (k : Counts). k.puts) is.counts;
  idles = idles ∙ ap (λ (k : Counts). k.idles) is.counts;
  most = most ∙ ap (λ (k : Counts). k.most) is.counts;
}
  where
    wide : engine.front.width ≡ v.scene.width
    wide = (sides_of engine v.scene (ap (λ (r : Ring). r.scene) ran ∙ is.scene) screen).front_width

    high : engine.front.height ≡ v.scene.height
    high = (sides_of engine v.scene (ap (λ (r : Ring). r.scene) ran ∙ is.scene) screen).front_height

pub all_ringed : (s : Scene) (xs : List Entry) (n : ℕ) (v : ReplayState) (ring : CountedRing) (ringed : Ringed) → v ≡ record { scene = s; entries = xs } → ring.engine.room ≡ n → IsRinged v.scene v.entries ring.engine.room ringed → IsRinged s xs n ringed
all_ringed s xs n v ring ringed all room is = subst (λ k. IsRinged s xs k ringed) room (subst (λ (u : ReplayState). IsRinged u.scene u.entries ring.engine.room ringed) all is)

-- an answer that names an entry
pub names_bad : (s : Scene) (xs : List Entry) (room : ℕ) (r : Result Ringed ReplayFault) (entry : ℕ) → Replays s xs room r → r ≡ Err (replay_faults.NotARun entry) → IsFirstBad s xs entry
names_bad s xs room r entry replays is = subst (Replays s xs room) is replays

pub never_bad : (s : Scene) (xs : List Entry) (room : ℕ) (r : Result Ringed ReplayFault) (entry : ℕ) → Replays s xs room r → HoldRun s xs → r ≡ Err (replay_faults.NotARun entry) → ⊥
never_bad s xs room r entry replays run is = bad_is_no_run s xs entry run (names_bad s xs room r entry replays is)
