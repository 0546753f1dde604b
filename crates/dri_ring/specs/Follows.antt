-- An engine that follows a replay: what each deed makes of what its planes come to, and what is counted.
use Rattle.std.specs.Prelude.{◌≡◌, ℕ, List, [], length, Result, Ok, Err, Bool, true, false}
use Rattle.dri_base.specs.Ranges.{TriangleInRange}
use Rattle.dri_base.specs.declared.colour.Pixel.{Pixel}
use Rattle.dri_base.specs.declared.colour.Rgb.{Rgb}
use Rattle.dri_base.specs.declared.journal.Entry.{Entry}
use Rattle.dri_base.specs.declared.journal.Entry.TheVariants as Entry_is
use Rattle.dri_base.specs.declared.shape.Rect.{Rect}
use Rattle.dri_base.specs.declared.shape.Triangle.{Triangle}
use Rattle.dri_clips.specs.Paints.{filled}
use Rattle.dri_clips.specs.declared.touched.Touched.{Touched}
use Rattle.dri_core.specs.Worlds.{World}
use Rattle.dri_draw.specs.Drawing.{in_clips}
use Rattle.dri_journal.specs.Replays.{MayTake, ReplayState, Took, world_of}
use Rattle.dri_journal.specs.declared.deed.Deed.{Deed}
use Rattle.dri_journal.specs.declared.deed.Deed.TheVariants as Deed_is
use Rattle.dri_journal.specs.declared.refusal.StepFault.{StepFault}
use Rattle.dri_journal.specs.declared.refusal.StepFault.TheVariants as faults
use Rattle.dri_replay.specs.Makings.{back_made, carried_along, clips_now, front_made}
use Rattle.dri_ring.specs.Counts.{Counts, idled, put_once, ring_counts}
use Rattle.dri_ring.specs.Jobs.{AreWithin, IsDrawable, IsGood, Planes, back_after, front_after}
use Rattle.dri_ring.specs.Rings.{Agree, Ring, settled}
use Rattle.dri_ring.specs.declared.counted.CountedRing.{CountedRing}
use Rattle.dri_ring.specs.declared.job.Job.{Job}

-- how many jobs wait, and what was counted
abbrev pub counted : CountedRing → Counts
counted c = record { pending = length c.engine.pending; puts = c.puts; idles = c.idles; most = c.most }

-- a world's front and back
abbrev pub planes_in : World → Planes
planes_in w = record { front = w.front; back = w.back }

-- once all jobs ran the planes are those that the replay's entries leave, and what is counted is what they count, with room for so many
pub record IsAfter (v : ReplayState) (most : ℕ) (c : CountedRing) : Type 0 where
  pub scene : c.engine.scene ≡ v.scene
  pub room : c.engine.room ≡ most
  pub planes : Agree v.scene.width v.scene.height (settled c.engine) (planes_in (world_of v))
  pub counts : counted c ≡ ring_counts v.scene most v.entries

-- client c's clips after the entries, as a job takes them: within the screen
pub record AreClipsNow (v : ReplayState) (c : ℕ) (clips : List Rect) : Type 0 where
  pub within : AreWithin v.scene.width v.scene.height clips
  pub has : (x y : ℕ) → in_clips clips x y ≡ clips_now v c x y

-- a triangle of client c, in its clips, drawn with its own state and the texture that it bound
pub record IsTriangleJob (v : ReplayState) (c : ℕ) (t : Triangle) (job : Job) : Type 0 where
  pub good : IsGood v.scene job
  pub drawable : TriangleInRange t → IsDrawable job
  pub front : (f : ℕ → ℕ → Pixel) (shown : ℕ → ℕ → Rgb) (x y : ℕ) → front_after job f shown x y ≡ front_made v c (Deed_is.Triangle t) f shown x y
  pub back : (f : ℕ → ℕ → Pixel) (x y : ℕ) → back_after v.scene job f x y ≡ back_made v c (Deed_is.Triangle t) f x y

-- the planes after a new stack: what is carried came along, and then front was painted
abbrev pub shown_by : Touched → Planes → Planes
shown_by touched p = record { front = filled touched.paints (carried_along touched.carry p.front); back = carried_along touched.carry p.back }

-- the planes after a deed of client c
abbrev pub planes_made : ReplayState → ℕ → Deed → Planes → Planes
planes_made v c deed p = record { front = front_made v c deed p.back p.front; back = back_made v c deed p.back }

-- what is counted after it: drawing is put
abbrev pub counted_made : ℕ → Deed → Counts → Counts
counted_made room Deed_is.Nothing k = k
counted_made room (Deed_is.Touched touched) k = k
counted_made room deed k = put_once room k

-- a deed of client c was put or made, and counted
pub record IsMade (v : ReplayState) (c : ℕ) (deed : Deed) (old new : CountedRing) : Type 0 where
  pub scene : new.engine.scene ≡ old.engine.scene
  pub room : new.engine.room ≡ old.engine.room
  pub planes : (p : Planes) → Agree v.scene.width v.scene.height (settled old.engine) p → Agree v.scene.width v.scene.height (settled new.engine) (planes_made v c deed p)
  pub counts : counted new ≡ counted_made old.engine.room deed (counted old)

-- the entry is a change of the windows, or a death
abbrev pub waits : Entry → Bool
waits (Entry_is.Change i) = true
waits (Entry_is.Gone c) = true
waits e = false

-- what is counted before what it does: the ring was made idle
abbrev pub waited : Entry → Counts → Counts
waited (Entry_is.Change i) k = idled k
waited (Entry_is.Gone c) k = idled k
waited e k = k

-- what a new stack leaves finds nothing waiting
abbrev pub FindsIdle : Deed → Ring → Type 0
FindsIdle (Deed_is.Touched touched) v = v.pending ≡ []
FindsIdle deed v = Unit {0}

-- a legal entry was taken, and the engine follows; another is refused
abbrev pub IsFollowing : {A : Type 0} → ReplayState → ReplayState → Entry → ℕ → CountedRing → Result A StepFault → Type 0
IsFollowing old new e most ring (Ok x) = MayTake old e × Took old new e × IsAfter new most ring
IsFollowing old new e most ring (Err (faults.Refused refusal)) = MayTake old e → ⊥
IsFollowing old new e most ring (Err faults.OutOfMemory) = Unit {0}
