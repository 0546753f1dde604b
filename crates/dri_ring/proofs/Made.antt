-- What a put, and what a new stack, make of what the planes come to, in the words of the replay.
use Rattle.std.proofs.Common.{◌≡◌, ℕ, List, [], length, if◌then◌else◌, refl, ◌∙◌, ap, subst}
use Rattle.dri_base.specs.declared.colour.Pixel.{Pixel}
use Rattle.dri_base.specs.declared.colour.Rgb.{Rgb}
use Rattle.dri_base.specs.declared.scene.Scene.{Scene}
use Rattle.dri_base.specs.declared.shape.Rect.{Rect}
use Rattle.dri_base.specs.declared.shape.Triangle.{Triangle}
use Rattle.dri_clips.specs.declared.touched.Touched.{Touched}
use Rattle.dri_journal.specs.Replays.{ReplayState}
use Rattle.dri_journal.specs.declared.deed.Deed.{Deed}
use Rattle.dri_journal.specs.declared.deed.Deed.TheVariants as Deed_is
use Rattle.dri_replay.specs.Makings.{back_made, front_made}
use Rattle.dri_ring.specs.Follows.{AreClipsNow, IsMade, IsTriangleJob, counted, counted_made, planes_made, shown_by}
use Rattle.dri_ring.specs.Jobs.{Planes, back_after, effect, front_after}
use Rattle.dri_ring.specs.Rings.{Agree, Has, HaveSides, IsScreen, OnlyCarried, OnlyRan, Ring, after_jobs, planes_of, settled}
use Rattle.dri_ring.specs.declared.counted.CountedRing.{CountedRing}
use Rattle.dri_ring.specs.declared.job.Job.{Job}
use Rattle.dri_ring.specs.declared.job.Job.TheVariants as Job_is
use Rattle.dri_ring.proofs.Kept.{effect_agrees, read_agrees, shows_agreeing}

-- nothing is done
pub nothing_made : (v : ReplayState) (c : ℕ) (ring : CountedRing) → IsMade v c Deed_is.Nothing ring ring
nothing_made v c ring = record { scene = refl; room = refl; planes = λ p agree. record { front = agree.front; back = agree.back }; counts = refl }

module _ (v : ReplayState) (c : ℕ) (old new : CountedRing) (job : Job) (scene : old.engine.scene ≡ v.scene) (settles : settled new.engine ≡ effect old.engine.scene (settled old.engine) job) (ran : OnlyRan old.engine new.engine) where
  -- a job that makes of the planes what a deed makes of them
  put_made : (deed : Deed) → ((f : ℕ → ℕ → Pixel) (shown : ℕ → ℕ → Rgb) (x y : ℕ) → front_after job f shown x y ≡ front_made v c deed f shown x y) → ((f : ℕ → ℕ → Pixel) (x y : ℕ) → back_after v.scene job f x y ≡ back_made v c deed f x y) →
      counted new ≡ counted_made old.engine.room deed (counted old) → IsMade v c deed old new
  put_made deed front back counts = record { scene = ap (λ (r : Ring). r.scene) ran; room = ap (λ (r : Ring). r.room) ran; planes = planes; counts = counts }
    where
      now : settled new.engine ≡ effect v.scene (settled old.engine) job
      now = settles ∙ ap (λ (s : Scene). effect s (settled old.engine) job) scene

      planes : (p : Planes) → Agree v.scene.width v.scene.height (settled old.engine) p → Agree v.scene.width v.scene.height (settled new.engine) (planes_made v c deed p)
      planes p agree =
          let made = effect_agrees v.scene v.scene.width v.scene.height job (settled old.engine) p agree in
          record {
            front = λ x y lx ly. ap (λ (q : Planes). q.front x y) now ∙ (made.front x y lx ly ∙ front p.back p.front x y);
            back = λ x y lx ly. ap (λ (q : Planes). q.back x y) now ∙ (made.back x y lx ly ∙ back p.back x y);
          }

  pub triangle_made : (t : Triangle) → IsTriangleJob v c t job → counted new ≡ counted_made old.engine.room (Deed_is.Triangle t) (counted old) → IsMade v c (Deed_is.Triangle t) old new
  triangle_made t is counts = put_made (Deed_is.Triangle t) is.front is.back counts

pub clear_made : (v : ReplayState) (c : ℕ) (old new : CountedRing) (clips : List Rect) (colour : Rgb) (depth : ℕ) → old.engine.scene ≡ v.scene → settled new.engine ≡ effect old.engine.scene (settled old.engine) (Job_is.Clear clips colour depth) → OnlyRan old.engine new.engine →
    AreClipsNow v c clips → counted new ≡ counted_made old.engine.room (Deed_is.Clear colour depth) (counted old) → IsMade v c (Deed_is.Clear colour depth) old new
clear_made v c old new clips colour depth scene settles ran are counts =
    put_made v c old new (Job_is.Clear clips colour depth) scene settles ran (Deed_is.Clear colour depth) (λ f shown x y. refl) (λ f x y k. if are.has x y k then record { colour = colour; depth = depth } else f x y) counts

pub swap_made : (v : ReplayState) (c : ℕ) (old new : CountedRing) (clips : List Rect) → old.engine.scene ≡ v.scene → settled new.engine ≡ effect old.engine.scene (settled old.engine) (Job_is.Swap clips) → OnlyRan old.engine new.engine →
    AreClipsNow v c clips → counted new ≡ counted_made old.engine.room Deed_is.Swap (counted old) → IsMade v c Deed_is.Swap old new
swap_made v c old new clips scene settles ran are counts =
    put_made v c old new (Job_is.Swap clips) scene settles ran Deed_is.Swap (λ f shown x y k. if are.has x y k then (f x y).colour else shown x y) (λ f x y. refl) counts

-- where nothing waits the planes are what they come to
pub settled_idle : (v : Ring) → v.pending ≡ [] → settled v ≡ planes_of v
settled_idle v idle = ap (λ (jobs : List Job). after_jobs v.scene jobs (planes_of v)) idle

-- the sides, of the replay's screen
pub sides_of : (v : Ring) (s : Scene) → v.scene ≡ s → IsScreen v → HaveSides v.front v.back v.depth s.width s.height
sides_of v s same is = subst (λ (t : Scene). HaveSides v.front v.back v.depth t.width t.height) same is

-- what a new stack leaves is shown
pub show_made : (v : ReplayState) (c : ℕ) (touched : Touched) (old : CountedRing) (engine : Ring) → old.engine.scene ≡ v.scene → old.engine.pending ≡ [] → IsScreen old.engine → Has old.engine (planes_of old.engine) → IsScreen engine → OnlyCarried old.engine engine →
    ((p : Planes) → Has old.engine p → Has engine (shown_by touched p)) → IsMade v c (Deed_is.Touched touched) old (record old { engine = engine })
show_made v c touched old engine scene idle screen has still carried shows = record {
  scene = same;
  room = ap (λ (r : Ring). r.room) carried;
  planes = planes;
  counts = λ k. record { pending = length (waiting k); puts = old.puts; idles = old.idles; most = old.most };
}
  where
    same : engine.scene ≡ old.engine.scene
    same = ap (λ (r : Ring). r.scene) carried

    waiting : engine.pending ≡ old.engine.pending
    waiting = ap (λ (r : Ring). r.pending) carried

    planes : (p : Planes) → Agree v.scene.width v.scene.height (settled old.engine) p → Agree v.scene.width v.scene.height (settled engine) (planes_made v c (Deed_is.Touched touched) p)
    planes p agree =
        let before : Agree v.scene.width v.scene.height (planes_of old.engine) p = subst (λ (q : Planes). Agree v.scene.width v.scene.height q p) (settled_idle old.engine idle) agree in
        let was : Has old.engine p = shows_agreeing old.engine.front old.engine.back old.engine.depth v.scene.width v.scene.height (planes_of old.engine) p (sides_of old.engine v.scene scene screen) before has in
        let now = read_agrees engine.front engine.back engine.depth v.scene.width v.scene.height (shown_by touched p) (sides_of engine v.scene (same ∙ scene) still) (shows p was) in
        let settles = settled_idle engine (waiting ∙ idle) in
        record {
          front = λ x y lx ly. ap (λ (q : Planes). q.front x y) settles ∙ now.front x y lx ly;
          back = λ x y lx ly. ap (λ (q : Planes). q.back x y) settles ∙ now.back x y lx ly;
        }
