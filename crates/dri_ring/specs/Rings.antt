-- What contracts see of the engine: its planes and the jobs that wait; and what they come to once all jobs ran.
use Rattle.std.specs.Prelude.{ℕ, ◌≡◌, ◌<◌, ◌+◌, ◌*◌, ◌&&◌, nat_lt, List, [], ◌∷◌, fold, get_or, if◌then◌else◌}
use Rattle.dri_base.specs.Planes.{plane}
use Rattle.dri_base.specs.declared.colour.Rgb.{Rgb}
use Rattle.dri_base.specs.declared.scene.Scene.{Scene}
use Rattle.dri_card.specs.Contents.{blank}
use Rattle.dri_model.specs.Stacks.{ground_colour, top}
use Rattle.dri_plane.specs.Grids.{Grid}
use Rattle.dri_plane.specs.Runs.{HoldPairs}
use Rattle.dri_ring.specs.Jobs.{Planes, effect}
use Rattle.dri_ring.specs.declared.job.Job.{Job}
use Rattle.dri_ring.specs.declared.job.Stepped.{Stepped}
use Rattle.dri_ring.specs.declared.job.Stepped.TheVariants.{Ran, Empty}

-- the scene; how many jobs may wait, and those that do, the first put first; and the three planes
pub record Ring : Type 0 where
  pub scene : Scene
  pub room : ℕ
  pub pending : List Job
  pub front : Grid Rgb
  pub back : Grid Rgb
  pub depth : Grid ℕ

-- the three planes have these sides
pub record HaveSides (front back : Grid Rgb) (depth : Grid ℕ) (width height : ℕ) : Type 0 where
  pub front_width : front.width ≡ width
  pub front_height : front.height ≡ height
  pub back_width : back.width ≡ width
  pub back_height : back.height ≡ height
  pub depth_width : depth.width ≡ width
  pub depth_height : depth.height ≡ height

-- the three planes show this at each place
pub record Show (front back : Grid Rgb) (depth : Grid ℕ) (p : Planes) : Type 0 where
  pub shown : front.pixels ≡ plane front.width front.height p.front
  pub held : HoldPairs back depth p.back

-- the pixel at a place of a plane; beyond its sides, the other one
abbrev pub pixel_of : {A : Type 0} → A → Grid A → ℕ → ℕ → A
pixel_of other g x y = if nat_lt x g.width && nat_lt y g.height then get_or g.pixels (y * g.width + x) other else other

-- what three planes show at each place; beyond their sides, black, as deep as can be
abbrev pub read : Grid Rgb → Grid Rgb → Grid ℕ → Planes
read front back depth = record {
  front = pixel_of blank.colour front;
  back = λ x y. record { colour = pixel_of blank.colour back x y; depth = pixel_of blank.depth depth x y };
}

-- the engine's planes
abbrev pub planes_of : Ring → Planes
planes_of v = read v.front v.back v.depth

-- planes that are the same at each place of a screen
pub record Agree (width height : ℕ) (p q : Planes) : Type 0 where
  pub front : (x y : ℕ) → x < width → y < height → p.front x y ≡ q.front x y
  pub back : (x y : ℕ) → x < width → y < height → p.back x y ≡ q.back x y

-- the engine's planes have the sides of its screen
abbrev pub IsScreen : Ring → Type 0
IsScreen v = HaveSides v.front v.back v.depth v.scene.width v.scene.height

-- the engine's planes show this at each place
abbrev pub Has : Ring → Planes → Type 0
Has v p = Show v.front v.back v.depth p

-- the planes after some jobs, in order
abbrev pub after_jobs : Scene → List Job → Planes → Planes
after_jobs s jobs p = fold (effect s) p jobs

-- what the planes come to once all jobs that wait ran
abbrev pub settled : Ring → Planes
settled v = after_jobs v.scene v.pending (planes_of v)

-- front shows the topmost windows' backgrounds, and nothing is drawn
abbrev pub opening_planes : Scene → Planes
opening_planes s = record { front = λ x y. ground_colour s.root (top s.windows x y); back = λ x y. blank }

-- the engine of a scene before anything is put: nothing waits
pub record IsOpening (s : Scene) (n : ℕ) (v : Ring) : Type 0 where
  pub scene : v.scene ≡ s
  pub room : v.room ≡ n
  pub empty : v.pending ≡ []
  pub sides : IsScreen v
  pub planes : Has v (opening_planes s)

-- what a step answers
abbrev pub step_answer : List Job → Stepped
step_answer [] = Empty
step_answer (job ∷ jobs) = Ran

-- the jobs that wait after a step
abbrev pub without_first : List Job → List Job
without_first [] = []
without_first (job ∷ jobs) = jobs

-- the planes after the first job, if there is one
abbrev pub first_run : Scene → List Job → Planes → Planes
first_run s [] p = p
first_run s (job ∷ jobs) p = effect s p job

-- nothing but the planes and the jobs that wait differs
abbrev pub OnlyRan : Ring → Ring → Type 0
OnlyRan old new = new ≡ record old { pending = new.pending; front = new.front; back = new.back; depth = new.depth }

-- nothing but front differs
abbrev pub OnlyShown : Ring → Ring → Type 0
OnlyShown old new = new ≡ record old { front = new.front }

-- nothing but the planes differs
abbrev pub OnlyCarried : Ring → Ring → Type 0
OnlyCarried old new = new ≡ record old { front = new.front; back = new.back; depth = new.depth }

-- front shows these colours
abbrev pub Shows : Ring → (ℕ → ℕ → Rgb) → Type 0
Shows v f = v.front.pixels ≡ plane v.front.width v.front.height f
