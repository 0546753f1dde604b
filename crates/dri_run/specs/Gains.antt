-- What a sink gained.
use Rattle.std.specs.Prelude.{ℕ, ◌≤◌, ◌⊎◌, List, length, take}
use Rattle.std.specs.Io.KnownBytes.{Appends, Keeps}
use Rattle.std.specs.declared.option.Option.{Option}
use Rattle.dri_io.specs.Causes.{Rose}
use Rattle.dri_run.specs.declared.status.Status.{Status}
use Rattle.dri_run.specs.declared.status.Status.TheVariants as answers

-- a sink over a call: what it held before and holds now, where it tells, and its count of faults before and now
pub record Sunk : Type 0 where
  pub held : Option (List ℕ)
  pub holds : Option (List ℕ)
  pub before : ℕ
  pub now : ℕ

-- it gained all the bytes
abbrev pub GainsAll : Sunk → List ℕ → Type 0
GainsAll sunk bytes = Appends sunk.held sunk.holds bytes

-- its count rose, and it gained a prefix of the bytes
pub record GainsFront (sunk : Sunk) (bytes : List ℕ) : Type 0 where
  pub rose : Rose sunk.before sunk.now
  pub taken : ℕ
  pub within : taken ≤ length bytes
  pub gained : Appends sunk.held sunk.holds (take taken bytes)

-- it gained all the bytes, or its count rose and it gained a prefix of them
abbrev pub Gains : Sunk → List ℕ → Type 0
Gains sunk bytes = GainsAll sunk bytes ⊎ GainsFront sunk bytes

-- it gained nothing
abbrev pub GainsNothing : Sunk → Type 0
GainsNothing sunk = Keeps sunk.held sunk.holds

-- writing stopped: the picture's sink failed, and the notes gained nothing; or the picture has all its bytes, and the notes' sink failed
abbrev pub Stopped : Sunk → Sunk → List ℕ → List ℕ → Type 0
Stopped picture notes image text = (GainsFront picture image × GainsNothing notes) ⊎ (GainsAll picture image × GainsFront notes text)

-- the picture was written whole, and then the notes; or a sink failed
abbrev pub Written : Status → Sunk → Sunk → List ℕ → List ℕ → Type 0
Written answers.Done picture notes image text = GainsAll picture image × GainsAll notes text
Written answers.WriteFault picture notes image text = Stopped picture notes image text
Written _ picture notes image text = ⊥
