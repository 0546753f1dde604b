-- The board after a change, and what it tells of it.
use Rattle.std.proofs.Common.{◌≡◌, ◌↔◌, ℕ, List, Option, None, Some, Ok, Err, refl, sym, ◌∙◌, ap, is_some}
use Rattle.std.specs.Prelude.{All}
use Rattle.std.specs.declared.result.Result.{Result}
use Rattle.std.proofs.lemmas.Bool.{true≢false}
use Rattle.dri_base.specs.declared.colour.Rgb.{Rgb}
use Rattle.dri_base.specs.declared.scene.Window.{Window}
use Rattle.dri_base.specs.Ranges.{WindowInRange}
use Rattle.dri_model.specs.Stacks.{Refusal, is_touched}
use Rattle.dri_clips.specs.declared.change.ChangeFault.{ChangeFault}
use Rattle.dri_clips.specs.declared.change.ChangeFault.TheVariants as Fault_is
use Rattle.dri_clips.specs.declared.stamps.Restamped.{Restamped}
use Rattle.dri_clips.specs.Boards.{IsRestacked}
use Rattle.dri_clips.specs.Layouts.{IsRestamped, SameNumbers}
use Rattle.dri_clips.specs.Refusals.{fault_of}
use Rattle.dri_clips.proofs.Stamping.{all_stamps}

pub restacked : (width height wide high : ℕ) (root : Rgb) (old new next : List Window) (stamps : List ℕ) (start : ℕ) (r : Restamped) → wide ≡ width → high ≡ height → next ≡ new → All WindowInRange old → SameNumbers old new → IsRestamped (is_touched width height old new) 65 start stamps r →
    IsRestacked new (record { width = width; height = height; root = root; stack = old; stamps = stamps; counter = start }) (record { width = wide; height = high; root = root; stack = next; stamps = r.stamps; counter = r.counter })
restacked width height wide high root old new next stamps start r e f g ranged same is = record {
  width = e;
  height = f;
  root = refl;
  windows = g;
  stamps = λ i n. all_stamps width height old new start stamps r ranged same is n i;
  counter = is.counter;
}

-- refusals
why_of : ChangeFault → Option Refusal
why_of Fault_is.NoWindow = Some Refusal.NoWindow
why_of Fault_is.OutOfRange = Some Refusal.OutOfRange
why_of Fault_is.AlreadyMapped = Some Refusal.AlreadyMapped
why_of Fault_is.NotMapped = Some Refusal.NotMapped
why_of Fault_is.OutOfMemory = None

why_told : (why : Refusal) → why_of (fault_of why) ≡ Some why
unfolding why_of
why_told Refusal.NoWindow = refl
why_told Refusal.OutOfRange = refl
why_told Refusal.AlreadyMapped = refl
why_told Refusal.NotMapped = refl

none_some : {X : Type 0} (x : X) → None ≡ Some x → ⊥
none_some x e = true≢false (ap (λ o. is_some o) (sym e))

memory_other : {T : Type 0} (why : Refusal) → ◌≡◌ {A = Result T ChangeFault} (Err Fault_is.OutOfMemory) (Err (fault_of why)) → ⊥
unfolding why_of
memory_other {T} why h = none_some why (ap why_of (err_same Fault_is.OutOfMemory (fault_of why) h) ∙ why_told why)
  where
    err_same : (a b : ChangeFault) → ◌≡◌ {A = Result T ChangeFault} (Err a) (Err b) → a ≡ b
    err_same a b g = cc

pub memory_so : {T : Type 0} (refusal : Option Refusal) (why : Refusal) → refusal ≡ None → ◌≡◌ {A = Result T ChangeFault} (Err Fault_is.OutOfMemory) (Err (fault_of why)) ↔ (refusal ≡ Some why)
memory_so refusal why none = (λ h. absurd (memory_other why h), λ h. absurd (none_some why (sym none ∙ h)))

pub done_so : {T : Type 0} (refusal : Option Refusal) (t : T) (e : ChangeFault) (why : Refusal) → refusal ≡ None → ◌≡◌ {A = Result T ChangeFault} (Ok t) (Err e) ↔ (refusal ≡ Some why)
done_so {T} refusal t e why none = (λ h. absurd (apart t e h), λ h. absurd (none_some why (sym none ∙ h)))
  where
    apart : (u : T) (f : ChangeFault) → ◌≡◌ {A = Result T ChangeFault} (Ok u) (Err f) → ⊥
    apart u f h = cc
