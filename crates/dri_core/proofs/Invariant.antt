-- The central invariant.
use Rattle.std.proofs.Common.{◌≡◌, ◌<◌, ◌≤◌, ◌+◌, ℕ, zero, suc, List, [], ◌∷◌, Bool, true, false, Option, Some, None, arith, refl}
use Rattle.std.specs.Prelude.{slice_get, take, pred}
use Rattle.dri_core.specs.Phases.{Phase}
use Rattle.dri_base.specs.declared.command.Command.{Command}
use Rattle.dri_core.specs.Phases.{Out, In, Over, Ended}
use Rattle.dri_base.specs.declared.scene.Scene.{Scene}
use Rattle.dri_base.proofs.RangeLemmas.{IsWellFormed}
use Rattle.dri_base.specs.Scenes.{window_of, commands_of}
use Rattle.dri_model.specs.Stacks.{origin}
use Rattle.dri_base.specs.declared.state.State.{State}
use Rattle.dri_base.specs.States.{default_state, state_after, states, state_at}
use Rattle.dri_core.specs.Runs.{OwnerIsClean}
use Rattle.dri_core.specs.Worlds.{World, opening, clips_in}
use Rattle.dri_core.proofs.Clean.{all_dirty}
use Rattle.dri_core.specs.Privates.{state_by, own_registers}
use Rattle.dri_core.specs.Phases.{first_phase, is_holding}

-- the client may act on what it keeps
abbrev pub is_acting : Phase → Bool
is_acting In = true
is_acting Over = true
is_acting _ = false

pub record Invariant (s : Scene) (w : World) : Type 0 where
  -- no stamp is above the counter
  pub counted : (n : ℕ) → n < 65 → w.stamps n ≤ w.counter
  pub stamped : (c : ℕ) → (w.client c).stamp ≤ w.counter
  -- a client with the shared stamp has the current clips and origin
  pub copy : (c x y : ℕ) → (w.client c).stamp ≡ w.stamps (window_of s c) → (w.client c).copy x y ≡ clips_in s w c x y
  pub place : (c : ℕ) → (w.client c).stamp ≡ w.stamps (window_of s c) → (w.client c).origin ≡ origin w.stack (window_of s c)
  -- the holder is the one client in a holding phase
  pub holding : (c : ℕ) → is_holding (w.client c).phase ≡ true → w.holder ≡ Some c
  -- who acts has the shared stamp and owns the registers
  pub acting_stamp : (c : ℕ) → is_acting (w.client c).phase ≡ true → (w.client c).stamp ≡ w.stamps (window_of s c)
  pub acting_owner : (c : ℕ) → is_acting (w.client c).phase ≡ true → w.owner ≡ c + 1
  -- who may come back by a light lock has them too
  pub light_stamp : (c : ℕ) → w.holder ≡ None → w.left ≡ c + 1 → (w.client c).phase ≡ Out → (w.client c).stamp ≡ w.stamps (window_of s c)
  pub light_owner : (c : ℕ) → w.holder ≡ None → w.left ≡ c + 1 → (w.client c).phase ≡ Out → w.owner ≡ c + 1
  -- no client has number 0
  pub nobody : (w.client 0).phase ≡ Ended
  -- the client's state is that of its script
  pub started : (c : ℕ) → 0 < (w.client c).place
  pub state : (c : ℕ) → (w.client c).state ≡ state_at (commands_of s c) (w.client c).place
  -- the owner's clean groups are in the card
  pub clean : OwnerIsClean s w

pub holds_none : (cs : List Command) → is_holding (first_phase cs) ≡ false
holds_none [] = refl
holds_none (c ∷ cs) = refl

pub acts_none : (cs : List Command) → is_acting (first_phase cs) ≡ false
acts_none [] = refl
acts_none (c ∷ cs) = refl

pub opened : (s : Scene) → IsWellFormed s → Invariant s (opening s)
opened s good = record {
  counted = grind arith;
  stamped = grind arith;
  copy = grind arith;
  place = grind arith;
  holding = λ c h. grind (arith, holds_none (commands_of s c));
  acting_stamp = λ c h. grind (arith, acts_none (commands_of s c));
  acting_owner = λ c h. grind (arith, acts_none (commands_of s c));
  light_stamp = λ c n l p. absurd (zero_out c l p);
  light_owner = λ c n l p. absurd (zero_out c l p);
  nobody = rw good.numbered refl;
  started = grind arith;
  state = λ c. refl;
  clean = λ c own. all_dirty (own_registers s c ((opening s).client c)) (opening s).registers;
}
  where
    no_phase : Ended ≡ Out → ⊥
    no_phase e = grind arith

    zero_out : (c : ℕ) → 1 ≡ c + 1 → first_phase (commands_of s c) ≡ Out → ⊥
    zero_out zero l p = absurd (no_phase (rw good.numbered at p))
    zero_out (suc c) l p = omega arith

-- the state goes on by one command
pub state_step : (cs : List Command) (n : ℕ) (old : State) → states old (take (suc n) cs) ≡ state_by (slice_get cs n) (states old (take n cs))
state_step [] zero old = refl
state_step [] (suc n) old = refl
state_step (c ∷ cs) zero old = refl
state_step (c ∷ cs) (suc n) old = state_step cs n (state_after c old)

pub state_on : (cs : List Command) (i : ℕ) → 0 < i → state_at cs (i + 1) ≡ state_by (slice_get cs (pred i)) (state_at cs i)
state_on cs zero l = absurd (omega arith)
state_on cs (suc n) l = let e : pred (suc n + 1) ≡ suc n = omega arith in rw e (state_step cs n default_state)

pub acting_holds : (p : Phase) → is_acting p ≡ true → is_holding p ≡ true
acting_holds p h = grind arith

-- there is one holder
pub one_holder : {holder : Option ℕ} {c d : ℕ} → holder ≡ Some c → holder ≡ Some d → d ≡ c
one_holder a b = grind arith
