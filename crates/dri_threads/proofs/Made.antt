-- A client and the value after one event.
use Rattle.std.specs.Prelude.{Result, Ok, Err, OnOk, OnErr}
use Rattle.std.proofs.Common.{◌≡◌, ◌⊎◌, ℕ, ◌+◌, ◌≤◌, true, false, refl, sym, ap, ◌∙◌, subst, arith}
use Rattle.dri_base.specs.declared.journal.Entry.{Entry}
use Rattle.dri_base.specs.declared.journal.Entry.TheVariants.{Gone, Info, Change}
use Rattle.dri_core.specs.Effects.{after_leave}
use Rattle.dri_core.specs.EntryTable.{after_entry}
use Rattle.dri_core.specs.Phases as Phase_is
use Rattle.dri_core.specs.Phases.{Phase}
use Rattle.dri_core.specs.Runs.{after, client_of}
use Rattle.dri_core.specs.Worlds.{World}
use Rattle.dri_shared.specs.Copies.{IsToldOf, corner}
use Rattle.dri_shared.specs.Sides.{client_at, value_at}
use Rattle.dri_shared.specs.States.{SharedState, Added, IsSameRun, world_of}
use Rattle.dri_shared.specs.declared.answers.Told.{Told}
use Rattle.dri_shared.specs.declared.client_side.ClientSide.{ClientSide}
use Rattle.dri_driver.specs.Clients.{ClientState, part_of}
use Rattle.dri_driver.specs.Fits.{Fits, HasMade}
use Rattle.dri_driver.specs.Needs.{entries_left}
use Rattle.dri_driver.proofs.Fitting.{world_added}
use Rattle.dri_threads.specs.Sessions.{IsSeated, Makes, Grows, Works, WorksIn, is_at_rest}
use Rattle.dri_threads.proofs.Working.{grows_none, grows_one, grows_more, works_none, works_made, works_more, seated_same, left_by, left_rests}

-- what a client made in its side, in the value
pub makes_at : (k l : ClientState) (a b : ClientSide) (e : Entry) → HasMade k l a b e → Makes (value_at a) (value_at b) k l e
makes_at k l a b e made = record { added = made.makes.added; fits = made.fits; same = made.same }

-- the same, of values that the side was made of and has left
pub makes_in : (k l : ClientState) (a b : ClientSide) (v w : SharedState) (e : Entry) → HasMade k l a b e → value_at a ≡ v → w ≡ value_at b → Makes v w k l e
makes_in k l a b v w e made from to = subst (λ (x : SharedState). Makes v x k l e) (sym to) (subst (λ (x : SharedState). Makes x (value_at b) k l e) from (makes_at k l a b e made))

pub works_at : (c : ℕ) (k l : ClientState) (a b : ClientSide) (v w : SharedState) → WorksIn a b k l → client_at a ≡ c → value_at a ≡ v → w ≡ value_at b → Works c v w k l
works_at c k l a b v w worked client from to = subst (λ (x : SharedState). Works c v x k l) (sym to) (subst (λ (x : SharedState). Works c x (value_at b) k l) from (subst (λ (n : ℕ). Works n (value_at a) (value_at b) k l) client worked.works))

pub informed : (v w : SharedState) (k l : ClientState) (c : ℕ) (told : Told) → IsSeated v k c → Added v w (Info c) → IsToldOf v.scene (world_of v) c told → l ≡ record k { phase = Phase_is.Out; stamp = told.stamp; clips = told.clips; origin = corner told.origin }
    → ((a b : SharedState) → Fits k a → Added a b (Info k.number) → IsToldOf a.scene (world_of a) k.number told → Fits l b) → Makes v w k l (Info c)
informed v w k l c told seated added is_told is fits = record {
  added = added;
  fits = fits v w seated.fits (subst (λ n. Added v w (Info n)) (sym seated.numbered) added) (subst (λ n. IsToldOf v.scene (world_of v) n told) (sym seated.numbered) is_told);
  same = record { scene = ap (λ (x : ClientState). x.scene) is; number = ap (λ (x : ClientState). x.number) is; dying = ap (λ (x : ClientState). x.dying) is };
}

pub buried : (v w : SharedState) (k l : ClientState) (c : ℕ) → IsSeated v k c → k.dying ≡ false → Added v w (Gone c) → l ≡ record k { dying = false; phase = Phase_is.Dead } → ((a b : SharedState) → Fits k a → Added a b (Gone k.number) → Fits l b) → Makes v w k l (Gone c)
buried v w k l c seated living added is fits = record {
  added = added;
  fits = fits v w seated.fits (subst (λ n. Added v w (Gone n)) (sym seated.numbered) added);
  same = record { scene = ap (λ (x : ClientState). x.scene) is; number = ap (λ (x : ClientState). x.number) is; dying = ap (λ (x : ClientState). x.dying) is ∙ sym living };
}

pub same_run : (v : SharedState) → IsSameRun v v
same_run v = record { scene = refl; journal = refl }

-- an actor that was ready to make an entry of its own has made it, or has given up and left all as it was
module _ {A E : Type 0} (c : ℕ) (v u w : SharedState) (same : IsSameRun v u) where
  pub one_grows : (r : Result A E) (e : Entry) → client_of e ≡ c → OnOk r (Added u w e) → OnErr r (w ≡ u) → Grows (c + 1) v w
  one_grows (Ok a) e own added kept = grows_more (c + 1) v u w (grows_none (c + 1) v u same) (grows_one (c + 1) u w e added (ap (λ n. n + 1) own))
  one_grows (Err a) e own added kept = subst (Grows (c + 1) v) (sym kept) (grows_none (c + 1) v u same)

  pub one_works : (r : Result A E) (k l : ClientState) (e : Entry) → client_of e ≡ c → IsSeated v k c → OnOk r (Makes u w k l e) → OnOk r (Works c v w k l)
  one_works (Ok a) k l e own seated made = works_more c v u w k k l (works_none c v u k same seated) (works_made c u w k l e (seated_same v u k c same seated) made own)
  one_works (Err a) k l e own seated made = tt

  pub one_left : (r : Result A E) (x : ℕ) (e : Entry) → (after_entry u.scene (world_of u) e).left ≡ x → OnOk r (Added u w e) → OnOk r ((world_of w).left ≡ x)
  one_left (Ok a) x e is added = left_by x u w e added is
  one_left (Err a) x e is added = tt

pub made_added : {A E : Type 0} (r : Result A E) (v w : SharedState) (k l : ClientState) (e : Entry) → OnOk r (Makes v w k l e) → OnOk r (Added v w e)
made_added (Ok a) v w k l e made = made.added
made_added (Err a) v w k l e made = tt

pub left_kept : {A E : Type 0} (r : Result A E) (v w : SharedState) (k l : ClientState) → OnErr r ((w ≡ v) × (l ≡ k)) → OnErr r (w ≡ v)
left_kept (Ok a) v w k l kept = tt
left_kept (Err a) v w k l kept = kept.0

pub phase_rests : {A E : Type 0} (r : Result A E) (p q : Phase) → is_at_rest q ≡ true → OnOk r (p ≡ q) → OnOk r (is_at_rest p ≡ true)
phase_rests (Ok a) p q rests is = ap is_at_rest is ∙ rests
phase_rests (Err a) p q rests is = tt

-- a client that is over or asks rests once it has left
pub left_at_rest : (k l : ClientState) → l.phase ≡ after_leave k.scene k.number (part_of k) → (k.phase ≡ Phase_is.Over) ⊎ (k.phase ≡ Phase_is.Ask) → is_at_rest l.phase ≡ true
left_at_rest k l phase holds = ap is_at_rest phase ∙ left_rests k.phase _ holds

pub change_made : {A E : Type 0} (r : Result A E) (v u w : SharedState) → IsSameRun v u → OnOk r (Added u w (Change ((world_of u).made + 1))) → OnOk r ((world_of w).made ≡ (world_of v).made + 1)
change_made (Ok a) v u w same added = ap (λ (x : World). x.made) (world_added u w _ added) ∙ λ i. (after (same.scene i) (same.journal i)).made + 1
change_made (Err a) v u w same added = tt

-- what a client made in its side is work in it
pub made_in : (a b : ClientSide) (k l : ClientState) (e : Entry) → IsSeated (value_at a) k (client_at a) → HasMade k l a b e → client_of e ≡ client_at a → WorksIn a b k l
made_in a b k l e seated made own = record { works = works_made (client_at a) (value_at a) (value_at b) k l e seated (makes_at k l a b e made) own; same = made.makes.same }

pub more_in : (a b d : ClientSide) (j k l : ClientState) → WorksIn a b j k → WorksIn b d k l → WorksIn a d j l
more_in a b d j k l p q = record {
  works = works_more (client_at a) (value_at a) (value_at b) (value_at d) j k l p.works (subst (λ (n : ℕ). Works n (value_at b) (value_at d) k l) p.same.client q.works);
  same = record { borrow = q.same.borrow ∙ p.same.borrow; client = q.same.client ∙ p.same.client };
}

-- who has worked in its side is seated there
pub seated_in : (a b : ClientSide) (k l : ClientState) → WorksIn a b k l → IsSeated (value_at b) l (client_at b)
seated_in a b k l worked = subst (IsSeated (value_at b) l) (sym worked.same.client) worked.works.seated

-- a step of a client that acts
pub acted_in : (a b d : ClientSide) (j k l : ClientState) (e : Entry) → WorksIn a b j k → HasMade k l b d e → client_of e ≡ k.number → WorksIn a d j l
acted_in a b d j k l e worked made own =
    let seated = seated_in a b j k worked in
    more_in a b d j k l worked (made_in b d k l e seated made (own ∙ seated.numbered))

pub room_in : (a b : ClientSide) (k l : ClientState) (e : Entry) → HasMade k l a b e → entries_left l + 1 ≤ entries_left k → entries_left k ≤ (value_at a).spare → entries_left l ≤ (value_at b).spare
room_in a b k l e made falls room = let s = made.makes.added.spare in omega arith
