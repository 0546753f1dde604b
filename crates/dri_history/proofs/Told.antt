-- Touches one after the other.
use Rattle.std.proofs.Common.{◌≡◌, ◌<◌, ◌+◌, ℕ, zero, suc, List, [], ◌∷◌, ◌++◌, length, take, get_or, Option, Some, None, refl, ◌∙◌, sym, ap, subst, arith, Err, Result}
use Rattle.std.proofs.lemmas.List.{take_all, take_more}
use Rattle.dri_base.specs.Ranges.{InRange}
use Rattle.dri_base.specs.declared.journal.Entry.{Entry}
use Rattle.dri_base.specs.declared.scene.Scene.{Scene}
use Rattle.dri_core.proofs.FirstBad.{bad_is_no_run}
use Rattle.dri_core.proofs.Laws.{after-push}
use Rattle.dri_core.specs.EntryTable.{after_entry}
use Rattle.dri_core.specs.FirstBad.{IsFirstBad}
use Rattle.dri_core.specs.Runs.{HoldRun, after, after_entries, client_of}
use Rattle.dri_core.specs.Worlds.{World, opening}
use Rattle.dri_history.proofs.Doings.{clip_lifted, kind_lifted}
use Rattle.dri_history.specs.Follows.{IsWay}
use Rattle.dri_history.specs.Histories.{HasHistory}
use Rattle.dri_history.specs.Touches.{AreTouches, IsTold, Tells, kind_at, one_touch, sample}
use Rattle.dri_history.specs.declared.touch.Sample.{Sample}
use Rattle.dri_history.specs.declared.touch.Touch.{Touch}
use Rattle.dri_history.specs.declared.touching.Way.{Way}
use Rattle.dri_journal.specs.Deeds.{Does}
use Rattle.dri_journal.specs.Replays.{MayTake, ReplayState, Took, world_of}
use Rattle.dri_journal.specs.declared.deed.Deed.{Deed}
use Rattle.dri_replay.proofs.Lifted.{taken, with_entry}
use Rattle.dri_replay.proofs.Taken.{AreTaken}
use Rattle.dri_replay.specs.declared.fault.ReplayFault.{ReplayFault}
use Rattle.dri_replay.specs.declared.fault.ReplayFault.TheVariants as faults

append_three : (xs ys zs : List Touch) → (xs ++ ys) ++ zs ≡ xs ++ (ys ++ zs)
append_three [] ys zs = refl
append_three (t ∷ xs) ys zs = ap (λ ts. t ∷ ts) (append_three xs ys zs)

append_none : (xs : List Touch) → xs ++ [] ≡ xs
append_none [] = refl
append_none (t ∷ xs) = ap (λ ts. t ∷ ts) (append_none xs)

-- one entry more
pub touches_more : (s : Scene) (w : World) (n : ℕ) (es : List Entry) (e : Entry) (x y : ℕ) (ts : List Touch) (o : Option Touch) → AreTouches s w n es x y ts → IsTold s (after_entries s w es) e (n + length es) x y o → AreTouches s w n (es ++ e ∷ []) x y (ts ++ one_touch o)
touches_more s w n [] e x y ts o none told = (o, [], rw none (sym (append_none (one_touch o))), subst (λ k. IsTold s w e k x y o) (zero_more n) told, refl)
  where
    zero_more : (k : ℕ) → k + 0 ≡ k
    zero_more k = omega arith
touches_more s w n (d ∷ es) e x y ts o are told = (
  are.0,
  are.1 ++ one_touch o,
  ap (λ us. us ++ one_touch o) are.2 ∙ append_three (one_touch are.0) are.1 (one_touch o),
  are.3,
  touches_more s (after_entry s w d) (n + 1) es e x y are.1 o are.4 (subst (λ k. IsTold s (after_entries s (after_entry s w d) es) e k x y o) (one_more n (length es)) told),
)
  where
    one_more : (a b : ℕ) → a + suc b ≡ a + 1 + b
    one_more a b = omega arith

-- one entry more of a journal
pub told_more : (s : Scene) (xs : List Entry) (k : ℕ) (old : ReplayState) (d : Entry) (n x y : ℕ) (ts us : List Touch) (o : Option Touch) → k < length xs → AreTaken s xs k old → AreTouches s (opening s) 1 (take k xs) x y ts → n ≡ k + 1 → us ≡ ts ++ one_touch o →
    IsTold old.scene (world_of old) (get_or xs k d) n x y o → AreTouches s (opening s) 1 (take (k + 1) xs) x y us
told_more s xs k old d n x y ts us o lt taken are number more told =
    subst (AreTouches s (opening s) 1 (take (k + 1) xs) x y) (sym more)
    (subst (λ es. AreTouches s (opening s) 1 es x y (ts ++ one_touch o)) (sym (take_more xs k d lt))
    (touches_more s (opening s) 1 (take k xs) (get_or xs k d) x y ts o are now))
  where
    count : (m : ℕ) (ys : List Entry) → m < length ys → 1 + length (take m ys) ≡ m + 1
    count m [] l = absurd (omega (arith, l))
    count zero (z ∷ ys) l = refl
    count (suc m) (z ∷ ys) l = let e = count m ys (omega (arith, l)) in omega (arith, e)

    scened : IsTold s (after s old.entries) (get_or xs k d) n x y o
    scened = subst (λ (t : Scene). IsTold t (after t old.entries) (get_or xs k d) n x y o) taken.scene told

    now : IsTold s (after s (take k xs)) (get_or xs k d) (1 + length (take k xs)) x y o
    now = subst (λ m. IsTold s (after s (take k xs)) (get_or xs k d) m x y o) (number ∙ sym (count k xs lt)) (subst (λ es. IsTold s (after s es) (get_or xs k d) n x y o) taken.entries scened)

-- all entries
pub all_told : (s : Scene) (xs : List Entry) (k : ℕ) (x y : ℕ) (ts : List Touch) → length xs < k + 1 → HoldRun s (take k xs) → AreTouches s (opening s) 1 (take k xs) x y ts → HoldRun s xs × AreTouches s (opening s) 1 xs x y ts
all_told s xs k x y ts le run are = subst (λ es. HoldRun s es × AreTouches s (opening s) 1 es x y ts) (take_all k xs (omega (arith, le))) (run, are)

module _ (old new : ReplayState) (e : Entry) (deed : Deed) (client x y : ℕ) (good : InRange old.scene) (run : HoldRun old.scene old.entries) (lx : x < old.scene.width) (ly : y < old.scene.height) (legal : MayTake old e) (took : Took old new e) (does : Does old.scene (world_of old) e deed) (is : client ≡ client_of e) where
  -- what the deed does, as a deed of the entry that was taken
  way_taken : (r : Option Way) → IsWay new client deed x y r → IsWay (with_entry old.scene old.entries e) (client_of e) deed x y r
  way_taken r way = subst (λ k. IsWay (with_entry old.scene old.entries e) k deed x y r) is (subst (λ v. IsWay v client deed x y r) (sym (taken old new e took)) way)

  -- an entry that does nothing there isn't told
  pub not_touching : IsWay new client deed x y None → kind_at old.scene (world_of old) e x y ≡ None
  not_touching way = sym (kind_lifted old.scene old.entries good run x y lx ly e deed legal does) ∙ way_taken None way

  -- another is
  pub touching : (n : ℕ) (way : Way) (before later : Sample) → IsWay new client deed x y (Some way) → before ≡ sample (world_of old) x y → later ≡ sample (world_of new) x y →
      Tells old.scene (world_of old) e n x y (record { entry = n; kind = way.kind; client = client; clip = way.clip; before = before; after = later })
  touching n way before later there was now =
      let told = way_taken (Some way) there in
      let kind : kind_at old.scene (world_of old) e x y ≡ Some way.kind = sym (kind_lifted old.scene old.entries good run x y lx ly e deed legal does) ∙ told.0 in
      record {
        entry = refl;
        kind = kind;
        client = is;
        clip = clip_lifted old.scene old.entries good run x y lx ly e way.kind way.clip kind told.1;
        before = was;
        after = now ∙ ap (λ (v : ReplayState). sample (world_of v) x y) (sym (taken old new e took)) ∙ ap (λ (u : World). sample u x y) (after-push old.scene old.entries e);
      }

-- an answer that names an entry
pub names_bad : (s : Scene) (xs : List Entry) (x y : ℕ) (r : Result (List Touch) ReplayFault) (entry : ℕ) → HasHistory s xs x y r → r ≡ Err (faults.NotARun entry) → IsFirstBad s xs entry
names_bad s xs x y r entry has is = subst (HasHistory s xs x y) is has

pub never_bad : (s : Scene) (xs : List Entry) (x y : ℕ) (r : Result (List Touch) ReplayFault) (entry : ℕ) → HasHistory s xs x y r → HoldRun s xs → r ≡ Err (faults.NotARun entry) → ⊥
never_bad s xs x y r entry has run is = bad_is_no_run s xs entry run (names_bad s xs x y r entry has is)
