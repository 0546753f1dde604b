-- Entries of a client, one after the other.
use Rattle.std.proofs.Common.{◌≡◌, ◌⊎◌, ℕ, ◌+◌, List, [], ◌∷◌, ◌++◌, Bool, true, false, refl, sym, ap, ◌∙◌, subst, inl, inr}
use Rattle.std.specs.Prelude.{Contains}
use mathlib.Core.List.{append_assoc, append-nil}
use Rattle.dri_base.specs.Ranges.{client_numbers}
use Rattle.dri_base.specs.declared.scene.Scene.{Scene}
use Rattle.dri_base.specs.declared.journal.Entry.{Entry}
use Rattle.dri_core.specs.Phases as Phase_is
use Rattle.dri_core.specs.Phases.{Phase, left_from}
use Rattle.dri_core.specs.EntryTable.{after_entry}
use Rattle.dri_core.specs.Runs.{after, client_of, context_of}
use Rattle.dri_core.specs.Worlds.{World}
use Rattle.dri_hwlock.specs.Entries.{AllOf}
use Rattle.dri_shared.specs.States.{SharedState, Added, IsSameRun, world_of}
use Rattle.dri_driver.specs.Clients.{ClientState}
use Rattle.dri_driver.specs.Fits.{IsSameClient}
use Rattle.dri_driver.proofs.Fitting.{world_added}
use Rattle.dri_threads.specs.Sessions.{IsSeated, Makes, Grows, Works, is_at_rest}

all_append : (x : ℕ) (es fs : List Entry) → AllOf context_of x es → AllOf context_of x fs → AllOf context_of x (es ++ fs)
all_append x [] fs p q = q
all_append x (e ∷ es) fs p q = (p.0, all_append x es fs p.1 q)

pub grows_none : (x : ℕ) (v w : SharedState) → IsSameRun v w → Grows x v w
grows_none x v w same = record { scene = same.scene; adds = ([], same.journal ∙ sym (append-nil v.journal), tt) }

pub grows_one : (x : ℕ) (v w : SharedState) (e : Entry) → Added v w e → context_of e ≡ x → Grows x v w
grows_one x v w e added of = record { scene = added.scene; adds = (e ∷ [], added.journal, (of, tt)) }

pub grows_more : (x : ℕ) (u v w : SharedState) → Grows x u v → Grows x v w → Grows x u w
grows_more x u v w a b = record {
  scene = b.scene ∙ a.scene;
  adds = (a.adds.0 ++ b.adds.0, b.adds.1 ∙ (ap (λ (t : List Entry). t ++ b.adds.0) a.adds.1 ∙ append_assoc u.journal a.adds.0 b.adds.0), all_append x a.adds.0 b.adds.0 a.adds.2 b.adds.2);
}

same_client : (k : ClientState) → IsSameClient k k
same_client k = record { scene = refl; number = refl; dying = refl }

pub same_again : (j k l : ClientState) → IsSameClient j k → IsSameClient k l → IsSameClient j l
same_again j k l a b = record { scene = b.scene ∙ a.scene; number = b.number ∙ a.number; dying = b.dying ∙ a.dying }

pub seated_same : (v w : SharedState) (k : ClientState) (c : ℕ) → IsSameRun v w → IsSeated v k c → IsSeated w k c
seated_same v w k c same seated = record {
  numbered = seated.numbered;
  fits = record { scene = seated.fits.scene ∙ sym same.scene; part = seated.fits.part ∙ ap (λ (w : World). w.client k.number) world };
  there = subst (λ (s : Scene). Contains (client_numbers s.clients) c) (sym same.scene) seated.there;
}
  where
    world : world_of v ≡ world_of w
    world = λ i. after (sym same.scene i) (sym same.journal i)

pub works_none : (c : ℕ) (v w : SharedState) (k : ClientState) → IsSameRun v w → IsSeated v k c → Works c v w k k
works_none c v w k same seated = record { grows = grows_none (c + 1) v w same; seated = seated_same v w k c same seated; same = same_client k }

pub works_made : (c : ℕ) (v w : SharedState) (k l : ClientState) (e : Entry) → IsSeated v k c → Makes v w k l e → client_of e ≡ c → Works c v w k l
works_made c v w k l e seated made of = record {
  grows = grows_one (c + 1) v w e made.added (ap (λ n. n + 1) of);
  seated = record {
    numbered = made.same.number ∙ seated.numbered;
    fits = made.fits;
    there = subst (λ (s : Scene). Contains (client_numbers s.clients) c) (sym made.added.scene) seated.there;
  };
  same = made.same;
}

pub works_more : (c : ℕ) (u v w : SharedState) (j k l : ClientState) → Works c u v j k → Works c v w k l → Works c u w j l
works_more c u v w j k l a b = record { grows = grows_more (c + 1) u v w a.grows b.grows; seated = b.seated; same = same_again j k l a.same b.same }

-- who left is at rest
pub left_rests : (p : Phase) (last : Bool) → (p ≡ Phase_is.Over) ⊎ (p ≡ Phase_is.Ask) → is_at_rest (left_from p last) ≡ true
left_rests p true (inl e) = rw e refl
left_rests p false (inl e) = rw e refl
left_rests p last (inr e) = rw e refl

-- the context that an entry leaves
pub left_by : (x : ℕ) (v w : SharedState) (e : Entry) → Added v w e → (after_entry v.scene (world_of v) e).left ≡ x → (world_of w).left ≡ x
left_by x v w e added is = ap (λ (u : World). u.left) (world_added v w e added) ∙ is
