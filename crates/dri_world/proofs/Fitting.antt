-- A client and the shared value after one entry more.
use Rattle.std.proofs.Common.{◌≡◌, ◌++◌, [], ℕ, Bool, true, false, Option, Some, None, arith, refl, sym, ap, ◌∙◌, subst}
use Rattle.std.specs.Prelude.{not, ◌==◌, ◌&&◌, if◌then◌else◌}
use Rattle.std.proofs.lemmas.Bool.{true≢false}
use Rattle.std.proofs.lemmas.Bool.Decides.{nat_tests}
use Rattle.dri_base.specs.declared.command.Command.{Command}
use Rattle.dri_base.specs.declared.command.Command.TheVariants.{Set, Clear, Triangle, Swap, Yield, Die}
use Rattle.dri_base.specs.declared.journal.Entry.{Entry}
use Rattle.dri_base.specs.declared.journal.Entry.TheVariants as Entry_is
use Rattle.dri_base.specs.declared.journal.Event.{Event}
use Rattle.dri_base.specs.declared.journal.Event.TheVariants.{Emit, Run, Info, Gone}
use Rattle.dri_base.specs.declared.scene.Scene.{Scene}
use Rattle.std.proofs.lemmas.List.{append-nil}
use Rattle.dri_driver.specs.Acts.{event_of, next_event}
use Rattle.dri_shared.specs.Sides.{value_at, world_at}
use Rattle.dri_shared.specs.declared.client_side.ClientSide.{ClientSide}
use Rattle.dri_driver.specs.Clients.{ClientState, next_command}
use Rattle.dri_driver.specs.Fits.{Fits, HasMade, IsSameClient}
use Rattle.dri_core.specs.EventTable.{leaves}
use Rattle.dri_core.specs.Phases as Phase_is
use Rattle.dri_core.specs.Privates.{textured_with}
use Rattle.dri_core.specs.Cores.{journal_of}
use Rattle.dri_core.specs.Turns.{acting_turn, core_after, emit_turn, one_event, triangle_turn, waiting}
use Rattle.dri_core.specs.Worlds.{World}
use Rattle.dri_model.specs.Groups.{is_empty, bits}
use Rattle.dri_model.specs.Heaps as Heaps
use Rattle.dri_shared.specs.Copies.{IsToldOf, corner}
use Rattle.dri_shared.specs.States.{Added, SharedState, world_of}
use Rattle.dri_shared.specs.declared.answers.Told.{Told}
use Rattle.dri_world.specs.Sites.{core_at}
use Rattle.dri_world.specs.Turns.{Brings, BringsTo, IsSeated, is_still}
use Rattle.dri_world.specs.declared.lock.Lock.{Lock}
use Rattle.dri_world.specs.declared.site.Site.{Site}
use Rattle.dri_world.proofs.Whose.{waits_live}

-- a client that died
pub gone_brings : (t : Site) (v' : SharedState) (l' : Lock) (k k' : ClientState) (c : ℕ) → IsSeated t k → c ≡ k.number → Added t.shared v' (Entry_is.Gone c) → k' ≡ record k { dying = false; phase = Phase_is.Dead } →
    (Fits k t.shared → Added t.shared v' (Entry_is.Gone k.number) → Fits k' v') → l'.word ≡ record { held = false; contended = false; context = 0 } → l'.queue ≡ leaves c t.lock.queue →
    Brings (Some (Gone k.number)) t (record { shared = v'; lock = l' }) k k'
gone_brings t v' l' k k' c seated same added is fits word queue = record {
  site = record { scene = added.scene; journal = made.journal; word = word; queue = queue ∙ ap (λ n. leaves n t.lock.queue) same };
  numbered = ap (λ x. x.number) is;
  fits = fits seated.fits made;
  dying = ap (λ x. x.dying) is ∙ sym (over k.number k.dying);
}
  where
    made : Added t.shared v' (Entry_is.Gone k.number)
    made = subst (λ n. Added t.shared v' (Entry_is.Gone n)) same added

    over : (n : ℕ) (b : Bool) → (not (n == n) && b) ≡ false
    over n b = grind (arith, nat_tests)

-- a client that was told what its window shows
pub told_brings : (t : Site) (v' : SharedState) (l' : Lock) (k k' : ClientState) (c : ℕ) (news : Told) → IsSeated t k → c ≡ k.number → Added t.shared v' (Entry_is.Info c) → IsToldOf t.shared.scene (world_of t.shared) c news →
    k' ≡ record k { phase = Phase_is.Out; stamp = news.stamp; clips = news.clips; origin = corner news.origin } →
    (Fits k t.shared → Added t.shared v' (Entry_is.Info k.number) → IsToldOf t.shared.scene (world_of t.shared) k.number news → Fits k' v') →
    l'.word ≡ record { held = false; contended = false; context = 1 } → l'.queue ≡ leaves c t.lock.queue → Brings (Some (Info k.number)) t (record { shared = v'; lock = l' }) k k'
told_brings t v' l' k k' c news seated same added tells is fits word queue = record {
  site = record { scene = added.scene; journal = made.journal; word = word; queue = queue ∙ ap (λ n. leaves n t.lock.queue) same };
  numbered = ap (λ x. x.number) is;
  fits = fits seated.fits made (subst (λ n. IsToldOf t.shared.scene (world_of t.shared) n news) same tells);
  dying = ap (λ x. x.dying) is;
}
  where
    made : Added t.shared v' (Entry_is.Info k.number)
    made = subst (λ n. Added t.shared v' (Entry_is.Info n)) same added

abbrev pub still_of : Option Event → Bool
still_of None = true
still_of (Some e) = is_still e

-- who may act, and whose next command isn't its death, makes such an event
pub still_acts : (s : Scene) (w : World) (c : ℕ) (command : Option Command) → (command ≡ Some Die → ⊥) → still_of (acting_turn s w c command) ≡ true
still_acts s w c None alive = refl
still_acts s w c (Some Die) alive = absurd (alive refl)
still_acts s w c (Some (Set setting)) alive = refl
still_acts s w c (Some (Clear colour depth)) alive = refl
still_acts s w c (Some Swap) alive = refl
still_acts s w c (Some Yield) alive = refl
still_acts s w c (Some (Triangle t)) alive = by_texture (textured_with (w.client c).state)
  where
    emits : still_of (emit_turn (w.client c) c) ≡ true
    emits = by_test (is_empty (w.client c).dirty)
      where
        by_test : (b : Bool) → still_of (if b then Some (Run c (w.client c).place) else Some (Emit c (bits (w.client c).dirty))) ≡ true
        by_test true = refl
        by_test false = refl

    by_texture : (o : Option ℕ) → still_of (triangle_turn s w c o) ≡ true
    by_texture None = emits
    by_texture (Some u) = by_run ((w.client c).placed u) refl
      where
        by_run : (o : Option Heaps.Spot) → (w.client c).placed u ≡ o → still_of (triangle_turn s w c (Some u)) ≡ true
        by_run None h = rw h refl
        by_run (Some r) h = rw h emits

still_is : (s : Scene) (w : World) (c : ℕ) (command : Option Command) (e : Event) → (command ≡ Some Die → ⊥) → acting_turn s w c command ≡ Some e → is_still e ≡ true
still_is s w c command e alive h = sym (ap still_of h) ∙ still_acts s w c command alive

-- a client that made such an event
ran_brings : (t t' : Site) (k k' : ClientState) (e : Entry) → Added t.shared t'.shared e → t'.lock ≡ t.lock → Fits k' t'.shared → IsSameClient k k' → is_still (event_of e) ≡ true → Brings (Some (event_of e)) t t' k k'
ran_brings t t' k k' (Entry_is.Emit c groups) added lock fits same still = record { site = record { scene = added.scene; journal = added.journal; word = ap (λ (l : Lock). l.word) lock; queue = ap (λ (l : Lock). l.queue) lock }; numbered = same.number; fits = fits; dying = same.dying }
ran_brings t t' k k' (Entry_is.Place c u first count) added lock fits same still = record { site = record { scene = added.scene; journal = added.journal; word = ap (λ (l : Lock). l.word) lock; queue = ap (λ (l : Lock). l.queue) lock }; numbered = same.number; fits = fits; dying = same.dying }
ran_brings t t' k k' (Entry_is.Run c i) added lock fits same still = record { site = record { scene = added.scene; journal = added.journal; word = ap (λ (l : Lock). l.word) lock; queue = ap (λ (l : Lock). l.queue) lock }; numbered = same.number; fits = fits; dying = same.dying }
ran_brings t t' k k' e added lock fits same still = absurd (true≢false (sym still))

-- no event, and all as before
pub brings_none : (t : Site) (v' : SharedState) (k : ClientState) → Fits k t.shared → v' ≡ t.shared → Brings None t (record { shared = v'; lock = t.lock }) k k
brings_none t v' k fits same = subst (λ (w : SharedState). Brings None t (record { shared = w; lock = t.lock }) k k) (sym same) (record {
  site = record { scene = refl; journal = sym (append-nil t.shared.journal); word = refl; queue = refl };
  numbered = refl;
  fits = fits;
  dying = refl;
})

-- waiting brings what the lock tells
pub waited : (t : Site) (l' : Lock) (dying : Bool) (o : Option Event) → l'.word ≡ (core_after t.shared.scene (core_at t dying) o).word → l'.queue ≡ (core_after t.shared.scene (core_at t dying) o).queue →
    journal_of (one_event o) ≡ [] → BringsTo dying o t (record { shared = t.shared; lock = l' })
waited t l' dying o word queue entry = record {
  scene = refl;
  journal = sym (append-nil t.shared.journal) ∙ ap (λ xs. t.shared.journal ++ xs) (sym entry);
  word = word;
  queue = queue;
}

pub wait_brings : (t : Site) (l' : Lock) (k : ClientState) (c : ℕ) (o : Option Event) → IsSeated t k → o ≡ waiting (core_at t k.dying) c → l'.word ≡ (core_after t.shared.scene (core_at t k.dying) o).word →
    l'.queue ≡ (core_after t.shared.scene (core_at t k.dying) o).queue → journal_of (one_event o) ≡ [] → Brings o t (record { shared = t.shared; lock = l' }) k k
wait_brings t l' k c o seated is word queue entry = record {
  site = waited t l' k.dying o word queue entry;
  numbered = refl;
  fits = seated.fits;
  dying = sym (waits_live t.shared.scene (core_at t k.dying) c k.number o is);
}

-- a client that made such an event in its side
pub ran_in : (t : Site) (v' : SharedState) (k k' : ClientState) (a b : ClientSide) (e : Entry) → HasMade k k' a b e → value_at a ≡ t.shared → v' ≡ value_at b → is_still (event_of e) ≡ true →
    Brings (Some (event_of e)) t (record { shared = v'; lock = t.lock }) k k'
ran_in t v' k k' a b e made from to still =
    ran_brings t (record { shared = v'; lock = t.lock }) k k' e
    (subst (λ (x : SharedState). Added x v' e) from (subst (λ (x : SharedState). Added (value_at a) x e) (sym to) made.makes.added)) refl (subst (Fits k') (sym to) made.fits) made.same still

-- such an event, told of the side, is the client's next one
pub still_in : (k : ClientState) (a : ClientSide) (e : Event) → (next_command k ≡ Some Die → ⊥) → next_event k (world_at a) ≡ Some e → is_still e ≡ true
still_in k a e alive event = still_is k.scene (world_at a) k.number (next_command k) e alive event
