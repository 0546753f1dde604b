-- A world's parts: what its type keeps, and that turns and kills keep it.
use Rattle.std.proofs.Common.{◌≡◌, ◌≢◌, ◌≤◌, ◌<◌, ℕ, zero, suc, List, [], ◌∷◌, ◌++◌, Bool, true, false, Option, Some, None, arith, refl, sym, ap, ◌∙◌, subst, inl, inr}
use Rattle.std.specs.Prelude.{◌⊎◌, if◌then◌else◌, slice_get}
use Rattle.std.proofs.Math.ListN.{set, length-set}
use Rattle.std.proofs.lemmas.Bool.{cases_eq}
use Rattle.std.proofs.lemmas.List.{append-nil}
use Rattle.std.proofs.lemmas.Option.{get_or_from_slice_get, slice_get_within, same_Some}
use Rattle.dri_base.specs.Ranges.{ClientInRange, InRange, client_numbers, heap_bytes}
use Rattle.dri_base.specs.Scenes.{commands_of, is_named}
use Rattle.dri_base.specs.declared.journal.Entry.{Entry}
use Rattle.dri_base.specs.declared.journal.Event.{Event}
use Rattle.dri_base.specs.declared.journal.Event.TheVariants.{Gone}
use Rattle.dri_base.specs.declared.scene.Scene.{Scene}
use Rattle.dri_base.proofs.RangeLemmas.{IsWellFormed, well_formed}
use Rattle.dri_driver.specs.Clients.{ClientState}
use Rattle.dri_driver.specs.Opening.{AreOpening, IsOpening}
use Rattle.dri_core.specs.CoreRuns.{IsRun, LegalEvents, after_events}
use Rattle.dri_core.specs.Cores.{Core, Word, entry_of, journal_of, opening_core, with_entry}
use Rattle.dri_core.specs.EventTable.{LegalEvent, after_event, queue_after, word_after, world_after}
use Rattle.dri_core.specs.Phases.{Phase, Out, Old, In, Over, Ask, Asking, Ended, Dead}
use Rattle.dri_core.specs.Runs.{after}
use Rattle.dri_core.specs.Turns.{core_after, kill, one_event, or_waiting, server_turn, turn, phase_turn, turn_of}
use Rattle.dri_core.specs.Worlds.{World, opening}
use Rattle.dri_core.specs.Privates.{opening_part}
use Rattle.dri_core.proofs.Bounds.{numbers_within}
use Rattle.dri_core.proofs.Cores.{IsLegal, journal_after, legal_of}
use Rattle.dri_core.proofs.Going.{Going, going_after}
use Rattle.dri_core.proofs.Laws.{after-push}
use Rattle.dri_core.proofs.OneTurn.{turns_are_legal}
use Rattle.dri_core.proofs.Rounds.{after_append, kill_legal}
use Rattle.dri_core.proofs.CoreLaws.{journal-append}
use Rattle.dri_shared.specs.States.{IsSameRun, SharedState, world_of}
use Rattle.dri_world.specs.Holding.{HasClients, IsClientOf, IsHeld}
use Rattle.dri_world.specs.Sites.{core_at, kill_at, turn_at}
use Rattle.dri_world.specs.Turns.{Brings, BringsTo, IsSeated, MayAddIt, MayBring}
use Rattle.dri_world.specs.declared.site.Site.{Site}
use Rattle.dri_world.proofs.Places.{apart, stands, unwritten, written}
use Rattle.dri_world.proofs.Whose.{IsOf, dying_at, kill_is_of, others, others_dying, turn_is_of}

-- more room changes nothing
pub same_run : (s : Scene) (es : List Event) (t : Site) (v' : SharedState) (ks : List ClientState) → IsHeld s es t ks → IsSameRun t.shared v' → IsHeld s es (record { shared = v'; lock = t.lock }) ks
same_run s es t v' ks held same = record {
  good = held.good;
  run = held.run;
  scene = same.scene ∙ held.scene;
  journal = same.journal ∙ held.journal;
  word = held.word;
  queue = held.queue;
  clients = record { number = held.clients.number; each = λ i n k at_i at_k. client n k (held.clients.each i n k at_i at_k) };
}
  where
    client : (n : ℕ) (k : ClientState) → IsClientOf t.shared (after_events s (opening_core s) es) n k → IsClientOf v' (after_events s (opening_core s) es) n k
    client n k is = record { numbered = is.numbered; fits = record { scene = is.fits.scene ∙ sym same.scene; part = rw (same.scene, same.journal) is.fits.part }; dying = is.dying }

-- events after events
legal_events_join : (s : Scene) (k : Core) (past rest : List Event) → LegalEvents s k past → LegalEvents s (after_events s k past) rest → LegalEvents s k (past ++ rest)
legal_events_join s k [] rest before more = more
legal_events_join s k (e ∷ past) rest before more = (before.0, legal_events_join s (after_event s k e) past rest before.1 more)

-- a client's turn rests on whether it is dying, and on no other's dying
local_turn : (s : Scene) (w : World) (word : Word) (queue : List ℕ) (f g : ℕ → Bool) (c : ℕ) → f c ≡ g c →
    turn_of s (record { world = w; word = word; queue = queue; dying = f }) c ≡ turn_of s (record { world = w; word = word; queue = queue; dying = g }) c
local_turn s w word queue f g c same = rw same (by_life (g c) ((w.client c).phase))
  where
    a : Core
    a = record { world = w; word = word; queue = queue; dying = f }

    b : Core
    b = record { world = w; word = word; queue = queue; dying = g }

    by_phase : (p : Phase) → phase_turn s a c p ≡ phase_turn s b c p
    by_phase Out = refl
    by_phase Old = refl
    by_phase In = refl
    by_phase Over = refl
    by_phase Ask = refl
    by_phase Asking = refl
    by_phase Ended = refl
    by_phase Dead = refl

    by_life : (d : Bool) (p : Phase) → (if d then or_waiting a c (Gone c) else phase_turn s a c p) ≡ (if d then or_waiting b c (Gone c) else phase_turn s b c p)
    by_life true p = refl
    by_life false p = by_phase p

client_turn_is : (s : Scene) (k : Core) (c : ℕ) → 0 < c → turn s k c ≡ turn_of s k c
client_turn_is s k zero l = absurd (omega arith)
client_turn_is s k (suc c) l = refl

may_add : (v : SharedState) (o : Option Entry) → IsLegal v.scene (world_of v) o → MayAddIt v o
may_add v None h = tt
may_add v (Some e) h = h

-- the world after an event, where there is one
world_brought : (t : Site) (v' : SharedState) (o : Option Event) (d : Bool) → v'.scene ≡ t.shared.scene → v'.journal ≡ t.shared.journal ++ journal_of (one_event o) → world_of v' ≡ (core_after t.shared.scene (core_at t d) o).world
world_brought t v' None d scene journal = rw (scene, journal, append-nil t.shared.journal) refl
world_brought t v' (Some e) d scene journal = rw (scene, journal) (by_entry (entry_of e))
  where
    by_entry : (x : Option Entry) → after t.shared.scene (t.shared.journal ++ with_entry x []) ≡ world_after t.shared.scene (world_of t.shared) x
    by_entry None = rw (append-nil t.shared.journal) refl
    by_entry (Some x) = after-push t.shared.scene t.shared.journal x

module _ (s : Scene) (es : List Event) (t : Site) (ks : List ClientState) (held : IsHeld s es t ks) where
  abbrev core : Core
  core = after_events s (opening_core s) es

  abbrev good : IsWellFormed s
  good = well_formed s held.good

  pub going : Going s (after_events s (opening_core s) es)
  going = going_after s es good held.run

  pub world_is : world_of t.shared ≡ (after_events s (opening_core s) es).world
  world_is = rw (held.scene, held.journal) (journal_after s es)

  number_within : (i n : ℕ) → slice_get (client_numbers s.clients) i ≡ Some n → (n ≤ 32) × (0 < n)
  number_within i n at_i =
      let all = numbers_within (ClientInRange s.windows (heap_bytes s)) s.clients held.good.scripted.each (λ p c. c.numbered) in
      let below = slice_get_within (client_numbers s.clients) i n at_i in
      let is = get_or_from_slice_get (client_numbers s.clients) i n n at_i in
      (subst (λ m. m ≤ 32) is (all.0 i n below), subst (λ m. 0 < m) is (all.1 i n below))

  -- a client is ready for its turn
  pub seated : (i n : ℕ) (k : ClientState) → slice_get (client_numbers s.clients) i ≡ Some n → slice_get ks i ≡ Some k → 1 ≤ t.shared.spare → IsSeated t k
  seated i n k at_i at_k room =
      let was = held.clients.each i n k at_i at_k in
      record {
        fits = was.fits;
        there = rw (held.scene, was.numbered) (stands (client_numbers s.clients) i n at_i);
        small = rw was.numbered (number_within i n at_i).0;
        room = room;
      }

  -- its turn is that of the core
  pub turn_same : (i n : ℕ) (k : ClientState) → slice_get (client_numbers s.clients) i ≡ Some n → slice_get ks i ≡ Some k → turn_at t k ≡ turn s (after_events s (opening_core s) es) n
  turn_same i n k at_i at_k =
      ap (turn_of t.shared.scene (core_at t k.dying)) (held.clients.each i n k at_i at_k).numbered
      ∙ ap (λ x. turn_of x (record { world = world_of t.shared; word = t.lock.word; queue = t.lock.queue; dying = λ d. k.dying }) n) held.scene
      ∙ ap (λ w. turn_of s (record { world = w; word = t.lock.word; queue = t.lock.queue; dying = λ d. k.dying }) n) world_is
      ∙ ap (λ w. turn_of s (record { world = core.world; word = w; queue = t.lock.queue; dying = λ d. k.dying }) n) held.word
      ∙ ap (λ q. turn_of s (record { world = core.world; word = core.word; queue = q; dying = λ d. k.dying }) n) held.queue
      ∙ local_turn s core.world core.word core.queue (λ d. k.dying) core.dying n (held.clients.each i n k at_i at_k).dying
      ∙ sym (client_turn_is s core n (number_within i n at_i).1)

  pub server_same : server_turn t.shared.scene (core_at t false) ≡ turn s (after_events s (opening_core s) es) 0
  server_same =
      ap (λ x. server_turn x (record { world = world_of t.shared; word = t.lock.word; queue = t.lock.queue; dying = λ d. false })) held.scene
      ∙ ap (λ w. server_turn s (record { world = w; word = t.lock.word; queue = t.lock.queue; dying = λ d. false })) world_is
      ∙ ap (λ w. server_turn s (record { world = core.world; word = w; queue = t.lock.queue; dying = λ d. false })) held.word
      ∙ ap (λ q. server_turn s (record { world = core.world; word = core.word; queue = q; dying = λ d. false })) held.queue

  pub kill_same : (i n : ℕ) (k : ClientState) → slice_get (client_numbers s.clients) i ≡ Some n → slice_get ks i ≡ Some k → kill_at t k ≡ kill (after_events s (opening_core s) es) n
  kill_same i n k at_i at_k =
      ap (kill (core_at t k.dying)) (held.clients.each i n k at_i at_k).numbered
      ∙ ap (λ w. kill (record { world = w; word = t.lock.word; queue = t.lock.queue; dying = λ d. k.dying }) n) world_is
      ∙ ap (λ b. kill (record { world = core.world; word = t.lock.word; queue = t.lock.queue; dying = λ d. b }) n) (held.clients.each i n k at_i at_k).dying

  -- what is legal may be brought
  may : (o : Option Event) → ((e : Event) → o ≡ Some e → LegalEvent s core e) → MayBring t o
  may None legal = tt
  may (Some e) legal = may_add t.shared (entry_of e) (subst (λ x. IsLegal x (world_of t.shared) (entry_of e)) (sym held.scene) (subst (λ w. IsLegal s w (entry_of e)) (sym world_is) (legal_of s core e going.known.sound going.known.tied (legal e refl))))

  turn_legal : (a : ℕ) (e : Event) → turn s core a ≡ Some e → LegalEvent s core e
  turn_legal a e h = turns_are_legal s core good going.known a e h

  pub may_turn : (a : ℕ) (o : Option Event) → o ≡ turn s (after_events s (opening_core s) es) a → MayBring t o
  may_turn a o is = may o (λ e h. turn_legal a e (sym is ∙ h))

  pub may_kill : (c : ℕ) (o : Option Event) → is_named s c ≡ true → o ≡ kill (after_events s (opening_core s) es) c → MayBring t o
  may_kill c o named is = may o (λ e h. kill_legal s core c e named (sym is ∙ h))

  after_one : (o : Option Event) → after_events s (opening_core s) (es ++ one_event o) ≡ core_after s core o
  after_one None = ap (after_events s (opening_core s)) (append-nil es)
  after_one (Some e) = after_append s (opening_core s) es (e ∷ [])

  run_one : (o : Option Event) → ((e : Event) → o ≡ Some e → LegalEvent s core e) → IsRun s (es ++ one_event o)
  run_one None legal = subst (IsRun s) (sym (append-nil es)) held.run
  run_one (Some e) legal = legal_events_join s (opening_core s) es (e ∷ []) held.run (legal e refl, tt)

  word_on : (o : Option Event) (d : Bool) → (core_after t.shared.scene (core_at t d) o).word ≡ (core_after s core o).word
  word_on None d = held.word
  word_on (Some e) d = ap (λ w. word_after w e) held.word

  queue_on : (o : Option Event) (d : Bool) → (core_after t.shared.scene (core_at t d) o).queue ≡ (core_after s core o).queue
  queue_on None d = held.queue
  queue_on (Some e) d = ap (λ q. queue_after q e) held.queue

  -- the parts after an event, where there is one
  held_on : (o : Option Event) (dying : Bool) (t' : Site) (ks' : List ClientState) → ((e : Event) → o ≡ Some e → LegalEvent s core e) → BringsTo dying o t t' →
      HasClients t'.shared (core_after s core o) (client_numbers s.clients) ks' → IsHeld s (es ++ one_event o) t' ks'
  held_on o dying t' ks' legal brings clients = record {
    good = held.good;
    run = run_one o legal;
    scene = brings.scene ∙ held.scene;
    journal = brings.journal ∙ ap (λ j. j ++ journal_of (one_event o)) held.journal ∙ sym (journal-append es (one_event o));
    word = brings.word ∙ word_on o dying ∙ ap (λ (c : Core). c.word) (sym (after_one o));
    queue = brings.queue ∙ queue_on o dying ∙ ap (λ (c : Core). c.queue) (sym (after_one o));
    clients = subst (λ c. HasClients t'.shared c (client_numbers s.clients) ks') (sym (after_one o)) clients;
  }

  dying_on : (o : Option Event) (k : ClientState) (n : ℕ) → k.dying ≡ core.dying n → (core_after t.shared.scene (core_at t k.dying) o).dying n ≡ (core_after s core o).dying n
  dying_on None k n same = same
  dying_on (Some e) k n same = dying_at (λ d. k.dying) core.dying e n same

  -- another's client stays as it is
  other : (a : ℕ) (o : Option Event) (dying : Bool) (t' : Site) (m : ℕ) (k : ClientState) → IsOf a o → BringsTo dying o t t' → m ≢ a → IsClientOf t.shared core m k → IsClientOf t'.shared (core_after s core o) m k
  other a o dying t' m k of brings ne is = record {
    numbered = is.numbered;
    fits = record {
      scene = is.fits.scene ∙ sym brings.scene;
      part = is.fits.part ∙ sym (ap (λ (w : World). w.client k.number) (world_brought t t'.shared o dying brings.scene brings.journal) ∙ part_stays o of);
    };
    dying = is.dying ∙ sym (dying_stays o of);
  }
    where
      part_stays : (o : Option Event) → IsOf a o → (core_after t.shared.scene (core_at t dying) o).world.client k.number ≡ (world_of t.shared).client k.number
      part_stays None of = refl
      part_stays (Some e) of = others t.shared.scene (world_of t.shared) e k.number (λ same. ne (sym is.numbered ∙ sym same ∙ of))

      dying_stays : (o : Option Event) → IsOf a o → (core_after s core o).dying m ≡ core.dying m
      dying_stays None of = refl
      dying_stays (Some e) of = others_dying core.dying e m (λ same. ne (sym same ∙ of))

  -- a client's event, where there is one, keeps the parts
  brought : (i n : ℕ) (k k' : ClientState) (t' : Site) (o : Option Event) → slice_get (client_numbers s.clients) i ≡ Some n → slice_get ks i ≡ Some k →
      ((e : Event) → o ≡ Some e → LegalEvent s core e) → IsOf n o → Brings o t t' k k' → IsHeld s (es ++ one_event o) t' (set ks i k')
  brought i n k k' t' o at_i at_k legal of brings =
      held_on o k.dying t' (set ks i k') legal brings.site (record {
        number = length-set ks i k' ∙ held.clients.number;
        each = λ j m x at_j at_x. by_place j m x at_j at_x (cases_eq j i);
      })
    where
      was : IsClientOf t.shared core n k
      was = held.clients.each i n k at_i at_k

      mine : IsClientOf t'.shared (core_after s core o) n k'
      mine = record {
        numbered = brings.numbered ∙ was.numbered;
        fits = brings.fits;
        dying = brings.dying ∙ ap (core_after t.shared.scene (core_at t k.dying) o).dying was.numbered ∙ dying_on o k n was.dying;
      }

      by_place : (j m : ℕ) (x : ClientState) → slice_get (client_numbers s.clients) j ≡ Some m → slice_get (set ks i k') j ≡ Some x → (j ≡ i) ⊎ (j ≡ i → ⊥) → IsClientOf t'.shared (core_after s core o) m x
      by_place j m x at_j at_x (inl same) =
          let is_n : n ≡ m = same_Some _ _ (sym at_i ∙ subst (λ y. slice_get (client_numbers s.clients) y ≡ Some m) same at_j) in
          let is_k : k' ≡ x = sym (written ks i k' x (subst (λ y. slice_get (set ks i k') y ≡ Some x) same at_x)) in
          subst (λ y. IsClientOf t'.shared (core_after s core o) y x) is_n (subst (IsClientOf t'.shared (core_after s core o) n) is_k mine)
      by_place j m x at_j at_x (inr ne) =
          other n o k.dying t' m x of brings.site (apart (client_numbers s.clients) i j n m held.good.scripted.rising at_i at_j ne)
          (held.clients.each j m x at_j (unwritten ks i j k' x ne at_x))

  -- a turn of a client keeps the parts
  pub turned_on : (i n : ℕ) (k k' : ClientState) (t' : Site) (o : Option Event) → slice_get (client_numbers s.clients) i ≡ Some n → slice_get ks i ≡ Some k →
      o ≡ turn s (after_events s (opening_core s) es) n → Brings o t t' k k' → IsHeld s (es ++ one_event o) t' (set ks i k')
  turned_on i n k k' t' o at_i at_k is brings =
      brought i n k k' t' o at_i at_k (λ e h. turn_legal n e (sym is ∙ h)) (subst (IsOf n) (sym is) (turn_is_of s core n)) brings

  -- a kill keeps the parts
  pub killed_on : (i n : ℕ) (k k' : ClientState) (t' : Site) (o : Option Event) → slice_get (client_numbers s.clients) i ≡ Some n → slice_get ks i ≡ Some k →
      is_named s n ≡ true → o ≡ kill (after_events s (opening_core s) es) n → Brings o t t' k k' → IsHeld s (es ++ one_event o) t' (set ks i k')
  killed_on i n k k' t' o at_i at_k named is brings =
      brought i n k k' t' o at_i at_k (λ e h. kill_legal s core n e named (sym is ∙ h)) (subst (IsOf n) (sym is) (kill_is_of core n)) brings

  -- no event keeps the parts
  pub still_on : (i n : ℕ) (k k' : ClientState) (t' : Site) → slice_get (client_numbers s.clients) i ≡ Some n → slice_get ks i ≡ Some k → Brings None t t' k k' → IsHeld s es t' (set ks i k')
  still_on i n k k' t' at_i at_k brings =
      subst (λ x. IsHeld s x t' (set ks i k')) (append-nil es) (brought i n k k' t' None at_i at_k (λ e h. absurd (grind arith)) tt brings)

  -- the server's event, where there is one, keeps the parts
  served : (t' : Site) (o : Option Event) → ((e : Event) → o ≡ Some e → LegalEvent s core e) → IsOf 0 o → BringsTo false o t t' → IsHeld s (es ++ one_event o) t' ks
  served t' o legal of brings =
      held_on o false t' ks legal brings (record {
        number = held.clients.number;
        each = λ j m x at_j at_x. other 0 o false t' m x of brings (above m (number_within j m at_j).1) (held.clients.each j m x at_j at_x);
      })
    where
      above : (m : ℕ) → 0 < m → m ≢ 0
      above m lt same = omega arith

  pub served_on : (t' : Site) (o : Option Event) → o ≡ turn s (after_events s (opening_core s) es) 0 → BringsTo false o t t' → IsHeld s (es ++ one_event o) t' ks
  served_on t' o is brings = served t' o (λ e h. turn_legal 0 e (sym is ∙ h)) (subst (IsOf 0) (sym is) (turn_is_of s core 0)) brings

  pub unserved_on : (t' : Site) → BringsTo false None t t' → IsHeld s es t' ks
  unserved_on t' brings = subst (λ x. IsHeld s x t' ks) (append-nil es) (served t' None (λ e h. absurd (grind arith)) tt brings)

-- a world at the opening
pub held_open : (s : Scene) (t : Site) (ks : List ClientState) → InRange s → t.shared.scene ≡ s → t.shared.journal ≡ [] → t.lock.word ≡ record { held = false; contended = false; context = 1 } → t.lock.queue ≡ [] →
    AreOpening s (client_numbers s.clients) ks → IsHeld s [] t ks
held_open s t ks good scene journal word queue open_ones = record {
  good = good;
  run = tt;
  scene = scene;
  journal = journal;
  word = word;
  queue = queue;
  clients = record { number = open_ones.number; each = λ i n k at_i at_k. client n k (open_ones.each i n k at_i at_k) };
}
  where
    world_opens : world_of t.shared ≡ opening s
    world_opens = rw (scene, journal) refl

    client : (n : ℕ) (k : ClientState) → IsOpening s n k → IsClientOf t.shared (opening_core s) n k
    client n k is = record {
      numbered = is.numbered;
      fits = record { scene = is.scene ∙ sym scene; part = is.part ∙ ap (λ c. opening_part (commands_of s c)) (sym is.numbered) ∙ ap (λ (w : World). w.client k.number) (sym world_opens) };
      dying = is.living;
    }
