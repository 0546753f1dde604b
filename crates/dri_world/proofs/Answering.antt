-- What turns and kills answer, from what they made.
use Rattle.std.proofs.Common.{◌≡◌, ◌≤◌, ◌<◌, ℕ, List, [], ◌∷◌, ◌++◌, Option, Some, None, true, false, length, get_or, arith, refl, sym, ap, ◌∙◌, subst}
use Rattle.std.specs.Prelude.{◌↔◌, ◌==◌, Bool, Contains, slice_get}
use Rattle.std.specs.List.{All}
use Rattle.std.proofs.lemmas.Bool.{true≢false}
use Rattle.std.proofs.lemmas.Bool.Decides.{nat_tests}
use Rattle.std.proofs.lemmas.List.Elements.{All-head, All-tail}
use Rattle.std.proofs.Math.ListN.{set}
use Rattle.std.proofs.lemmas.Option.{slice_get_read, slice_get_within}
use Rattle.dri_base.specs.Ranges.{InRange, ItemInRange, client_numbers}
use Rattle.dri_base.specs.Scenes.{is_named, kills_in}
use Rattle.dri_base.specs.declared.command.Item.{Item}
use Rattle.dri_base.specs.declared.command.Item.TheVariants.{Kill, Turn}
use Rattle.dri_base.specs.declared.journal.Event.{Event}
use Rattle.dri_base.specs.declared.scene.ClientScript.{ClientScript}
use Rattle.dri_base.specs.declared.scene.Scene.{Scene}
use Rattle.dri_base.proofs.RangeLemmas.{well_formed}
use Rattle.dri_driver.specs.Clients.{ClientState}
use Rattle.dri_core.specs.CoreRuns.{IsRun, after_events}
use Rattle.dri_core.specs.Cores.{opening_core}
use Rattle.dri_core.specs.Phases.{is_holding}
use Rattle.dri_core.specs.Privates.{Private}
use Rattle.dri_core.specs.Worlds.{World}
use Rattle.dri_core.specs.Turns.{kill, one_event, turn}
use Rattle.dri_core.proofs.Going.{Going, going_after}
use Rattle.dri_shared.specs.States.{IsSameRun, SharedState, world_of}
use Rattle.dri_world.specs.Courses.{Course, GoesOn, IsPassedOver, IsPastKilling, LeavesLess, core_of, is_move, turned}
use Rattle.dri_world.specs.Holding.{IsClientOf, IsHeld}
use Rattle.dri_world.specs.Sites.{kill_at, turn_at}
use Rattle.dri_world.specs.Turns.{Brings, IsSeated, MayBring}
use Rattle.dri_world.specs.declared.site.Site.{Site}
use Rattle.dri_world.specs.declared.turned.Turned.{Turned}
use Rattle.dri_world.specs.declared.turned.Turned.TheVariants.{Passed}
use Rattle.dri_world.proofs.Held.{going, world_is, kill_same, killed_on, may_kill, may_turn, same_run, seated, still_on, turn_same, turned_on}
use Rattle.dri_world.proofs.Passing.{killed_exactly, passed_exactly}
use Rattle.dri_world.proofs.Rounding.{turn_falls}

-- a client that stands at a place of the scene's scripts, in a world whose parts are held
pub record ClientAt (s : Scene) (es : List Event) (t : Site) (ks : List ClientState) (i n : ℕ) (k : ClientState) : Type 0 where
  pub held : IsHeld s es t ks
  pub number : slice_get (client_numbers s.clients) i ≡ Some n
  pub client : slice_get ks i ≡ Some k

-- the place of a script is one of a client
pub within_scene : (s : Scene) (es : List Event) (t : Site) (ks : List ClientState) (i n : ℕ) → IsHeld s es t ks → slice_get (client_numbers s.clients) i ≡ Some n → i < length ks
within_scene s es t ks i n held at_i = omega (arith, slice_get_within (client_numbers s.clients) i n at_i, held.clients.number)

pub stands_in : (s : Scene) (es : List Event) (t : Site) (v' : SharedState) (ks : List ClientState) (i n : ℕ) (k : ClientState) → IsHeld s es t ks → IsSameRun t.shared v' →
    slice_get (client_numbers s.clients) i ≡ Some n → k ≡ get_or ks i k → ClientAt s es (record { shared = v'; lock = t.lock }) ks i n k
stands_in s es t v' ks i n k held same at_i is = record {
  held = same_run s es t v' ks held same;
  number = at_i;
  client = slice_get_read ks (length ks) i k refl (within_scene s es t ks i n held at_i) is;
}

-- the place of a number among the scene's
pub placed : (s t : Scene) (ps : List ClientScript) (i n : ℕ) → t ≡ s → ps ≡ t.clients → slice_get (client_numbers ps) i ≡ Some n → slice_get (client_numbers s.clients) i ≡ Some n
placed s t ps i n same own at = subst (λ (qs : List ClientScript). slice_get (client_numbers qs) i ≡ Some n) (own ∙ ap (λ (x : Scene). x.clients) same) at

-- a client that the schedule kills is one of the scene's
pub named_there : (numbers : List ℕ) (items : List Item) (c : ℕ) → All (ItemInRange numbers) items → kills_in items c ≡ true → Contains numbers c
named_there numbers [] c all e = absurd (true≢false (sym e))
named_there numbers (Turn a ∷ items) c all e = named_there numbers items c (All-tail (ItemInRange numbers) (Turn a) items all) e
named_there numbers (Kill d ∷ items) c all e = by_name (d == c) refl (named_there numbers items c (All-tail (ItemInRange numbers) (Kill d) items all))
  where
    by_name : (b : Bool) → (d == c) ≡ b → (kills_in items c ≡ true → Contains numbers c) → Contains numbers c
    by_name true n later = let same : d ≡ c = grind (arith, nat_tests) in subst (Contains numbers) same (All-head (ItemInRange numbers) (Kill d) items all)
    by_name false n later = later (rw n at e)

module _ (s : Scene) (es : List Event) (t : Site) (ks : List ClientState) (i n : ℕ) (k : ClientState) (at : ClientAt s es t ks i n k) where
  pub is_seated : 1 ≤ t.shared.spare → IsSeated t k
  is_seated room = seated s es t ks at.held i n k at.number at.client room

  pub turn_may : MayBring t (turn_at t k)
  turn_may = may_turn s es t ks at.held n _ (turn_same s es t ks at.held i n k at.number at.client)

  pub turn_event : (o : Option Event) → o ≡ turn_at t k → o ≡ turn s (after_events s (opening_core s) es) n
  turn_event o is = is ∙ turn_same s es t ks at.held i n k at.number at.client

  pub turn_held : (o : Option Event) (es' : List Event) (t' : Site) (k' : ClientState) → o ≡ turn_at t k → es' ≡ es ++ one_event o → Brings o t t' k k' → IsHeld s es' t' (set ks i k')
  turn_held o es' t' k' is more brings = subst (λ x. IsHeld s x t' (set ks i k')) (sym more) (turned_on s es t ks at.held i n k k' t' o at.number at.client (turn_event o is) brings)

  pub still_held : (es' : List Event) (t' : Site) (k' : ClientState) → es' ≡ es → Brings None t t' k k' → IsHeld s es' t' (set ks i k')
  still_held es' t' k' same brings = subst (λ x. IsHeld s x t' (set ks i k')) (sym same) (still_on s es t ks at.held i n k k' t' at.number at.client brings)

  pub kill_may : is_named s n ≡ true → MayBring t (kill_at t k)
  kill_may named = may_kill s es t ks at.held n _ named (kill_same s es t ks at.held i n k at.number at.client)

  pub kill_event : (o : Option Event) → o ≡ kill_at t k → o ≡ kill (after_events s (opening_core s) es) n
  kill_event o is = is ∙ kill_same s es t ks at.held i n k at.number at.client

  pub kill_held : (o : Option Event) (es' : List Event) (t' : Site) (k' : ClientState) → is_named s n ≡ true → o ≡ kill_at t k → es' ≡ es ++ one_event o → Brings o t t' k k' → IsHeld s es' t' (set ks i k')
  kill_held o es' t' k' named is more brings = subst (λ x. IsHeld s x t' (set ks i k')) (sym more) (killed_on s es t ks at.held i n k k' t' o at.number at.client named (kill_event o is) brings)

  -- who is dying doesn't hold
  pub dying_rests : k.dying ≡ true → is_holding k.phase ≡ false
  dying_rests d = ap (λ (p : Private). is_holding p.phase) (was.fits.part ∙ ap (world_of t.shared).client was.numbered ∙ ap (λ (w : World). w.client n) (world_is s es t ks at.held))
      ∙ (going s es t ks at.held).known.queued.alive n (sym was.dying ∙ d)
    where
      was : IsClientOf t.shared (after_events s (opening_core s) es) n k
      was = at.held.clients.each i n k at.number at.client

-- the answers of a turn
pub record TurnAnswers (w w' : Course) (a : ℕ) (t : Turned) : Type 0 where
  pub told : t ≡ turned (turn w.scene (core_of w) a)
  pub made : GoesOn w w' (one_event (turn w.scene (core_of w) a))
  pub passed : (t ≡ Passed) ↔ IsPassedOver w.scene (core_of w) a
  pub less : LeavesLess w w' (is_move t)

pub turn_answers : (s : Scene) (es es' : List Event) (w : Course) (a : ℕ) (o : Option Event) (t : Turned) → InRange s → IsRun s es → record { scene = s; events = es } ≡ w →
    o ≡ turn s (after_events s (opening_core s) es) a → t ≡ turned o → es' ≡ es ++ one_event o → TurnAnswers w (record { scene = s; events = es' }) a t
turn_answers s es es' w a o t good run view is tells more = subst (λ x. TurnAnswers x (record { scene = s; events = es' }) a t) view (record {
  told = told;
  made = made;
  passed = passed_exactly s (after_events s (opening_core s) es) going_on.known going_on.lively a t told;
  less = subst (λ x. LeavesLess (record { scene = s; events = es }) (record { scene = s; events = es' }) (is_move x)) (sym told) (turn_falls (record { scene = s; events = es }) (record { scene = s; events = es' }) a (record { good = good; run = run }) made);
})
  where
    going_on : Going s (after_events s (opening_core s) es)
    going_on = going_after s es (well_formed s good) run

    told : t ≡ turned (turn s (after_events s (opening_core s) es) a)
    told = tells ∙ ap turned is

    made : GoesOn (record { scene = s; events = es }) (record { scene = s; events = es' }) (one_event (turn s (after_events s (opening_core s) es) a))
    made = record { scene = refl; events = more ∙ ap (λ x. es ++ one_event x) is }

-- the answers of a kill
pub record KillAnswers (w w' : Course) (c : ℕ) (t : Turned) : Type 0 where
  pub told : t ≡ turned (kill (core_of w) c)
  pub made : GoesOn w w' (one_event (kill (core_of w) c))
  pub passed : (t ≡ Passed) ↔ IsPastKilling (core_of w) c

pub kill_answers : (s : Scene) (es es' : List Event) (w : Course) (c : ℕ) (o : Option Event) (t : Turned) → InRange s → IsRun s es → record { scene = s; events = es } ≡ w →
    o ≡ kill (after_events s (opening_core s) es) c → t ≡ turned o → es' ≡ es ++ one_event o → KillAnswers w (record { scene = s; events = es' }) c t
kill_answers s es es' w c o t good run view is tells more = subst (λ x. KillAnswers x (record { scene = s; events = es' }) c t) view (record {
  told = tells ∙ ap turned is;
  made = record { scene = refl; events = more ∙ ap (λ x. es ++ one_event x) is };
  passed = killed_exactly s (after_events s (opening_core s) es) going_on.known going_on.lively c t (tells ∙ ap turned is);
})
  where
    going_on : Going s (after_events s (opening_core s) es)
    going_on = going_after s es (well_formed s good) run
