-- What groups keep on their way: of a group's members all but the current one rest.
use Rattle.std.proofs.Common.{◌≡◌, ◌≢◌, ◌<◌, ◌+◌, ℕ, zero, suc, List, [], ◌∷◌, ◌++◌, Bool, true, false, Option, Some, None, arith, refl, sym, ap, ◌∙◌, subst, inl, inr}
use Rattle.std.specs.Prelude.{◌==◌, ◌&&◌, ◌||◌, ◌⊎◌, Contains, if◌then◌else◌, not, pred}
use Rattle.std.proofs.lemmas.Bool.{true≢false}
use Rattle.std.proofs.lemmas.Bool.Decides.{nat_tests}
use Rattle.dri_base.specs.declared.command.Command.{Command}
use Rattle.dri_base.specs.declared.command.Command.TheVariants as Command_is
use Rattle.dri_base.specs.declared.journal.Entry.{Entry}
use Rattle.dri_base.specs.declared.journal.Entry.TheVariants as Entry_is
use Rattle.dri_base.specs.declared.journal.Event.{Event}
use Rattle.dri_base.specs.declared.journal.Event.TheVariants.{Light, Kernel, Queue, Mark, Stale, Emit, Place, Run, LeaveLight, LeaveKernel, Info, Change, Stop, Gone}
use Rattle.dri_base.specs.declared.scene.Scene.{Scene}
use Rattle.dri_base.specs.Scenes.{command_at, window_of}
use Rattle.dri_core.specs.Cores.{Core, entry_of, is_queued}
use Rattle.dri_core.specs.Effects.{after_leave, is_last, placed_by, run_by, taken_in, told}
use Rattle.dri_core.specs.EntryTable.{after_entry}
use Rattle.dri_core.specs.EventTable.{LegalEvent, after_event, leaves, queue_after, world_after}
use Rattle.dri_core.specs.Phases.{Phase, Out, Old, In, Over, Ask, Asking, Ended, Dead, is_done, is_holding, left_from, phase_after, wants_in}
use Rattle.dri_core.specs.Privates.{Private}
use Rattle.dri_core.specs.Runs.{client_of}
use Rattle.dri_core.specs.TurnLaws.{actor_of}
use Rattle.dri_core.specs.Worlds.{World, put}
use Rattle.dri_core.proofs.Invariant.{is_acting}
use Rattle.dri_core.proofs.Parts.{put_here}
use Rattle.dri_core.proofs.TurnEvents.{Known}
use Rattle.dri_many.specs.declared.grouping.Grouping.{Grouping}
use Rattle.dri_world.specs.Currents.{Standing, current_at, current_member, current_place, ends_segment, is_member, is_over, live_place, member_at, moved_on, ran_after, reach, stands_after}
use Rattle.dri_world.proofs.Orders.{IsFirstLive, IsGood, live_is, stands_member, there_member}
use Rattle.dri_world.proofs.Whose.{others, others_dying}

-- holds nothing and asks for nothing
abbrev pub is_resting : Phase → Bool
is_resting Out = true
is_resting Ended = true
is_resting Dead = true
is_resting p = false

-- the client rests: it isn't in the queue, nor dying
pub record Quiet (k : Core) (c : ℕ) : Type 0 where
  pub resting : is_resting (k.world.client c).phase ≡ true
  pub unqueued : is_queued c k.queue ≡ false
  pub living : k.dying c ≡ false

-- whether a command ran fits the phase, and all but the current member rest
pub record Tidy (g : Grouping) (k : Core) (t : Standing) : Type 0 where
  pub ran : t.ran ≡ true → is_acting (k.world.client (current_at g t.place)).phase ≡ true
  pub over : (c : ℕ) → current_member g k.world t ≡ Some c → (k.world.client c).phase ≡ Over → t.ran ≡ true
  pub others : (c : ℕ) → Contains g.members c → (current_member g k.world t ≡ Some c → ⊥) → Quiet k c

-- where a group stands after an entry, where there is one
abbrev pub stood : Grouping → World → Standing → Option Entry → Standing
stood g w t None = t
stood g w t (Some e) = stands_after g w t e

-- the queue as others see it
left_other : (c a : ℕ) (q : List ℕ) → a ≢ c → is_queued c (leaves a q) ≡ is_queued c q
left_other c a [] ne = refl
left_other c a (b ∷ q) ne = by_name (b == a) refl (left_other c a q ne)
  where
    by_name : (x : Bool) → (b == a) ≡ x → is_queued c (leaves a q) ≡ is_queued c q → is_queued c (leaves a (b ∷ q)) ≡ is_queued c (b ∷ q)
    by_name true n same =
        let e : b ≡ a = grind (arith, nat_tests) in
        let other : (b == c) ≡ false = grind (arith, nat_tests, ne, e) in
        rw (n, other) same
    by_name false n same = rw n (ap (λ x. (b == c) || x) same)

joined_other : (c a : ℕ) (q : List ℕ) → a ≢ c → is_queued c (q ++ a ∷ []) ≡ is_queued c q
joined_other c a [] ne = let other : (a == c) ≡ false = grind (arith, nat_tests, ne) in rw other refl
joined_other c a (b ∷ q) ne = ap (λ x. (b == c) || x) (joined_other c a q ne)

left_self : (c : ℕ) (q : List ℕ) → is_queued c (leaves c q) ≡ false
left_self c [] = refl
left_self c (b ∷ q) = by_name (b == c) refl (left_self c q)
  where
    by_name : (x : Bool) → (b == c) ≡ x → is_queued c (leaves c q) ≡ false → is_queued c (leaves c (b ∷ q)) ≡ false
    by_name true n same = rw n same
    by_name false n same = rw n (rw n same)

queue_other : (q : List ℕ) (e : Event) (c : ℕ) → actor_of e ≢ c → is_queued c (queue_after q e) ≡ is_queued c q
queue_other q (Queue a) c ne = joined_other c a q ne
queue_other q (Kernel a found) c ne = left_other c a q ne
queue_other q (Info a) c ne = left_other c a q ne
queue_other q (Change i) c ne = left_other c 0 q ne
queue_other q (Stop a) c ne = left_other c a q ne
queue_other q (Gone a) c ne = left_other c a q ne
queue_other q _ c ne = refl

-- who rests goes on to rest while others act
pub quiet_on : (s : Scene) (k : Core) (e : Event) (c : ℕ) → actor_of e ≢ c → Quiet k c → Quiet (after_event s k e) c
quiet_on s k e c ne quiet = record {
  resting = ap (λ (p : Private). is_resting p.phase) (others s k.world e c ne) ∙ quiet.resting;
  unqueued = queue_other k.queue e c ne ∙ quiet.unqueued;
  living = others_dying k.dying e c ne ∙ quiet.living;
}

-- who is live decides who is current
live_same : (g : Grouping) (w w' : World) (from fuel : ℕ) → IsGood g → ((m : ℕ) → Contains g.members m → is_over w' m ≡ is_over w m) → live_place g w' from fuel ≡ live_place g w from fuel
live_same g w w' from zero good same = refl
live_same g w w' from (suc fuel) good same =
    ap (λ b. if b then live_place g w' (from + 1) fuel else Some from) (same (current_at g from) (stands_member g from good))
    ∙ ap (λ o. if is_over w (current_at g from) then o else Some from) (live_same g w w' (from + 1) fuel good same)

-- an event of nobody in the group leaves it where it stood
pub stays : (g : Grouping) (w : World) (t : Standing) (e : Event) → is_member g (actor_of e) ≡ false → stood g w t (entry_of e) ≡ t
stays g w t (Queue a) h = refl
stays g w t (Mark a) h = refl
stays g w t (Stop a) h = refl
stays g w t (Light c) h = rw h refl
stays g w t (Kernel c found) h = rw h refl
stays g w t (Stale c) h = rw h refl
stays g w t (Emit c groups) h = rw h refl
stays g w t (Place c u first count) h = rw h refl
stays g w t (Run c i) h = rw h refl
stays g w t (LeaveLight c) h = rw h refl
stays g w t (LeaveKernel c) h = rw h refl
stays g w t (Info c) h = rw h refl
stays g w t (Change i) h = rw h refl
stays g w t (Gone c) h = rw h refl

not_member : (g : Grouping) (a c : ℕ) → is_member g a ≡ false → Contains g.members c → a ≢ c
not_member g a c h there same = true≢false (sym (there_member g.members c there) ∙ ap (is_member g) (sym same) ∙ h)

pub current_away : (s : Scene) (g : Grouping) (k : Core) (t : Standing) (e : Event) → IsGood g → is_member g (actor_of e) ≡ false → current_place g (after_event s k e).world t ≡ current_place g k.world t
current_away s g k t e good h = live_same g k.world (after_event s k e).world t.place (reach g) good (λ m there. ap (λ (p : Private). is_done p.phase) (others s k.world e m (not_member g (actor_of e) m h there)))

pub away : (s : Scene) (g : Grouping) (k : Core) (t : Standing) (e : Event) → IsGood g → is_member g (actor_of e) ≡ false → Tidy g k t → Tidy g (after_event s k e) t
away s g k t e good h tidy = record {
  ran = λ r. ap (λ (p : Private). is_acting p.phase) (same (current_at g t.place) (stands_member g t.place good)) ∙ tidy.ran r;
  over = λ c current phase. tidy.over c (sym current_same ∙ current) (ap (λ (p : Private). p.phase) (sym (same c (current_there c (sym current_same ∙ current)))) ∙ phase);
  others = λ c there not_current. quiet_on s k e c (not_member g (actor_of e) c h there) (tidy.others c there (λ is. not_current (current_same ∙ is)));
}
  where
    same : (c : ℕ) → Contains g.members c → (after_event s k e).world.client c ≡ k.world.client c
    same c there = others s k.world e c (not_member g (actor_of e) c h there)

    current_same : current_member g (after_event s k e).world t ≡ current_member g k.world t
    current_same = ap (member_at g) (current_away s g k t e good h)

    current_there : (c : ℕ) → current_member g k.world t ≡ Some c → Contains g.members c
    current_there c is = by_place (current_place g k.world t) is
      where
        none_some : None ≡ Some c → ⊥
        none_some x = grind arith

        by_place : (o : Option ℕ) → member_at g o ≡ Some c → Contains g.members c
        by_place None x = absurd (none_some x)
        by_place (Some p) x = let is : current_at g p ≡ c = cc in subst (Contains g.members) is (stands_member g p good)

-- the current member's part after an event that doesn't end its segment
pub record Keeps (ran : Bool) (p : Phase) : Type 0 where
  pub live : is_done p ≡ false
  pub acting : ran ≡ true → is_acting p ≡ true
  pub over : p ≡ Over → ran ≡ true

keeps_as : (ran : Bool) (p q : Phase) → p ≡ q → is_done q ≡ false → (ran ≡ true → is_acting q ≡ true) → (q ≡ Over → ran ≡ true) → Keeps ran p
keeps_as ran p q is live acting over = record { live = ap is_done is ∙ live; acting = λ r. ap is_acting is ∙ acting r; over = λ h. over (sym is ∙ h) }

pub record Acts (s : Scene) (k : Core) (e : Event) (x : Entry) (ran : Bool) : Type 0 where
  pub keeps : ends_segment ran x ≡ false → Keeps (ran_after ran x) ((after_event s k e).world.client (actor_of e)).phase
  pub ends : ends_segment ran x ≡ true → Quiet (after_event s k e) (actor_of e)

-- the phase of who acts
put_phase : (f : ℕ → Private) (c : ℕ) (p : Private) → (put f c p c).phase ≡ p.phase
put_phase f c p = ap (λ (q : Private). q.phase) (put_here f c p)

module _ (s : Scene) (k : Core) (known : Known s k) (ran : Bool) (c : ℕ) (some : 0 < c) (fits : ran ≡ true → is_acting (k.world.client c).phase ≡ true) (over : (k.world.client c).phase ≡ Over → ran ≡ true) where
  idle : (p : Phase) → (k.world.client c).phase ≡ p → is_acting p ≡ false → ran ≡ true → ⊥
  idle p is not_so r = true≢false (sym (fits r) ∙ ap is_acting is ∙ not_so)

  not_queued : (p : Phase) → (k.world.client c).phase ≡ p → is_holding p ≡ true → wants_in p ≡ false → is_queued c k.queue ≡ false
  not_queued p is holds not_so = by_queue (is_queued c k.queue) refl
    where
      wanted : (k.dying c ≡ true) ⊎ (wants_in (k.world.client c).phase ≡ true) → ⊥
      wanted (inl dying) = true≢false (sym (ap is_holding is ∙ holds) ∙ known.queued.alive c dying)
      wanted (inr wants) = true≢false (sym wants ∙ ap wants_in is ∙ not_so)

      by_queue : (b : Bool) → is_queued c k.queue ≡ b → b ≡ false
      by_queue false h = refl
      by_queue true h = absurd (wanted (known.queued.wants c some h))

  not_dying : (p : Phase) → (k.world.client c).phase ≡ p → is_holding p ≡ true → k.dying c ≡ false
  not_dying p is holds = by_dying (k.dying c) refl
    where
      by_dying : (b : Bool) → k.dying c ≡ b → b ≡ false
      by_dying false h = refl
      by_dying true h = absurd (true≢false (sym (ap is_holding is ∙ holds) ∙ known.queued.alive c h))

  left_over : (last : Bool) → is_resting (left_from Over last) ≡ true
  left_over true = refl
  left_over false = refl

  left_phase : (p : Phase) → (k.world.client c).phase ≡ p → (after_entry s k.world (Entry_is.Leave c)).client c ≡ record (k.world.client c) { phase = after_leave s c (k.world.client c) }
  left_phase p is = put_here k.world.client c (record (k.world.client c) { phase = after_leave s c (k.world.client c) })

  leaves_by : (e : Event) → entry_of e ≡ Some (Entry_is.Leave c) → actor_of e ≡ c → queue_after k.queue e ≡ k.queue → (after_event s k e).dying c ≡ k.dying c →
      ((k.world.client c).phase ≡ Over) ⊎ ((k.world.client c).phase ≡ Ask) → Acts s k e (Entry_is.Leave c) ran
  leaves_by e entry actor queue dying (inl is) = record {
    keeps = λ r. absurd (true≢false (sym (over is) ∙ r));
    ends = λ r. subst (Quiet (after_event s k e)) (sym actor) (record {
      resting = ap (λ o. is_resting ((world_after s k.world o).client c).phase) entry ∙ ap (λ (p : Private). is_resting p.phase) (left_phase Over is) ∙ ap (λ p. is_resting (left_from p (is_last s c (pred (k.world.client c).place)))) is ∙ left_over (is_last s c (pred (k.world.client c).place));
      unqueued = ap (is_queued c) queue ∙ not_queued Over is refl refl;
      living = dying ∙ not_dying Over is refl;
    });
  }
  leaves_by e entry actor queue dying (inr is) = record {
    keeps = λ r. keeps_as false ((after_event s k e).world.client (actor_of e)).phase Asking
        (ap (λ a. ((after_event s k e).world.client a).phase) actor ∙ ap (λ o. ((world_after s k.world o).client c).phase) entry ∙ ap (λ (p : Private). p.phase) (left_phase Ask is) ∙ ap (λ p. left_from p (is_last s c (pred (k.world.client c).place))) is)
        refl (λ h. absurd (true≢false (sym h))) (λ h. absurd (no_over h));
    ends = λ r. absurd (idle Ask is refl r);
  }
    where
      no_over : Asking ≡ Over → ⊥
      no_over h = grind arith

  not_over : (p : Phase) → is_acting p ≡ false → p ≡ Over → ran ≡ true
  not_over p idle is = absurd (true≢false (sym (ap is_acting is) ∙ idle))

  -- an event after which the client is in such a phase, and which isn't the run of a command
  goes_to : (e : Event) (x : Entry) (p q : Phase) → (k.world.client c).phase ≡ p → is_acting p ≡ false → ends_segment ran x ≡ false → ran_after ran x ≡ ran → ((after_event s k e).world.client (actor_of e)).phase ≡ q → is_done q ≡ false → (q ≡ Over → ⊥) → Acts s k e x ran
  goes_to e x p q was not_so on same is live no_over = record {
    keeps = λ r. keeps_as (ran_after ran x) _ q is live (λ h. absurd (idle p was not_so (sym same ∙ h))) (λ h. absurd (no_over h));
    ends = λ r. absurd (true≢false (sym r ∙ on));
  }

  pub acts_light : LegalEvent s k (Light c) → Acts s k (Light c) (Entry_is.Light c) ran
  acts_light legal = goes_to (Light c) (Entry_is.Light c) Out In legal.1 refl refl refl (put_phase k.world.client c _) refl (λ h. grind arith)

  pub acts_kernel : (found : ℕ) → LegalEvent s k (Kernel c found) → Acts s k (Kernel c found) (Entry_is.Kernel c found) ran
  acts_kernel found legal = by_stamp ((k.world.client c).stamp == k.world.stamps (window_of s c)) refl
    where
      by_stamp : (b : Bool) → ((k.world.client c).stamp == k.world.stamps (window_of s c)) ≡ b → Acts s k (Kernel c found) (Entry_is.Kernel c found) ran
      by_stamp true h = goes_to (Kernel c found) (Entry_is.Kernel c found) Out In legal.1 refl refl refl (put_phase k.world.client c (taken_in s k.world c) ∙ ap (λ b. if b then In else Old) h) refl (λ h. grind arith)
      by_stamp false h = goes_to (Kernel c found) (Entry_is.Kernel c found) Out Old legal.1 refl refl refl (put_phase k.world.client c (taken_in s k.world c) ∙ ap (λ b. if b then In else Old) h) refl (λ h. grind arith)

  pub acts_stale : LegalEvent s k (Stale c) → Acts s k (Stale c) (Entry_is.Stale c) ran
  acts_stale legal = goes_to (Stale c) (Entry_is.Stale c) Old Ask legal refl refl refl (put_phase k.world.client c _) refl (λ h. grind arith)

  pub acts_info : LegalEvent s k (Info c) → Acts s k (Info c) (Entry_is.Info c) ran
  acts_info legal = goes_to (Info c) (Entry_is.Info c) Asking Out legal.1 refl refl refl (put_phase k.world.client c (told s k.world c)) refl (λ h. grind arith)

  -- an event that leaves the client in
  stays_in : (e : Event) (x : Entry) → ends_segment ran x ≡ false → ((after_event s k e).world.client (actor_of e)).phase ≡ In → Acts s k e x ran
  stays_in e x on is = record {
    keeps = λ r. keeps_as (ran_after ran x) _ In is refl (λ h. refl) (λ h. absurd (no_over h));
    ends = λ r. absurd (true≢false (sym r ∙ on));
  }
    where
      no_over : In ≡ Over → ⊥
      no_over h = grind arith

  pub acts_emit : (groups : _) → LegalEvent s k (Emit c groups) → Acts s k (Emit c groups) (Entry_is.Emit c groups) ran
  acts_emit groups legal = stays_in (Emit c groups) (Entry_is.Emit c groups) refl (put_phase k.world.client c _ ∙ legal.0.0)

  pub acts_place : (t first count : ℕ) → LegalEvent s k (Place c t first count) → Acts s k (Place c t first count) (Entry_is.Place c t first count) ran
  acts_place t first count legal = stays_in (Place c t first count) (Entry_is.Place c t first count) refl (put_phase k.world.client c (placed_by s k.world c t first count) ∙ legal.0.0)

  pub acts_run : (i : ℕ) → LegalEvent s k (Run c i) → Acts s k (Run c i) (Entry_is.Run c i) ran
  acts_run i legal = record {
    keeps = λ r. record { live = ap is_done is ∙ live (command_at s c i) (is_last s c i); acting = λ h. ap is_acting is ∙ acting (command_at s c i) (is_last s c i); over = λ h. refl };
    ends = λ r. absurd (true≢false (sym r));
  }
    where
      is : ((after_event s k (Run c i)).world.client c).phase ≡ phase_after (command_at s c i) (is_last s c i)
      is = put_phase k.world.client c (run_by s k.world c i)

      live : (command : Option Command) (last : Bool) → is_done (phase_after command last) ≡ false
      live (Some Command_is.Swap) last = refl
      live (Some Command_is.Yield) last = refl
      live _ true = refl
      live _ false = refl

      acting : (command : Option Command) (last : Bool) → is_acting (phase_after command last) ≡ true
      acting (Some Command_is.Swap) last = refl
      acting (Some Command_is.Yield) last = refl
      acting _ true = refl
      acting _ false = refl

  pub acts_leave_light : LegalEvent s k (LeaveLight c) → Acts s k (LeaveLight c) (Entry_is.Leave c) ran
  acts_leave_light legal = leaves_by (LeaveLight c) refl refl refl refl legal.0

  pub acts_leave_kernel : LegalEvent s k (LeaveKernel c) → Acts s k (LeaveKernel c) (Entry_is.Leave c) ran
  acts_leave_kernel legal = leaves_by (LeaveKernel c) refl refl refl refl legal.0

  pub acts_gone : Acts s k (Gone c) (Entry_is.Gone c) ran
  acts_gone = record {
    keeps = λ r. absurd (true≢false r);
    ends = λ r. record { resting = ap is_resting (put_phase k.world.client c (record (k.world.client c) { phase = Dead })); unqueued = left_self c k.queue; living = gone (k.dying c) };
  }
    where
      gone : (b : Bool) → (not (c == c) && b) ≡ false
      gone b = grind (arith, nat_tests)

-- the current member's event, of whatever kind
abbrev pub ActsBy : Scene → Core → Event → Bool → Option Entry → Type 0
ActsBy s k e ran None = Unit {0}
ActsBy s k e ran (Some x) = Acts s k e x ran

abbrev pub FitsPhase : Core → ℕ → Bool → Type 0
FitsPhase k c ran = (ran ≡ true → is_acting (k.world.client c).phase ≡ true) × ((k.world.client c).phase ≡ Over → ran ≡ true)

pub acts : (s : Scene) (k : Core) (known : Known s k) (e : Event) (ran : Bool) → 0 < actor_of e → FitsPhase k (actor_of e) ran → LegalEvent s k e → ((d : ℕ) → e ≡ Stop d → ⊥) → ActsBy s k e ran (entry_of e)
acts s k known (Light c) ran some fits legal no_stop = acts_light s k known ran c some fits.0 fits.1 legal
acts s k known (Kernel c found) ran some fits legal no_stop = acts_kernel s k known ran c some fits.0 fits.1 found legal
acts s k known (Queue a) ran some fits legal no_stop = tt
acts s k known (Mark a) ran some fits legal no_stop = tt
acts s k known (Stale c) ran some fits legal no_stop = acts_stale s k known ran c some fits.0 fits.1 legal
acts s k known (Emit c groups) ran some fits legal no_stop = acts_emit s k known ran c some fits.0 fits.1 groups legal
acts s k known (Place c t first count) ran some fits legal no_stop = acts_place s k known ran c some fits.0 fits.1 t first count legal
acts s k known (Run c i) ran some fits legal no_stop = acts_run s k known ran c some fits.0 fits.1 i legal
acts s k known (LeaveLight c) ran some fits legal no_stop = acts_leave_light s k known ran c some fits.0 fits.1 legal
acts s k known (LeaveKernel c) ran some fits legal no_stop = acts_leave_kernel s k known ran c some fits.0 fits.1 legal
acts s k known (Info c) ran some fits legal no_stop = acts_info s k known ran c some fits.0 fits.1 legal
acts s k known (Change i) ran some fits legal no_stop = absurd (omega (arith, some))
acts s k known (Stop c) ran some fits legal no_stop = absurd (no_stop c refl)
acts s k known (Gone c) ran some fits legal no_stop = acts_gone s k known ran c some fits.0 fits.1

-- what is known of a group's current member
pub record HasCurrent (g : Grouping) (w : World) (t : Standing) (c place : ℕ) : Type 0 where
  pub place_is : current_place g w t ≡ Some place
  pub stands : current_at g place ≡ c

pub current_has : (g : Grouping) (w : World) (t : Standing) (c : ℕ) → current_member g w t ≡ Some c → (place : ℕ) × HasCurrent g w t c place
current_has g w t c is = by_place (current_place g w t) refl is
  where
    none_some : None ≡ Some c → ⊥
    none_some x = grind arith

    by_place : (o : Option ℕ) → current_place g w t ≡ o → member_at g o ≡ Some c → (place : ℕ) × HasCurrent g w t c place
    by_place None h x = absurd (none_some x)
    by_place (Some p) h x = let is : current_at g p ≡ c = cc in (p, record { place_is = h; stands = is })

pub has_current : (g : Grouping) (w : World) (t : Standing) (c place : ℕ) → HasCurrent g w t c place → current_member g w t ≡ Some c
has_current g w t c place h = ap (member_at g) h.place_is ∙ ap Some h.stands

-- whether a command ran fits the current member
acting_live : (p : Phase) → is_acting p ≡ true → is_done p ≡ false
acting_live p h = grind arith

pub ran_place : (g : Grouping) (k : Core) (t : Standing) (c place : ℕ) → Tidy g k t → HasCurrent g k.world t c place → t.ran ≡ true → t.place ≡ place
ran_place g k t c place tidy has r = by_order (t.place == place) refl
  where
    first : IsFirstLive g k.world t.place place
    first = live_is g k.world t.place (reach g) place has.place_is

    by_order : (b : Bool) → (t.place == place) ≡ b → t.place ≡ place
    by_order true b = grind (arith, nat_tests)
    by_order false b =
        let ne : (t.place ≡ place) → ⊥ = grind (arith, nat_tests) in
        let l = first.later in
        absurd (true≢false (sym (first.over t.place (omega arith) (omega (arith, l, ne))) ∙ acting_live _ (tidy.ran r)))

pub fits_current : (g : Grouping) (k : Core) (t : Standing) (c place : ℕ) → IsGood g → Tidy g k t → HasCurrent g k.world t c place → FitsPhase k c t.ran
fits_current g k t c place good tidy has = (
  λ r. subst (λ n. is_acting (k.world.client n).phase ≡ true) (ap (current_at g) (ran_place g k t c place tidy has r) ∙ has.stands) (tidy.ran r),
  tidy.over c (has_current g k.world t c place has),
)

same_entry : {a b : Entry} → Some a ≡ Some b → a ≡ b
same_entry h = cc

-- whose entry an event is
pub client_is : (e : Event) (x : Entry) → entry_of e ≡ Some x → client_of x ≡ actor_of e
client_is (Queue a) x h = absurd (no_entry h)
  where
    no_entry : None ≡ Some x → ⊥
    no_entry h = grind arith
client_is (Mark a) x h = absurd (no_entry h)
  where
    no_entry : None ≡ Some x → ⊥
    no_entry h = grind arith
client_is (Stop a) x h = absurd (no_entry h)
  where
    no_entry : None ≡ Some x → ⊥
    no_entry h = grind arith
client_is (Light c) x h = ap client_of (sym (same_entry h))
client_is (Kernel c found) x h = ap client_of (sym (same_entry h))
client_is (Stale c) x h = ap client_of (sym (same_entry h))
client_is (Emit c groups) x h = ap client_of (sym (same_entry h))
client_is (Place c t first count) x h = ap client_of (sym (same_entry h))
client_is (Run c i) x h = ap client_of (sym (same_entry h))
client_is (LeaveLight c) x h = ap client_of (sym (same_entry h))
client_is (LeaveKernel c) x h = ap client_of (sym (same_entry h))
client_is (Info c) x h = ap client_of (sym (same_entry h))
client_is (Change i) x h = ap client_of (sym (same_entry h))
client_is (Gone c) x h = ap client_of (sym (same_entry h))

-- the standing after the current member's entry
pub moved_is : (g : Grouping) (w : World) (t : Standing) (e : Event) (x : Entry) (place : ℕ) → entry_of e ≡ Some x → is_member g (actor_of e) ≡ true → current_place g w t ≡ Some place → stood g w t (entry_of e) ≡ moved_on t x (Some place)
moved_is g w t e x place is member current = ap (stood g w t) is ∙ ap (λ c. if is_member g c then moved_on t x (current_place g w t) else t) (client_is e x is) ∙ rw (member, current) refl
