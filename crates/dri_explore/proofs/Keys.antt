-- What a node tells of its run: nodes that tell the same stand for runs that leave the same.
use Rattle.std.proofs.Common.{◌≡◌, ◌≤◌, ◌+◌, ◌++◌, ◌∙◌, ℕ, zero, suc, List, [], ◌∷◌, map, Bool, true, false, arith, refl, sym, ap, subst, inl, inr}
use Rattle.std.specs.Prelude.{◌⊎◌, Contains}
use Rattle.std.proofs.lemmas.List.Elements.{All-contains}
use Rattle.dri_base.specs.Ranges.{ClientInRange, InRange, client_numbers, heap_bytes}
use Rattle.dri_base.specs.declared.journal.Event.{Event}
use Rattle.dri_base.specs.declared.journal.Event.TheVariants.{Light, Kernel, Queue, Mark, Stale, Emit, Place, Run, LeaveLight, LeaveKernel, Info, Change, Stop, Gone}
use Rattle.dri_base.specs.declared.scene.Scene.{Scene}
use Rattle.dri_core.specs.CoreRuns.{IsRun, LegalEvents, after_events}
use Rattle.dri_core.specs.Cores.{Core, Word, journal_of, opening_core, word_number}
use Rattle.dri_core.specs.EventTable.{LegalEvent, after_event}
use Rattle.dri_core.specs.Phases.{Over, Ask, is_done}
use Rattle.dri_core.specs.Runs.{after}
use Rattle.dri_core.proofs.Bounds.{numbers_within}
use Rattle.dri_core.proofs.Cores.{journal_after}
use Rattle.dri_core.proofs.Rounds.{after_append}
use Rattle.dri_explore.specs.Ends.{LeaveSame}
use Rattle.dri_explore.specs.Nodes.{IsNode, IsSameKey}
use Rattle.dri_explore.specs.Runs.{run_by}
use Rattle.dri_explore.specs.declared.node.Node.{Node}
use Rattle.dri_explore.proofs.Choosing.{dying_there, live_there}

-- a client's number is at most 32
small_number : (s : Scene) (c : ℕ) → InRange s → Contains (client_numbers s.clients) c → c ≤ 32
small_number s c good there = All-contains (λ n. n ≤ 32) (client_numbers s.clients) c (numbers_within (ClientInRange s.windows (heap_bytes s)) s.clients good.scripted.each (λ p q. q.numbered)).0 there

-- runs, one event more
pub run_more : (s : Scene) (k : Core) (past : List Event) (e : Event) → LegalEvents s k past → LegalEvent s (after_events s k past) e → LegalEvents s k (past ++ e ∷ [])
run_more s k [] e before next = (next, tt)
run_more s k (x ∷ past) e before next = (before.0, run_more s (after_event s k x) past e before.1 next)

-- a context in the word is at most 33
small_after : (s : Scene) (past : List Event) (e : Event) → InRange s → IsRun s past → LegalEvent s (after_events s (opening_core s) past) e →
    (after_events s (opening_core s) past).word.context ≤ 33 → (after_event s (after_events s (opening_core s) past) e).word.context ≤ 33
small_after s past e good run legal small = by e legal
  where
    k : Core
    k = after_events s (opening_core s) past

    client : (c : ℕ) → is_done (k.world.client c).phase ≡ false → c + 1 ≤ 33
    client c live = let l = small_number s c good (live_there s past c good run live) in omega (arith, l)

    leaving : (c : ℕ) → ((k.world.client c).phase ≡ Over) ⊎ ((k.world.client c).phase ≡ Ask) → c + 1 ≤ 33
    leaving c (inl p) = client c (ap is_done p)
    leaving c (inr p) = client c (ap is_done p)

    by : (e : Event) → LegalEvent s k e → (after_event s k e).word.context ≤ 33
    by (Light c) l = client c (ap is_done l.1)
    by (Kernel c found) l = client c (ap is_done l.1)
    by (LeaveLight c) l = leaving c l.0
    by (LeaveKernel c) l = omega arith
    by (Info c) l = omega arith
    by (Change i) l = omega arith
    by (Gone c) l = omega arith
    by (Queue a) l = small
    by (Mark a) l = small
    by (Stale c) l = small
    by (Emit c groups) l = small
    by (Place c t first count) l = small
    by (Run c i) l = small
    by (Stop c) l = small

small_along : (s : Scene) (past more : List Event) → InRange s → IsRun s past → LegalEvents s (after_events s (opening_core s) past) more → (after_events s (opening_core s) past).word.context ≤ 33 →
    (after_events s (after_events s (opening_core s) past) more).word.context ≤ 33
small_along s past [] good run all small = small
small_along s past (e ∷ more) good run all small =
    subst (λ k. (after_events s k more).word.context ≤ 33) same
    (small_along s (past ++ e ∷ []) more good (run_more s (opening_core s) past e run all.0) (subst (λ k. LegalEvents s k more) (sym same) all.1)
    (subst (λ k. k.word.context ≤ 33) (sym same) (small_after s past e good run all.0 small)))
  where
    same : after_events s (opening_core s) (past ++ e ∷ []) ≡ after_event s (after_events s (opening_core s) past) e
    same = after_append s (opening_core s) past (e ∷ [])

small_word : (s : Scene) (events : List Event) → InRange s → IsRun s events → (after_events s (opening_core s) events).word.context ≤ 33
small_word s events good run = small_along s [] events good tt run (omega arith)

-- words with such contexts have numbers of their own
apart_numbers : (h m n o : Bool) (x y : ℕ) → x ≤ 33 → y ≤ 33 → word_number (record { held = h; contended = m; context = x }) ≡ word_number (record { held = n; contended = o; context = y }) → (h ≡ n) × (m ≡ o) × (x ≡ y)
apart_numbers true true true true x y a b e = (refl, refl, omega (arith, a, b, e))
apart_numbers true false true false x y a b e = (refl, refl, omega (arith, a, b, e))
apart_numbers false true false true x y a b e = (refl, refl, omega (arith, a, b, e))
apart_numbers false false false false x y a b e = (refl, refl, omega (arith, a, b, e))
apart_numbers true true true false x y a b e = absurd (omega (arith, a, b, e))
apart_numbers true true false true x y a b e = absurd (omega (arith, a, b, e))
apart_numbers true true false false x y a b e = absurd (omega (arith, a, b, e))
apart_numbers true false true true x y a b e = absurd (omega (arith, a, b, e))
apart_numbers true false false true x y a b e = absurd (omega (arith, a, b, e))
apart_numbers true false false false x y a b e = absurd (omega (arith, a, b, e))
apart_numbers false true true true x y a b e = absurd (omega (arith, a, b, e))
apart_numbers false true true false x y a b e = absurd (omega (arith, a, b, e))
apart_numbers false true false false x y a b e = absurd (omega (arith, a, b, e))
apart_numbers false false true true x y a b e = absurd (omega (arith, a, b, e))
apart_numbers false false true false x y a b e = absurd (omega (arith, a, b, e))
apart_numbers false false false true x y a b e = absurd (omega (arith, a, b, e))

same_word : (a b : Word) → a.context ≤ 33 → b.context ≤ 33 → word_number a ≡ word_number b → a ≡ b
same_word a b l r e = let same = apart_numbers a.held a.contended b.held b.contended a.context b.context l r e in λ i. record { held = same.0 i; contended = same.1 i; context = same.2 i }

-- flags that are the same for each of some numbers
same_flags : (f g : ℕ → Bool) (cs : List ℕ) (c : ℕ) → map f cs ≡ map g cs → Contains cs c → f c ≡ g c
same_flags f g [] c e (k, l, at) = absurd (omega (arith, l))
same_flags f g (d ∷ cs) c e (zero, l, at) = subst (λ n. f n ≡ g n) at (head_same e)
  where
    first : List Bool → Bool
    first [] = true
    first (x ∷ xs) = x

    head_same : (f d ∷ map f cs) ≡ (g d ∷ map g cs) → f d ≡ g d
    head_same h = cc
same_flags f g (d ∷ cs) c e (suc k, l, at) = same_flags f g cs c (tail_same e) (k, omega (arith, l), at)
  where
    tail_same : (f d ∷ map f cs) ≡ (g d ∷ map g cs) → map f cs ≡ map g cs
    tail_same h = cc

-- who is dying after two runs that tell the same of the scene's clients
same_dying : (s : Scene) (a b : List Event) → InRange s → IsRun s a → IsRun s b →
    map (after_events s (opening_core s) a).dying (client_numbers s.clients) ≡ map (after_events s (opening_core s) b).dying (client_numbers s.clients) →
    (c : ℕ) → (after_events s (opening_core s) a).dying c ≡ (after_events s (opening_core s) b).dying c
same_dying s a b good run other e c = by (f c) refl (g c) refl
  where
    f : ℕ → Bool
    f = (after_events s (opening_core s) a).dying

    g : ℕ → Bool
    g = (after_events s (opening_core s) b).dying

    by : (x : Bool) → f c ≡ x → (y : Bool) → g c ≡ y → f c ≡ g c
    by true p y q = same_flags f g (client_numbers s.clients) c e (dying_there s a c good run p)
    by false p true q = same_flags f g (client_numbers s.clients) c e (dying_there s b c good other q)
    by false p false q = p ∙ sym q

-- runs with one journal, one lock word's number, one queue and the same dying clients leave the same
pub tells_all : (s : Scene) (a b : List Event) → InRange s → IsRun s a → IsRun s b → journal_of a ≡ journal_of b →
    word_number (after_events s (opening_core s) a).word ≡ word_number (after_events s (opening_core s) b).word →
    (after_events s (opening_core s) a).queue ≡ (after_events s (opening_core s) b).queue →
    map (after_events s (opening_core s) a).dying (client_numbers s.clients) ≡ map (after_events s (opening_core s) b).dying (client_numbers s.clients) → LeaveSame s a b
tells_all s a b good run other journal word queue dying = (journal, λ i. record { world = same_world i; word = same_words i; queue = queue i; dying = λ c. same_dying s a b good run other dying c i })
  where
    same_world : (after_events s (opening_core s) a).world ≡ (after_events s (opening_core s) b).world
    same_world = sym (journal_after s a) ∙ ap (after s) journal ∙ journal_after s b

    same_words : (after_events s (opening_core s) a).word ≡ (after_events s (opening_core s) b).word
    same_words = same_word _ _ (small_word s a good run) (small_word s b good other) word

-- nodes that tell the same
pub same_leave : (s : Scene) (a b : Node) → InRange s → IsRun s (run_by s a.items) → IsRun s (run_by s b.items) → IsNode s a → IsNode s b → IsSameKey a b → LeaveSame s (run_by s a.items) (run_by s b.items)
same_leave s a b good run other left right same =
    tells_all s (run_by s a.items) (run_by s b.items) good run other (sym left.journal ∙ same.journal ∙ right.journal) (sym left.word ∙ same.word ∙ right.word) (sym left.queue ∙ same.queue ∙ right.queue)
    (sym left.dying ∙ same.dying ∙ right.dying)

-- and the other way round
pub leave_same : (s : Scene) (a b : Node) → IsNode s a → IsNode s b → LeaveSame s (run_by s a.items) (run_by s b.items) → IsSameKey a b
leave_same s a b left right same = record {
  word = left.word ∙ ap (λ k. word_number k.word) same.1 ∙ sym right.word;
  queue = left.queue ∙ ap (λ (k : Core). k.queue) same.1 ∙ sym right.queue;
  dying = left.dying ∙ ap (λ (k : Core). map k.dying (client_numbers s.clients)) same.1 ∙ sym right.dying;
  journal = left.journal ∙ same.0 ∙ sym right.journal;
}
