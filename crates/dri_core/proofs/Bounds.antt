-- How high ages and stamps can rise.
use Rattle.std.proofs.Common.{◌≡◌, ◌<◌, ◌≤◌, ◌+◌, ◌*◌, ℕ, suc, List, [], ◌∷◌, length, Bool, true, false, arith, refl, ap, ◌∙◌, inl, inr}
use Rattle.std.specs.Prelude.{◌==◌, ◌⊎◌, nat_le, pred, AllPairs}
use Rattle.std.specs.List.{All, sum_by}
use Rattle.std.proofs.lemmas.Bool.Decides.{nat_tests}
use Rattle.std.proofs.lemmas.List.{length-map}
use Rattle.std.proofs.lemmas.List.Elements.{All-nil, All-cons, All-head, All-tail}
use Rattle.std.proofs.lemmas.List.Sums.{sum_by-cons}
use Rattle.dri_base.specs.declared.journal.Entry.{Entry}
use Rattle.dri_base.specs.declared.journal.Entry.TheVariants.{Light, Kernel, Stale, Emit, Place, Leave, Info, Change, Run, Gone}
use Rattle.dri_base.specs.declared.scene.ClientScript.{ClientScript}
use Rattle.dri_base.specs.declared.scene.Scene.{Scene}
use Rattle.dri_base.specs.Ranges.{InRange, ClientInRange, heap_bytes, client_numbers, command_count, IsWithin}
use Rattle.dri_base.specs.Scenes.{script_in, commands_of}
use Rattle.dri_base.proofs.RangeLemmas.{IsWellFormed, well_formed}
use Rattle.dri_model.specs.Stacks.{without_owner}
use Rattle.dri_model.proofs.Counts.{how_many_all}
use Rattle.dri_core.specs.Effects.{run_by, placed_by, taken_in, told, after_leave}
use Rattle.dri_core.specs.EntryTable.{LegalEntry, after_entry}
use Rattle.dri_core.specs.Measures.{one_if}
use Rattle.dri_core.specs.Phases.{Phase, Out, Old, In, Over, Ask, Asking, Ended, Dead, is_done}
use Rattle.dri_core.specs.Privates.{Private, is_ready}
use Rattle.dri_core.specs.Restacks.{touched_by, next_stack}
use Rattle.dri_core.specs.Runs.{after_entries, LegalEntries, after, HoldRun, most_age, most_stamp}
use Rattle.dri_core.specs.Worlds.{World, opening, put}
use Rattle.dri_core.proofs.Endings.{has_command}
use Rattle.dri_core.proofs.Lively.{Lively, lively_opened, lively_step}
use Rattle.dri_core.proofs.Parts.{put_here, put_keeps}
use Rattle.dri_core.proofs.Sound.{Sound, sound_kept, sound_opened, sound_after}
use Rattle.dri_core.proofs.WorkParts.{one_bound, sum_stays, sum_falls, listed}
use Rattle.dri_core.proofs.AgeBounds.{age_bonus, age_part, bonus_small, ages_part, IsAgeBounded, age_step}

-- who has died
abbrev pub is_dead : Phase → Bool
is_dead Dead = true
is_dead _ = false

abbrev pub deaths : Scene → World → ℕ
deaths s w = sum_by (λ c. one_if (is_dead (w.client c).phase)) (client_numbers s.clients)

-- the dead stay dead
abbrev pub StaysDead : World → ℕ → Private → Type 0
StaysDead w d p = one_if (is_dead (w.client d).phase) ≤ one_if (is_dead p.phase)

pub alive_less : (p q : Phase) → is_dead p ≡ false → one_if (is_dead p) ≤ one_if (is_dead q)
alive_less p q e = rw e (omega arith)

pub leave_alive : (p : Phase) → (p ≡ Over) ⊎ (p ≡ Ask) → is_dead p ≡ false
leave_alive p (inl over) = rw over refl
leave_alive p (inr ask) = rw ask refl

pub dead_stays : (s : Scene) (w : World) (e : Entry) → LegalEntry s w e → (d : ℕ) → StaysDead w d ((after_entry s w e).client d)
dead_stays s w (Light c) legal d = put_keeps (StaysDead w) w.client c _ d (alive_less (w.client c).phase In (rw legal.0 refl)) (omega arith)
dead_stays s w (Kernel c found) legal d = put_keeps (StaysDead w) w.client c (taken_in s w c) d (alive_less (w.client c).phase (taken_in s w c).phase (rw legal.0 refl)) (omega arith)
dead_stays s w (Stale c) legal d = put_keeps (StaysDead w) w.client c _ d (alive_less (w.client c).phase Ask (rw legal refl)) (omega arith)
dead_stays s w (Emit c groups) legal d = put_keeps (StaysDead w) w.client c _ d (omega arith) (omega arith)
dead_stays s w (Place c t first count) legal d = put_keeps (StaysDead w) w.client c (placed_by s w c t first count) d (omega arith) (omega arith)
dead_stays s w (Run c i) legal d = put_keeps (StaysDead w) w.client c (run_by s w c i) d (alive_less (w.client c).phase (run_by s w c i).phase (rw legal.0 refl)) (omega arith)
dead_stays s w (Leave c) legal d = put_keeps (StaysDead w) w.client c (record (w.client c) { phase = after_leave s c (w.client c) }) d (alive_less (w.client c).phase (after_leave s c (w.client c)) (leave_alive (w.client c).phase legal)) (omega arith)
dead_stays s w (Info c) legal d = put_keeps (StaysDead w) w.client c (told s w c) d (alive_less (w.client c).phase Out (rw legal.0 refl)) (omega arith)
dead_stays s w (Change i) legal d = omega arith
dead_stays s w (Gone c) legal d = put_keeps (StaysDead w) w.client c (record (w.client c) { phase = Dead }) d (one_bound (is_dead (w.client c).phase)) (omega arith)

-- who may be gone isn't done
pub gone_live : (s : Scene) (w : World) (c : ℕ) → LegalEntry s w (Gone c) → is_done (w.client c).phase ≡ false
gone_live s w c (inl dies) = rw dies.0 refl
gone_live s w c (inr named) = named.1

pub undone_alive : (p : Phase) → is_done p ≡ false → is_dead p ≡ false
undone_alive p e = grind arith

pub deaths_stay : (s : Scene) (w : World) (e : Entry) → LegalEntry s w e → deaths s w ≤ deaths s (after_entry s w e)
deaths_stay s w e legal = sum_stays (λ d. one_if (is_dead ((after_entry s w e).client d).phase)) (λ d. one_if (is_dead (w.client d).phase)) (client_numbers s.clients) (dead_stays s w e legal)

pub one_more_death : (s : Scene) (w : World) (c : ℕ) → Lively s w → LegalEntry s w (Gone c) → deaths s w + 1 ≤ deaths s (after_entry s w (Gone c))
one_more_death s w c lively legal =
    let all = sum_falls (λ d. one_if (is_dead ((after_entry s w (Gone c)).client d).phase)) (λ d. one_if (is_dead (w.client d).phase)) (client_numbers s.clients) c 1 0 (listed s.clients c (has_command s w c lively (gone_live s w c legal)))
    (λ d. omega (arith, dead_stays s w (Gone c) legal d)) own in
    omega (arith, all)
  where
    own : one_if (is_dead (w.client c).phase) + 1 ≤ one_if (is_dead (put w.client c (record (w.client c) { phase = Dead }) c).phase) + 0
    own = rw (put_here w.client c (record (w.client c) { phase = Dead }), undone_alive (w.client c).phase (gone_live s w c legal)) (omega arith)

-- each change and each death gives at most 65 stamps
abbrev pub IsCounterBounded : Scene → World → Type 0
IsCounterBounded s w = w.counter ≤ 1 + 65 * (w.made + deaths s w)

pub counter_step : (s : Scene) (w : World) (e : Entry) → Lively s w → LegalEntry s w e → IsCounterBounded s w → IsCounterBounded s (after_entry s w e)
counter_step s w (Change i) lively legal old = omega (arith, old, how_many_all (touched_by s w (next_stack s w)) 65)
counter_step s w (Gone c) lively legal old = omega (arith, old, how_many_all (touched_by s w (without_owner c w.stack)) 65, one_more_death s w c lively legal)
counter_step s w (Light c) lively legal old = omega (arith, old, deaths_stay s w (Light c) legal)
counter_step s w (Kernel c found) lively legal old = omega (arith, old, deaths_stay s w (Kernel c found) legal)
counter_step s w (Stale c) lively legal old = omega (arith, old, deaths_stay s w (Stale c) legal)
counter_step s w (Emit c groups) lively legal old = omega (arith, old, deaths_stay s w (Emit c groups) legal)
counter_step s w (Place c t first count) lively legal old = omega (arith, old, deaths_stay s w (Place c t first count) legal)
counter_step s w (Run c i) lively legal old = omega (arith, old, deaths_stay s w (Run c i) legal)
counter_step s w (Leave c) lively legal old = omega (arith, old, deaths_stay s w (Leave c) legal)
counter_step s w (Info c) lively legal old = omega (arith, old, deaths_stay s w (Info c) legal)

-- a place is at most one behind the last command
abbrev pub IsPlaceBounded : Scene → World → Type 0
IsPlaceBounded s w = (c : ℕ) → (w.client c).place ≤ length (commands_of s c) + 1

abbrev pub PlaceIn : Scene → ℕ → Private → Type 0
PlaceIn s c p = p.place ≤ length (commands_of s c) + 1

pub place_step : (s : Scene) (w : World) (e : Entry) → Lively s w → LegalEntry s w e → IsPlaceBounded s w → IsPlaceBounded s (after_entry s w e)
place_step s w (Run c i) lively legal old d = put_keeps (PlaceIn s) w.client c (run_by s w c i) d (omega (arith, legal.1, lively.more c (rw legal.0 refl))) (old d)
place_step s w (Kernel c found) lively legal old d = put_keeps (PlaceIn s) w.client c (taken_in s w c) d (old c) (old d)
place_step s w (Place c t first count) lively legal old d = put_keeps (PlaceIn s) w.client c (placed_by s w c t first count) d (old c) (old d)
place_step s w (Leave c) lively legal old d = put_keeps (PlaceIn s) w.client c (record (w.client c) { phase = after_leave s c (w.client c) }) d (old c) (old d)
place_step s w (Info c) lively legal old d = put_keeps (PlaceIn s) w.client c (told s w c) d (old c) (old d)
place_step s w (Change i) lively legal old d = old d
place_step s w (Light c) lively legal old d = put_keeps (PlaceIn s) w.client c _ d (old c) (old d)
place_step s w (Stale c) lively legal old d = put_keeps (PlaceIn s) w.client c _ d (old c) (old d)
place_step s w (Emit c groups) lively legal old d = put_keeps (PlaceIn s) w.client c _ d (old c) (old d)
place_step s w (Gone c) lively legal old d = put_keeps (PlaceIn s) w.client c _ d (old c) (old d)

pub record Bounded (s : Scene) (w : World) : Type 0 where
  pub ages : IsAgeBounded s w
  pub counter : IsCounterBounded s w
  pub places : IsPlaceBounded s w
  pub lively : Lively s w

pub bounded_opened : (s : Scene) → Bounded s (opening s)
bounded_opened s = record { ages = omega arith; counter = omega arith; places = λ c. omega arith; lively = lively_opened s }

pub bounded_along : (s : Scene) (w : World) (es : List Entry) → IsWellFormed s → Sound s w → Bounded s w → LegalEntries s w es → Bounded s (after_entries s w es)
bounded_along s w [] good sound b legal = b
bounded_along s w (e ∷ es) good sound b legal = bounded_along s (after_entry s w e) es good (sound_kept s w e good sound legal.0)
    (record { ages = age_step s w e sound b.lively legal.0 b.ages; counter = counter_step s w e b.lively legal.0 b.counter; places = place_step s w e b.lively legal.0 b.places; lively = lively_step s w e sound b.lively legal.0 }) legal.1

pub bounded_after : (s : Scene) (journal : List Entry) → IsWellFormed s → HoldRun s journal → Bounded s (after s journal)
bounded_after s journal good run = bounded_along s (opening s) journal good (sound_opened s good) (bounded_opened s) run

-- what a client can have raised at most
pub age_most : (l place : ℕ) (p : Phase) (a : Bool) → 0 < place → place ≤ l + 1 → (p ≡ In → place ≤ l) → 3 * pred place + age_bonus p a (nat_le place l) ≤ 3 * l
age_most l place p a started le in_left = by_left (nat_le place l) refl
  where
    within : nat_le place l ≡ true → place ≤ l
    within e = grind (arith, nat_tests)

    by_phase : (p : Phase) → (p ≡ In → place ≤ l) → 3 * pred place + age_bonus p a false ≤ 3 * l
    by_phase In h = omega (arith, h refl, started, bonus_small In a false)
    by_phase Dead h = omega (arith, le)
    by_phase Out h = omega (arith, le)
    by_phase Old h = omega (arith, le)
    by_phase Over h = omega (arith, le)
    by_phase Ask h = omega (arith, le)
    by_phase Asking h = omega (arith, le)
    by_phase Ended h = omega (arith, le)

    by_left : (b : Bool) → nat_le place l ≡ b → 3 * pred place + age_bonus p a b ≤ 3 * l
    by_left true e = omega (arith, within e, started, bonus_small p a true)
    by_left false e = by_phase p in_left

-- each client of the list by its own script, since their numbers rise
pub command_sum : (ps : List ClientScript) → AllPairs ◌<◌ (client_numbers ps) → sum_by (λ c. length (script_in ps c).commands) (client_numbers ps) ≡ command_count ps
command_sum [] rising = refl
command_sum (p ∷ ps) rising = rw (sum_by-cons (λ c. length (script_in (p ∷ ps) c).commands), sum_by-cons (λ (q : ClientScript). length q.commands)) (rw here (ap (λ n. length p.commands + n) (rest ∙ command_sum ps tail)))
  where
    here : (p.number == p.number) ≡ true
    here = grind (arith, nat_tests)

    tail : AllPairs ◌<◌ (client_numbers ps)
    tail i j d l m = rising (suc i) (suc j) d (omega (arith, l)) (omega (arith, m))

    above : All (λ n. p.number < n) (client_numbers ps)
    above k d l = rising 0 (suc k) d (omega arith) (omega (arith, l))

    other : (n : ℕ) → p.number < n → (p.number == n) ≡ false
    other n l = grind (arith, nat_tests)

    same_sum : (f g : ℕ → ℕ) (ns : List ℕ) → All (λ n. f n ≡ g n) ns → sum_by f ns ≡ sum_by g ns
    same_sum f g [] all = refl
    same_sum f g (n ∷ ns) all = rw (sum_by-cons f, sum_by-cons g) (omega (arith, All-head (λ n. f n ≡ g n) n ns all, same_sum f g ns (All-tail (λ n. f n ≡ g n) n ns all)))

    rest : sum_by (λ c. length (script_in (p ∷ ps) c).commands) (client_numbers ps) ≡ sum_by (λ c. length (script_in ps c).commands) (client_numbers ps)
    rest = same_sum (λ c. length (script_in (p ∷ ps) c).commands) (λ c. length (script_in ps c).commands) (client_numbers ps) (λ k d l. rw (other _ (above k d l)) refl)

pub thrice : (f : ℕ → ℕ) (ns : List ℕ) → sum_by (λ c. 3 * f c) ns ≡ 3 * sum_by f ns
thrice f [] = refl
thrice f (n ∷ ns) = rw (sum_by-cons (λ c. 3 * f c), sum_by-cons f) (omega (arith, thrice f ns))

-- the global age is at most three times the number of commands
pub age_bounded : (s : Scene) (journal : List Entry) → InRange s → HoldRun s journal → (after s journal).heap.global ≤ 3 * command_count s.clients
age_bounded s journal good run = omega (arith, b.ages, most, thrice (λ c. length (commands_of s c)) (client_numbers s.clients), command_sum s.clients good.scripted.rising)
  where
    b : Bounded s (after s journal)
    b = bounded_after s journal (well_formed s good) run

    started : (c : ℕ) → 0 < ((after s journal).client c).place
    started = (sound_after s journal (well_formed s good) run).main.started

    most : ages_part s (after s journal) ≤ sum_by (λ c. 3 * length (commands_of s c)) (client_numbers s.clients)
    most = sum_stays (λ c. 3 * length (commands_of s c)) (λ c. age_part s c ((after s journal).client c)) (client_numbers s.clients)
        (λ c. age_most (length (commands_of s c)) ((after s journal).client c).place ((after s journal).client c).phase (is_ready ((after s journal).client c)) (started c) (b.places c) (λ h. b.lively.more c (rw h refl)))

pub deaths_most : (f : ℕ → Bool) (ns : List ℕ) → sum_by (λ c. one_if (f c)) ns ≤ length ns
deaths_most f [] = omega arith
deaths_most f (n ∷ ns) = rw (sum_by-cons (λ c. one_if (f c))) (omega (arith, one_bound (f n), deaths_most f ns))

-- the last stamp is at most one and 65 for each change and each client
pub counter_bounded : (s : Scene) (journal : List Entry) → InRange s → HoldRun s journal → (after s journal).counter ≤ 1 + 65 * (length s.changes + length s.clients)
counter_bounded s journal good run = omega (arith, b.counter, b.lively.made, deaths_most (λ c. is_dead ((after s journal).client c).phase) (client_numbers s.clients), length-map s.clients (λ p. p.number))
  where
    b : Bounded s (after s journal)
    b = bounded_after s journal (well_formed s good) run

pub place_bounded : (s : Scene) (journal : List Entry) → InRange s → HoldRun s journal → (c : ℕ) → ((after s journal).client c).place ≤ length (commands_of s c) + 1
place_bounded s journal good run = (bounded_after s journal (well_formed s good) run).places

pub made_bounded : (s : Scene) (journal : List Entry) → InRange s → HoldRun s journal → (after s journal).made ≤ length s.changes
made_bounded s journal good run = (bounded_after s journal (well_formed s good) run).lively.made

-- numbers that rise from above one number up to another are no more than what lies between
pub rising_length : (ns : List ℕ) (low high : ℕ) → All (λ n. n ≤ high) ns → All (λ n. low < n) ns → AllPairs ◌<◌ ns → low ≤ high → length ns + low ≤ high
rising_length [] low high top above rising le = omega (arith, le)
rising_length (n ∷ ns) low high top above rising le =
    let rest = rising_length ns n high (All-tail (λ n. n ≤ high) n ns top) (λ k d l. rising 0 (suc k) d (omega arith) (omega (arith, l))) (λ i j d l m. rising (suc i) (suc j) d (omega (arith, l)) (omega (arith, m))) (All-head (λ n. n ≤ high) n ns top) in
    omega (arith, rest, All-head (λ n. low < n) n ns above)

pub numbers_within : (P : ClientScript → Type 0) (ps : List ClientScript) → All P ps → ((p : ClientScript) → P p → IsWithin 1 32 p.number) → All (λ n. n ≤ 32) (client_numbers ps) × All (λ n. 0 < n) (client_numbers ps)
numbers_within P [] all within = (All-nil (λ n. n ≤ 32), All-nil (λ n. 0 < n))
numbers_within P (p ∷ ps) all within =
    let rest = numbers_within P ps (All-tail P p ps all) within in
    let own = within p (All-head P p ps all) in
    (All-cons (λ n. n ≤ 32) p.number (client_numbers ps) own.1 rest.0, All-cons (λ n. 0 < n) p.number (client_numbers ps) (omega (arith, own.0)) rest.1)

-- a scene has at most 32 clients
pub few_clients : (s : Scene) → InRange s → length s.clients ≤ 32
few_clients s good =
    let all = numbers_within (ClientInRange s.windows (heap_bytes s)) s.clients good.scripted.each (λ p c. c.numbered) in
    omega (arith, length-map s.clients (λ p. p.number), rising_length (client_numbers s.clients) 0 32 all.0 all.1 good.scripted.rising (omega arith))

-- the bounds that no journal passes
pub age_most_of_all : (s : Scene) (journal : List Entry) → InRange s → HoldRun s journal → (after s journal).heap.global ≤ most_age
age_most_of_all s journal good run = omega (arith, age_bounded s journal good run, good.few)

pub stamp_most : (s : Scene) (journal : List Entry) → InRange s → HoldRun s journal → (after s journal).counter ≤ most_stamp
stamp_most s journal good run = omega (arith, counter_bounded s journal good run, good.changed.few, few_clients s good)
