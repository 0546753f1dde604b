-- What each part of the work left becomes.
use Rattle.std.proofs.Common.{◌≡◌, ◌<◌, ◌≤◌, ◌+◌, ◌*◌, ℕ, List, [], ◌∷◌, ◌++◌, length, Bool, true, false, Option, Some, arith, refl, sym, ap, inl, inr}
use Rattle.std.specs.Prelude.{◌==◌, ◌⊎◌, if◌then◌else◌, not, ◌&&◌, nat_lt}
use Rattle.std.specs.List.{sum_by}
use Rattle.std.proofs.lemmas.Bool.{true≢false, cases_eq}
use Rattle.std.proofs.lemmas.Bool.Decides.{nat_tests}
use Rattle.std.proofs.lemmas.List.Sums.{sum_by-cons}
use Rattle.dri_base.specs.declared.command.Command.{Command}
use Rattle.dri_base.specs.declared.command.Command.TheVariants as Command_is
use Rattle.dri_base.specs.declared.scene.ClientScript.{ClientScript}
use Rattle.dri_base.specs.declared.scene.Scene.{Scene}
use Rattle.dri_core.specs.Cores.{Core, is_queued}
use Rattle.dri_core.specs.EventTable.{leaves}
use Rattle.dri_core.specs.Measures.{one_if, phase_left, part_left, client_left, clients_left, server_left, work_left}
use Rattle.dri_core.specs.Phases.{Phase, Out, Old, In, Over, Ask, Asking, Dead, is_done, phase_after, left_from}
use Rattle.dri_base.specs.Ranges.{client_numbers}
use Rattle.dri_base.specs.Scenes.{script_in, window_of}

pub one_bound : (b : Bool) → one_if b ≤ 1
one_bound true = omega arith
one_bound false = omega arith

-- each summand rises by at most x
pub sum_rises : (f g : ℕ → ℕ) (ns : List ℕ) (x : ℕ) → ((d : ℕ) → g d ≤ f d + x) → sum_by g ns ≤ sum_by f ns + x * length ns
sum_rises f g [] x all = omega arith
sum_rises f g (n ∷ ns) x all = rw (sum_by-cons g, sum_by-cons f) (omega (arith, all n, sum_rises f g ns x all))

-- no summand rises
pub sum_stays : (f g : ℕ → ℕ) (ns : List ℕ) → ((d : ℕ) → g d ≤ f d) → sum_by g ns ≤ sum_by f ns
sum_stays f g [] all = omega arith
sum_stays f g (n ∷ ns) all = rw (sum_by-cons g, sum_by-cons f) (omega (arith, all n, sum_stays f g ns all))

-- one summand falls by x, where all rise by at most y
pub sum_falls : (f g : ℕ → ℕ) (ns : List ℕ) (c x y : ℕ) → is_queued c ns ≡ true → ((d : ℕ) → g d ≤ f d + y) → g c + x ≤ f c + y → sum_by g ns + x ≤ sum_by f ns + y * length ns
sum_falls f g [] c x y e all falls = absurd (true≢false (sym e))
sum_falls f g (n ∷ ns) c x y e all falls = rw (sum_by-cons g, sum_by-cons f) (by_head (cases_eq n c) (sum_falls f g ns c x y))
  where
    in_tail : (n ≡ c → ⊥) → is_queued c (n ∷ ns) ≡ true → is_queued c ns ≡ true
    in_tail ne e = grind (arith, nat_tests)

    by_head : (n ≡ c) ⊎ (n ≡ c → ⊥) → (is_queued c ns ≡ true → ((d : ℕ) → g d ≤ f d + y) → g c + x ≤ f c + y → sum_by g ns + x ≤ sum_by f ns + y * length ns) → g n + sum_by g ns + x ≤ f n + sum_by f ns + y * length (n ∷ ns)
    by_head (inl here) tail = rw here (omega (arith, falls, sum_rises f g ns y all))
    by_head (inr ne) tail = omega (arith, all n, tail (in_tail ne e) all falls)

-- a client with commands is in the list
pub listed : (ps : List ClientScript) (c : ℕ) → ((script_in ps c).commands ≡ [] → ⊥) → is_queued c (client_numbers ps) ≡ true
listed [] c some = absurd (some refl)
listed (p ∷ ps) c some = by_number (p.number == c) refl (listed ps c)
  where
    by_number : (b : Bool) → (p.number == c) ≡ b → (((script_in ps c).commands ≡ [] → ⊥) → is_queued c (client_numbers ps) ≡ true) → is_queued c (client_numbers (p ∷ ps)) ≡ true
    by_number true n tail = grind (arith, nat_tests)
    by_number false n tail = let t = tail (λ h. some (rw n h)) in grind (arith, nat_tests)

-- what an event does to the places of others in the queue
pub leaves_others : (d c : ℕ) (q : List ℕ) → (d ≡ c → ⊥) → is_queued d (leaves c q) ≡ is_queued d q
leaves_others d c [] ne = refl
leaves_others d c (b ∷ bs) ne = grind (arith, nat_tests, leaves_others d c bs ne)

pub joins_others : (d a : ℕ) (q : List ℕ) → (d ≡ a → ⊥) → is_queued d (q ++ a ∷ []) ≡ is_queued d q
joins_others d a [] ne = grind (arith, nat_tests)
joins_others d a (b ∷ bs) ne = grind (arith, nat_tests, joins_others d a bs ne)

pub joined : (a : ℕ) (q : List ℕ) → is_queued a (q ++ a ∷ []) ≡ true
joined a [] = grind (arith, nat_tests)
joined a (b ∷ bs) = grind (arith, nat_tests, joined a bs)

-- a client's part, by its phase; its wait is left open
pub light_part : (n l : ℕ) (p : Phase) (st ur uc w v : Bool) → p ≡ Out → part_left n l In st ur uc v + 3 ≤ part_left n l p st ur uc w
light_part n l p st ur uc w v e = rw e (omega (arith, one_bound v))

pub kernel_part : (n l : ℕ) (p : Phase) (st ur uc us ud w v now : Bool) → p ≡ Out → part_left n l (if now then In else Old) st us ud v + 3 ≤ part_left n l p st ur uc w
kernel_part n l p st ur uc us ud w v true e = rw e (omega (arith, one_bound v, one_bound us, one_bound ud))
kernel_part n l p st ur uc us ud w v false e = rw e (omega (arith, one_bound v, one_bound us, one_bound ud))

pub stale_part : (n l : ℕ) (p : Phase) (st ur uc w v : Bool) → p ≡ Old → part_left n l Ask st ur uc v + 1 ≤ part_left n l p st ur uc w
stale_part n l p st ur uc w v e = rw e (omega (arith, one_bound v))

pub ran_left : (command : Option Command) (last : Bool) → phase_left (phase_after command last) ≤ 15
ran_left (Some Command_is.Swap) last = omega arith
ran_left (Some Command_is.Yield) last = omega arith
ran_left _ true = omega arith
ran_left _ false = omega arith

pub one_undone : (n : ℕ) (b : Bool) → (17 * n + 4) * one_if b ≤ 17 * n + 4
one_undone n true = omega arith
one_undone n false = omega arith

pub ran_part : (n l m : ℕ) (p q : Phase) (st ur uc us ud w v : Bool) → p ≡ In → phase_left q ≤ 15 → m + 1 ≤ l → part_left n m q st us ud v + 1 ≤ part_left n l p st ur uc w
ran_part n l m p q st ur uc us ud w v e le less = rw e (omega (arith, le, less, one_bound us, one_bound ud, one_bound v, one_undone n (not (is_done q))))

pub leave_part : (n l : ℕ) (p : Phase) (st ur uc w v last : Bool) → (p ≡ Over) ⊎ (p ≡ Ask) → part_left n l (left_from p last) st ur uc v + 2 ≤ part_left n l p st ur uc w
leave_part n l p st ur uc w v last (inr ask) = rw ask (omega (arith, one_bound v))
leave_part n l p st ur uc w v true (inl over) = rw over (omega (arith, one_bound v))
leave_part n l p st ur uc w v false (inl over) = rw over (omega (arith, one_bound v))

pub info_part : (n l : ℕ) (p : Phase) (st tt ur uc w v : Bool) → p ≡ Asking → st ≡ true → tt ≡ false → part_left n l Out tt ur uc v + 3 ≤ part_left n l p st ur uc w
info_part n l p st tt ur uc w v e old young = rw (e, old, young) (omega (arith, one_bound v))

pub emit_part : (n l : ℕ) (p : Phase) (st ur empty w : Bool) → empty ≡ false → part_left n l p st ur false w + 1 ≤ part_left n l p st ur (not empty) w
emit_part n l p st ur empty w e = rw e (omega arith)

pub place_part : (n l : ℕ) (p : Phase) (st before after uc ud w : Bool) → before ≡ false → after ≡ true → part_left n l p st (not after) ud w + 1 ≤ part_left n l p st (not before) uc w
place_part n l p st before after uc ud w b a = rw (b, a) (omega (arith, one_bound ud))

pub queue_part : (n l : ℕ) (p : Phase) (st ur uc w v : Bool) → w ≡ true → v ≡ false → part_left n l p st ur uc v + 1 ≤ part_left n l p st ur uc w
queue_part n l p st ur uc w v e f = rw (e, f) (omega arith)

-- what a client has more, where a change or a death gives new stamps
pub stamp_part : (n l : ℕ) (p : Phase) (st tt ur uc w v : Bool) → part_left n l p tt ur uc v ≤ part_left n l p st ur uc w + 17
stamp_part n l p st tt ur uc w v = omega (arith, one_bound tt, one_bound v)

pub gone_part : (n l : ℕ) (p : Phase) (st tt ur uc w v : Bool) → is_done p ≡ false → part_left n l Dead tt ur uc v + (17 * n + 3) ≤ part_left n l p st ur uc w + 17
gone_part n l p st tt ur uc w v e = rw e (omega (arith, one_bound tt, one_bound v))

-- a client whose part, stamp, place in the queue and life are as before has as much left as before
pub same_left : (s : Scene) (k m : Core) (n d : ℕ) → m.world.client d ≡ k.world.client d → m.world.stamps (window_of s d) ≡ k.world.stamps (window_of s d) → m.dying d ≡ k.dying d → is_queued d m.queue ≡ is_queued d k.queue →
    client_left s m n d ≡ client_left s k n d
same_left s k m n d part stamp life place = rw (part, stamp, life, place) refl

-- where only the event's client changes, and it has less left, all clients together have less left
pub one_less : (s : Scene) (k m : Core) (c x : ℕ) → is_queued c (client_numbers s.clients) ≡ true → ((d : ℕ) → (d ≡ c → ⊥) → client_left s m (length s.clients) d ≡ client_left s k (length s.clients) d) →
    client_left s m (length s.clients) c + x ≤ client_left s k (length s.clients) c → clients_left s m + x ≤ clients_left s k
one_less s k m c x there others own = let all = sum_falls (client_left s k (length s.clients)) (client_left s m (length s.clients)) (client_numbers s.clients) c x 0 there (λ d. by_client d (cases_eq d c)) (omega (arith, own)) in omega (arith, all)
  where
    by_client : (d : ℕ) → (d ≡ c) ⊎ (d ≡ c → ⊥) → client_left s m (length s.clients) d ≤ client_left s k (length s.clients) d + 0
    by_client d (inl same) = rw same (omega (arith, own))
    by_client d (inr ne) = omega (arith, others d ne)

-- the server's wait is the only part of its own that another's event touches
pub server_near : (s : Scene) (k m : Core) → m.world.made ≡ k.world.made → server_left s m ≤ server_left s k + 1
server_near s k m e = rw e (omega (arith, one_bound (nat_lt k.world.made (length s.changes) && not (is_queued 0 m.queue))))

pub server_same : (s : Scene) (k m : Core) → m.world.made ≡ k.world.made → m.queue ≡ k.queue → server_left s m ≡ server_left s k
server_same s k m e q = rw (e, q) refl

-- so it is enough that the clients have 3 less
pub enough : (s : Scene) (k m : Core) → m.world.made ≡ k.world.made → clients_left s m + 3 ≤ clients_left s k → work_left s m < work_left s k
enough s k m e less = omega (arith, less, server_near s k m e, one_bound (not m.word.contended))

-- or 2, where the queue is as before
pub enough_here : (s : Scene) (k m : Core) → m.world.made ≡ k.world.made → m.queue ≡ k.queue → clients_left s m + 2 ≤ clients_left s k → work_left s m < work_left s k
enough_here s k m e q less = omega (arith, less, server_same s k m e q, one_bound (not m.word.contended))

-- or 1, where the mark is too
pub enough_still : (s : Scene) (k m : Core) → m.world.made ≡ k.world.made → m.queue ≡ k.queue → m.word.contended ≡ k.word.contended → clients_left s m + 1 ≤ clients_left s k → work_left s m < work_left s k
enough_still s k m e q mark less = omega (arith, less, server_same s k m e q, ap (λ b. one_if (not b)) mark)
