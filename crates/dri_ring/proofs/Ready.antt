-- The jobs that wait: one more, and one less.
use Rattle.std.proofs.Common.{◌≡◌, ◌≤◌, ◌<◌, ◌+◌, ℕ, List, [], ◌∷◌, ◌++◌, length, slice_index_or, All, refl, sym, ◌∙◌, ap, arith, subst}
use Rattle.std.specs.Prelude.{remove}
use Rattle.std.proofs.lemmas.List.{length-append}
use Rattle.std.proofs.lemmas.List.Elements.{All-append, All-cons, All-nil}
use Rattle.dri_base.specs.declared.scene.Scene.{Scene}
use Rattle.dri_card.specs.Contents.{Contents}
use Rattle.dri_ring.specs.Cards.{IsCardOf, IsReady}
use Rattle.dri_ring.specs.Jobs.{IsGood, Planes, effect}
use Rattle.dri_ring.specs.Rings.{OnlyRan, Ring, Show, after_jobs, first_run, read, without_first}
use Rattle.dri_ring.specs.declared.job.Job.{Job}
use Rattle.dri_ring.proofs.Kept.{effect_blank, read_blank, read_is}
use Rattle.dri_ring.proofs.Ran.{plane_sides}
use Rattle.dri_ring.proofs.Settling.{first_made}

-- one job more
pub few_more : (jobs : List Job) (job : Job) (new : List Job) (room : ℕ) → new ≡ jobs ++ job ∷ [] → length jobs < room → length new ≤ room
few_more jobs job new room is less = rw (is, length-append jobs (job ∷ [])) (omega (arith, less))

pub ready_more : (s : Scene) (jobs : List Job) (job : Job) (new : List Job) → new ≡ jobs ++ job ∷ [] → All (IsReady s) jobs → IsReady s job → All (IsReady s) new
ready_more s jobs job new is all ready = subst (All (IsReady s)) (sym is) (All-append (IsReady s) jobs (job ∷ []) all (All-cons (IsReady s) job [] ready (All-nil (IsReady s))))

-- the first one
pub first_is : (jobs : List Job) (job : Job) (rest : List Job) → 0 < length jobs → job ≡ slice_index_or jobs 0 job → rest ≡ remove jobs 0 → jobs ≡ job ∷ rest
first_is [] job rest some is left = absurd (omega (arith, some))
first_is (first ∷ jobs) job rest some is left = λ k. sym is k ∷ sym left k

pub ready_first : (s : Scene) (jobs : List Job) (job : Job) (rest : List Job) → jobs ≡ job ∷ rest → All (IsReady s) jobs → IsReady s job
ready_first s jobs job rest is all = subst (All (IsReady s)) is all 0 job (omega arith)

-- the planes once it ran
pub first_planes : (s : Scene) (jobs : List Job) (job : Job) (rest : List Job) (old new : Contents) → jobs ≡ job ∷ rest → IsGood s job → IsCardOf s old → IsCardOf s new → ((p : Planes) → Show old.front old.back old.depth p → Show new.front new.back new.depth (effect s p job))
    → read new.front new.back new.depth ≡ first_run s jobs (read old.front old.back old.depth)
first_planes s jobs job rest old new is good was now made =
    read_is new.front new.back new.depth s.width s.height (effect s (read old.front old.back old.depth) job) (plane_sides new s.width s.height now.sides) (made (read old.front old.back old.depth) was.whole)
    (effect_blank s job (read old.front old.back old.depth) good (read_blank old.front old.back old.depth s.width s.height (plane_sides old s.width s.height was.sides)))
    ∙ ap (λ (js : List Job). first_run s js (read old.front old.back old.depth)) (sym is)

-- what all jobs come to stays
pub first_settled : (s : Scene) (jobs : List Job) (job : Job) (rest : List Job) (p q : Planes) → jobs ≡ job ∷ rest → q ≡ first_run s jobs p → after_jobs s rest q ≡ after_jobs s jobs p
first_settled s jobs job rest p q is ran = ap (λ (js : List Job). after_jobs s js q) (sym (ap without_first is)) ∙ (ap (after_jobs s (without_first jobs)) ran ∙ first_made s jobs p)

-- one less
pub one_less : (jobs new : List Job) (n end : ℕ) → new ≡ without_first jobs → length jobs + n ≡ end → n < end → length new + (n + 1) ≡ end
one_less [] new n end is left less = absurd (omega (arith, left, less))
one_less (job ∷ jobs) new n end is left less = rw is (omega (arith, left))

pub none_left : (jobs : List Job) → length jobs ≡ 0 → jobs ≡ []
none_left [] e = refl
none_left (job ∷ jobs) e = absurd (omega (arith, e))

pub only_ran : (a b c : Ring) → OnlyRan a b → OnlyRan b c → OnlyRan a c
only_ran a b c p q = q ∙ ap {A = Ring} (λ v. record v { pending = c.pending; front = c.front; back = c.back; depth = c.depth }) p

-- where nothing waits the planes are what all jobs come to
pub all_ran : (s : Scene) (jobs : List Job) (p : Planes) → jobs ≡ [] → p ≡ after_jobs s jobs p
all_ran s jobs p none = rw none refl
