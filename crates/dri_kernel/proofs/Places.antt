-- Where nobody stands twice, 33 actors fill the queue.
use Rattle.std.proofs.Common.{◌≡◌, ◌≢◌, ◌<◌, ◌≤◌, ℕ, ◌+◌, List, [], ◌∷◌, ◌++◌, length, subst, arith}
use Rattle.std.specs.Prelude.{◌==◌, not}
use Rattle.std.specs.List.{Contains, filter}
use Rattle.std.proofs.lemmas.Bool.{eqb-true}
use Rattle.std.proofs.lemmas.Bool.Decides.{Decides-eqb}
use Rattle.std.proofs.lemmas.List.{length-append}
use Rattle.std.proofs.lemmas.List.Elements.{All-contains, All-filter, All-push, Contains-get_or}
use Rattle.std.proofs.lemmas.List.Kept.{AllPairs-filter}
use Rattle.std.proofs.lemmas.List.Quantifiers.{all_pairs_push}
use Rattle.std.proofs.lemmas.Map.Made.{IsDistinct-from_AllPairs}
use Rattle.std.proofs.lemmas.Map.Steps.{length-le_from_distinct_below}
use Rattle.std.proofs.lemmas.Map.Views.{Contains-from_any}
use Rattle.dri_kernel.specs.Waiting.{IsActor, IsQueue}

-- there are no more than there are actors
pub no_more : (queue : List ℕ) → IsQueue queue → length queue ≤ 33
no_more queue good = length-le_from_distinct_below queue 33 (IsDistinct-from_AllPairs Decides-eqb queue good.once)
    (λ q here. let small = All-contains IsActor queue q good.actors (Contains-from_any eqb-true q queue here) in omega (arith, small))

-- an actor that isn't there may come last
pub joined : (queue : List ℕ) (a : ℕ) → IsQueue queue → IsActor a → (Contains queue a → ⊥) → IsQueue (queue ++ a ∷ [])
joined queue a good actor absent = record {
  actors = All-push IsActor queue a good.actors actor;
  once = all_pairs_push ◌≢◌ queue a good.once (λ k d within same. absent (subst (Contains queue) same (Contains-get_or queue k d within)));
}

-- and then there was room
pub room : (queue : List ℕ) (a : ℕ) → IsQueue queue → IsActor a → (Contains queue a → ⊥) → length queue < 33
room queue a good actor absent =
    let full = no_more (queue ++ a ∷ []) (joined queue a good actor absent) in
    let longer : length (queue ++ a ∷ []) ≡ length queue + 1 = length-append queue (a ∷ []) in
    omega (arith, full, longer)

-- one may leave
pub left : (queue : List ℕ) (a : ℕ) → IsQueue queue → IsQueue (filter (λ b. not (b == a)) queue)
left queue a good = record {
  actors = All-filter (λ b. not (b == a)) IsActor queue good.actors;
  once = AllPairs-filter ◌≢◌ (λ b. not (b == a)) queue good.once;
}
