-- What is known of the ends that were found: how many pixels each picture has, and that each end has one of the pictures.
use Rattle.std.proofs.Common.{◌≡◌, ◌<◌, ◌≤◌, ◌*◌, ◌⊎◌, ℕ, suc, List, [], ◌∷◌, All, Contains, length, Some, arith, ap, ◌∙◌, inl, inr}
use Rattle.std.specs.Prelude.{slice_get}
use Rattle.std.proofs.Math.ListN.{get_or}
use Rattle.std.proofs.lemmas.List.Elements.{All-contains, All-from_get_or, All-map, All-weaker}
use Rattle.std.proofs.lemmas.Option.{get_or_from_slice_get, slice_get_within}
use Rattle.dri_base.proofs.PlaneLists.{length-first_pixels}
use Rattle.dri_base.specs.declared.scene.Scene.{Scene}
use Rattle.dri_core.specs.Runs.{after}
use Rattle.dri_explore.specs.Ends.{AreEnds, InOrder, numbers, screen}
use Rattle.dri_explore.specs.declared.ends.End.{End}
use Rattle.dri_explore.specs.declared.ends.Ends.{Ends}

-- what stands behind a number
behind : (n : ℕ) (ns : List ℕ) (k : ℕ) → Contains ns k → Contains (n ∷ ns) k
behind n ns k there = (suc there.0, omega (arith, there.1), there.2)

here_or : (a b : ℕ) → a ≤ b → (a ≡ b) ⊎ (suc a ≤ b)
here_or a b low = grind arith

-- each number up to the last is there
in_order : (seen : ℕ) (ns : List ℕ) (all k : ℕ) → InOrder seen ns all → seen ≤ k → k < all → Contains ns k
in_order seen [] all k is low high = absurd (omega (arith, is, low, high))
in_order seen (n ∷ ns) all k is low high = elim is as (λ _. Contains (n ∷ ns) k) [
  | inl before ↦ behind n ns k (in_order seen ns all k before.1 low high)
  | inr next ↦ elim (here_or seen k low) as (λ _. Contains (n ∷ ns) k) [
    | inl here ↦ (0, omega arith, next.0 ∙ here)
    | inr later ↦ behind n ns k (in_order (suc seen) ns all k next.1 later high)
  ]
]

-- each picture has a pixel for each place
pub whole_pictures : (s : Scene) (most : ℕ) (found : Ends) → AreEnds s most found → All (λ picture. length picture ≡ s.width * s.height) found.pictures
whole_pictures s most found are =
    All-from_get_or (λ picture. length picture ≡ s.width * s.height) found.pictures []
    (λ i less. All-contains IsWhole (numbers found.ends) i whole (in_order 0 (numbers found.ends) (length found.pictures) i are.pictures.ordered (omega arith) less))
  where
    IsWhole : ℕ → Type 0
    IsWhole n = length (get_or found.pictures n []) ≡ s.width * s.height

    one : (e : End) → slice_get found.pictures e.picture ≡ Some (screen s e.journal) → IsWhole e.picture
    one e is = ap length (get_or_from_slice_get found.pictures e.picture (screen s e.journal) [] is) ∙ length-first_pixels s.width (after s e.journal).front (s.width * s.height)

    whole : All IsWhole (numbers found.ends)
    whole = All-map IsWhole (λ (e : End). e.picture) found.ends (All-weaker (λ e. slice_get found.pictures e.picture ≡ Some (screen s e.journal)) (λ e. IsWhole e.picture) one found.ends are.pictures.shown)

-- each end has one of the pictures
pub has_pictures : (s : Scene) (most : ℕ) (found : Ends) → AreEnds s most found → All (λ e. e.picture < length found.pictures) found.ends
has_pictures s most found are =
    All-weaker (λ e. slice_get found.pictures e.picture ≡ Some (screen s e.journal)) (λ e. e.picture < length found.pictures)
    (λ e is. slice_get_within found.pictures e.picture (screen s e.journal) is) found.ends are.pictures.shown
