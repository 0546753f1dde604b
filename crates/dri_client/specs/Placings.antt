-- What a placed texture leaves of a part.
use Rattle.std.specs.Prelude.{◌≡◌, ◌==◌, ℕ, Option, None, Some, false, if◌then◌else◌, nat_lt}
use Rattle.dri_model.specs.Heaps.{Heap, Spot, is_newer, lose}
use Rattle.dri_model.specs.Shares.{levels_after, lose_levels}
use Rattle.dri_texheap.specs.Placements.{levels_of, placed_of}
use Rattle.dri_client.specs.Parts.{PartState}

-- nothing but what is placed, what is shared and the age that it knows differs
pub record IsAsBefore (p l : PartState) : Type 0 where
  pub place : l.place ≡ p.place
  pub phase : l.phase ≡ p.phase
  pub stamp : l.stamp ≡ p.stamp
  pub state : l.state ≡ p.state
  pub dirty : l.dirty ≡ p.dirty
  pub size : l.placed.region_size ≡ p.placed.region_size

-- it stands in a room, above a level of so many blocks less
pub record IsPut (p l : PartState) (t : ℕ) (spot : Spot) (blocks : ℕ) : Type 0 where
  pub before : IsAsBefore p l
  pub placed : placed_of l.placed ≡ (λ u. if u == t then Some spot else placed_of p.placed u)
  pub levels : levels_of l.placed ≡ levels_after (levels_of p.placed) (λ k. false) (nat_lt 0 blocks) spot blocks
  pub local : l.local ≡ p.local

-- it stands in regions that were allocated for it, over the heap that the allocation has left
pub record IsTaken (p l : PartState) (h : Heap) (t : ℕ) (spot : Spot) (blocks : ℕ) : Type 0 where
  pub before : IsAsBefore p l
  pub placed : placed_of l.placed ≡ (λ u. if u == t then Some spot else lose (is_newer h p.local) (placed_of p.placed u))
  pub levels : levels_of l.placed ≡ levels_after (lose_levels (is_newer h p.local) (levels_of p.placed)) (λ k. false) (nat_lt 0 blocks) spot blocks
  pub local : l.local ≡ h.global

-- it stands in the room that there is for it, or else in the spot that was allocated
abbrev pub IsPlaced : PartState → PartState → Heap → ℕ → Option Spot → Spot → ℕ → Type 0
IsPlaced p l h t (Some room) spot blocks = IsPut p l t room blocks
IsPlaced p l h t None spot blocks = IsTaken p l h t spot blocks
