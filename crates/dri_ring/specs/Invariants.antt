-- What always holds of the engine.
use Rattle.std.specs.Prelude.{◌≤◌, All, length, vec_capacity}
use Rattle.std.specs.Arc.{arc_value}
use Rattle.dri_base.specs.Ranges.{InRange, IsWithin}
use Rattle.dri_ring.specs.Cards.{IsCardOf, IsReady}
use Rattle.dri_ring.specs.Rings.{Ring}
use Rattle.dri_ring.specs.declared.engine.Engine.TheInside.{Inside}

-- the engine's scene, jobs and planes
abbrev pub ring : Inside → Ring
ring e = record { scene = arc_value e.scene; room = e.room; pending = e.pending.items; front = e.card.front; back = e.card.back; depth = e.card.depth }

-- the scene is in range, the card is its, and there is room for all jobs, each of which the card can run
pub record IsEngine (e : Inside) : Type 0 where
  pub scene : InRange (arc_value e.scene)
  pub card : IsCardOf (arc_value e.scene) e.card
  pub room : IsWithin 1 64 e.room
  pub few : length e.pending.items ≤ e.room
  pub kept : e.room ≤ vec_capacity e.pending
  pub ready : All (IsReady (arc_value e.scene)) e.pending.items
