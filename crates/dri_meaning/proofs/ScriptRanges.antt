-- The scripts of a scene in range are in range.
use Rattle.std.proofs.Common.{◌≡◌, ℕ, Some, subst}
use Rattle.std.specs.Prelude.{slice_get}
use Rattle.std.proofs.lemmas.Option.{get_or_from_slice_get, slice_get_within}
use Rattle.dri_base.specs.declared.scene.ClientScript.{ClientScript}
use Rattle.dri_base.specs.declared.scene.Scene.{Scene}
use Rattle.dri_base.specs.Ranges.{ClientInRange, InRange, heap_bytes}
use Rattle.dri_meaning.specs.Scripts.{ScriptInRange}

pub script_in_range : (s : Scene) (k : ℕ) (p : ClientScript) → InRange s → slice_get s.clients k ≡ Some p → ScriptInRange p
script_in_range s k p good here =
    let client = subst (ClientInRange s.windows (heap_bytes s)) (get_or_from_slice_get s.clients k p p here) (good.scripted.each k p (slice_get_within s.clients k p here)) in
    record { heap = heap_bytes s; textured = client.textured; commanded = client.commanded }
