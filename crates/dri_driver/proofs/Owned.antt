-- What a client's script gives it.
use Rattle.std.proofs.Common.{◌≡◌, ◌≤◌, ◌∙◌, ℕ, Some, ap, length, sym}
use Rattle.std.specs.Prelude.{slice_get}
use Rattle.std.proofs.lemmas.Option.{same_Some}
use Rattle.dri_base.specs.declared.scene.ClientScript.{ClientScript}
use Rattle.dri_base.specs.declared.scene.Scene.{Scene}
use Rattle.dri_base.specs.Scenes.{script_of}
use Rattle.dri_client.specs.Kept.{IsScript}
use Rattle.dri_client.proofs.Owned.{script_in_range}
use Rattle.dri_driver.specs.Clients.{ClientState, script_of_client}
use Rattle.dri_driver.specs.Kept.{IsClient}

-- its script is one of a scene in range
pub own_script : (k : ClientState) (index : ℕ) → IsClient k index → IsScript (script_of k.scene k.number)
own_script k index is = script_in_range k.scene k.number index is.good is.there

-- a script has at most 100,000 commands
pub few_commands : (k : ClientState) (index : ℕ) → IsClient k index → length (script_of_client k) ≤ 100000
few_commands k index is = (own_script k index is).few

-- what a look into the scripts finds at its script's place
pub script_read : (s t : Scene) (c index : ℕ) (x : ClientScript) → t ≡ s → slice_get t.clients index ≡ Some x → slice_get s.clients index ≡ Some (script_of s c) → x ≡ script_of s c
script_read s t c index x same found there = same_Some x (script_of s c) (sym found ∙ (ap (λ (u : Scene). slice_get u.clients index) same ∙ there))
