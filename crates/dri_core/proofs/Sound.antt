-- The whole invariant.
use Rattle.std.proofs.Common.{◌≡◌, ◌≤◌, ◌+◌, ℕ, true, Some, refl, ◌∙◌, List, [], ◌∷◌}
use Rattle.dri_base.specs.declared.journal.Entry.{Entry}
use Rattle.dri_base.specs.declared.journal.Entry.TheVariants.{Light, Kernel, Stale, Emit, Place, Leave, Info, Change, Run, Gone}
use Rattle.dri_base.specs.declared.scene.Scene.{Scene}
use Rattle.dri_base.proofs.RangeLemmas.{IsWellFormed}
use Rattle.dri_core.specs.Worlds.{World, opening}
use Rattle.dri_core.specs.EntryTable.{LegalEntry, after_entry}
use Rattle.dri_core.specs.Privates.{blocks_needed, is_small, size_of}
use Rattle.dri_core.specs.Runs.{after_entries, LegalEntries, after, HoldRun, Intact, IsLiveAt, IsLiveShared}
use Rattle.dri_model.specs.Heaps.{Spot, in_run}
use Rattle.dri_core.proofs.Packing.{first_region}
use Rattle.dri_core.proofs.Sizes.{small_one}
use Rattle.dri_core.proofs.Invariant.{Invariant, opened}
use Rattle.dri_core.proofs.Kept.{keep}
use Rattle.dri_core.proofs.Textures.{Textures, opened_textures, light, kernel, stale, emit, leave, info, change, gone}
use Rattle.dri_core.proofs.TextureUses.{ran, place}

pub keep_textures : (s : Scene) (w : World) (e : Entry) → IsWellFormed s → Invariant s w → Textures s w → LegalEntry s w e → Textures s (after_entry s w e)
keep_textures s w (Light c) good = light s w c
keep_textures s w (Kernel c found) good = kernel s w c found
keep_textures s w (Stale c) good = stale s w c
keep_textures s w (Emit c groups) good = emit s w c groups
keep_textures s w (Place c t first count) good = place s w c t first count good
keep_textures s w (Run c i) good = ran s w c i
keep_textures s w (Leave c) good = leave s w c
keep_textures s w (Info c) good = info s w c
keep_textures s w (Change i) good = change s w i
keep_textures s w (Gone c) good = gone s w c

-- both invariants
pub record Sound (s : Scene) (w : World) : Type 0 where
  pub main : Invariant s w
  pub textures : Textures s w

pub sound_opened : (s : Scene) → IsWellFormed s → Sound s (opening s)
sound_opened s good = record { main = opened s good; textures = opened_textures s }

pub sound_kept : (s : Scene) (w : World) (e : Entry) → IsWellFormed s → Sound s w → LegalEntry s w e → Sound s (after_entry s w e)
sound_kept s w e good sound legal = record { main = keep s w e good sound.main legal; textures = keep_textures s w e good sound.main sound.textures legal }

pub sound_along : (s : Scene) (w : World) (es : List Entry) → IsWellFormed s → Sound s w → LegalEntries s w es → Sound s (after_entries s w es)
sound_along s w [] good sound allowed = sound
sound_along s w (e ∷ es) good sound allowed = sound_along s (after_entry s w e) es good (sound_kept s w e good sound allowed.0) allowed.1

pub sound_after : (s : Scene) (journal : List Entry) → IsWellFormed s → HoldRun s journal → Sound s (after s journal)
sound_after s journal good run = sound_along s (opening s) journal good (sound_opened s good) run

pub intact_at : (s : Scene) (w : World) → 256 ≤ s.region_size → Sound s w → Intact s w
intact_at s w large sound = record {
  ages = sound.textures.ages;
  locals = sound.textures.locals;
  used = λ c t spot live. (sound.textures.held c t spot live).used;
  image = λ c t spot live. (sound.textures.held c t spot live).image;
  below = below;
  apart = λ c t u k a b one two. (sound.textures.packed c).apart t u k a b one.0 two.0;
  shared = λ c k level live. let mark = sound.textures.marks c k level live in (rw (mark.0, mark.1) refl, (sound.textures.packed c).level k level live.0 large);
  only_small = λ c k level t spot live placed i. ((sound.textures.packed c).below t spot k level placed i live.0).0;
  alone = sound.textures.alone;
}
  where
    below : (c t : ℕ) (spot : Spot) → IsLiveAt w.heap (w.client c) t spot → is_small s c t ≡ true → (level : ℕ) × IsLiveShared w.heap (w.client c) spot.run.first level × (spot.block + blocks_needed s c t ≤ level)
    below c t spot live small = (home.0, (home.1, live.1 spot.run.first i), ((sound.textures.packed c).below t spot spot.run.first home.0 live.0 i home.1).1)
      where
        home : (v : ℕ) × ((w.client c).levels spot.run.first ≡ Some v)
        home = (sound.textures.packed c).home t spot live.0 small

        i : in_run spot.run spot.run.first ≡ true
        i = first_region spot.run ((sound.textures.packed c).count t spot live.0 ∙ small_one s.region_size (size_of s c t) small)
