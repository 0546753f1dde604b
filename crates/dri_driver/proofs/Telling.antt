-- A client beside the events that others make for it, and beside those of others.
use Rattle.std.proofs.Common.{◌≡◌, ◌∙◌, ap, sym}
use Rattle.dri_base.specs.declared.journal.Entry.{Entry}
use Rattle.dri_base.specs.declared.journal.Entry.TheVariants.{Gone, Info}
use Rattle.dri_core.specs.Effects.{told}
use Rattle.dri_core.specs.Privates.{Private}
use Rattle.dri_core.specs.Worlds.{World, clips_in}
use Rattle.dri_core.proofs.Parts.{put_here}
use Rattle.dri_client.specs.Parts.{Agrees, part_after}
use Rattle.dri_shared.specs.Copies.{IsToldOf, corner}
use Rattle.dri_shared.specs.States.{Added, SharedState, world_of}
use Rattle.dri_shared.specs.declared.answers.Told.{Told}
use Rattle.dri_driver.specs.Clients.{ClientState, copy_of, kept_of, part_of}
use Rattle.dri_driver.specs.Fits.{Fits}
use Rattle.dri_driver.proofs.Copied.{copy_is}
use Rattle.dri_driver.proofs.Fitting.{whole, world_added}

-- a client fits what an entry leaves, where its part is what the table says
fits_after : (k l : ClientState) (v u : SharedState) (e : Entry) → Fits k v → Added v u e → l.scene ≡ k.scene → l.number ≡ k.number → part_of l ≡ part_after v.scene (world_of v) e k.number → Fits l u
fits_after k l v u e fits added scene number part = record {
  scene = scene ∙ (fits.scene ∙ sym added.scene);
  part = part ∙ (ap (λ (w : World). w.client k.number) (sym (world_added v u e added)) ∙ ap (world_of u).client (sym number));
}

-- it fits once it has taken in what it was told
pub told_fits : (k l : ClientState) (v u : SharedState) (t : Told) → Fits k v → Added v u (Info k.number) → IsToldOf v.scene (world_of v) k.number t → l.scene ≡ k.scene → l.number ≡ k.number → l.clips ≡ t.clips → l.origin ≡ corner t.origin
    → Agrees (kept_of l) (part_after v.scene (world_of v) (Info k.number) k.number) → Fits l u
told_fits k l v u t fits added is_told scene number clips place agrees = fits_after k l v u (Info k.number) fits added scene number (whole l (part_after v.scene (world_of v) (Info k.number) k.number) agrees copied put)
  where
    after_it : part_after v.scene (world_of v) (Info k.number) k.number ≡ told v.scene (world_of v) k.number
    after_it = put_here (world_of v).client k.number (told v.scene (world_of v) k.number)

    copied : copy_of l.clips ≡ (part_after v.scene (world_of v) (Info k.number) k.number).copy
    copied = ap copy_of clips ∙ (copy_is t.clips (clips_in v.scene (world_of v) k.number) is_told.copy ∙ ap (λ (p : Private). p.copy) (sym after_it))

    put : l.origin ≡ (part_after v.scene (world_of v) (Info k.number) k.number).origin
    put = place ∙ (is_told.place ∙ ap (λ (p : Private). p.origin) (sym after_it))

-- it fits once it is gone
pub gone_fits : (k l : ClientState) (v u : SharedState) → Fits k v → Added v u (Gone k.number) → l.scene ≡ k.scene → l.number ≡ k.number → part_of l ≡ part_after v.scene (world_of v) (Gone k.number) k.number → Fits l u
gone_fits k l v u fits added scene number part = fits_after k l v u (Gone k.number) fits added scene number part
