-- What a client's events leave of its part.
use Rattle.std.proofs.Common.{◌≡◌, ◌+◌, ℕ, Bool, List, refl, sym, ap, ◌∙◌, subst}
use Rattle.std.specs.Prelude.{◌==◌, not}
use Rattle.dri_base.specs.Scenes.{window_of}
use Rattle.dri_base.specs.declared.journal.Entry.{Entry}
use Rattle.dri_base.specs.declared.journal.Entry.TheVariants.{Emit, Gone, Kernel, Leave, Light, Place, Run, Stale}
use Rattle.dri_base.specs.declared.scene.Scene.{Scene}
use Rattle.dri_core.specs.Effects.{after_leave, placed_by, run_by, taken_in}
use Rattle.dri_core.specs.EntryTable.{after_entry}
use Rattle.dri_core.specs.Phases.{Ask, Dead, In}
use Rattle.dri_core.specs.Privates.{Private}
use Rattle.dri_core.specs.Runs.{after}
use Rattle.dri_core.specs.Worlds.{World}
use Rattle.dri_core.proofs.Laws.{after-push}
use Rattle.dri_core.proofs.Parts.{put_here}
use Rattle.dri_model.specs.Groups.{no_groups}
use Rattle.dri_model.specs.Heaps.{Heap}
use Rattle.dri_client.specs.Parts.{Agrees, PartState, part_after}
use Rattle.dri_shared.specs.Sides.{Makes, client_at, value_at, world_at}
use Rattle.dri_shared.specs.States.{Added, SharedState, world_of}
use Rattle.dri_shared.specs.declared.client_side.ClientSide.{ClientSide}
use Rattle.dri_driver.specs.Clients.{ClientState, copy_of, kept_of, part_of}
use Rattle.dri_driver.specs.Fits.{Fits, HasMade, IsSameClient}

-- a client's part without copies agrees with its whole part
pub agreed : (k : ClientState) (q : Private) → part_of k ≡ q → Agrees (kept_of k) q
agreed k q is = λ i. record (is i) { copy = q.copy; origin = q.origin }

-- and so does that of a client which is this one
pub agreed_in : (k m : ClientState) (q : Private) → m ≡ k → part_of k ≡ q → Agrees (kept_of m) q
agreed_in k m q same is = agreed m q (ap part_of same ∙ is)

-- a part that agrees, with its copies, is the whole part
pub whole : (k : ClientState) (q : Private) → Agrees (kept_of k) q → copy_of k.clips ≡ q.copy → k.origin ≡ q.origin → part_of k ≡ q
whole k q agrees copy origin = λ i. record (agrees i) { copy = copy i; origin = origin i }

-- the world after one entry more
pub world_added : (v u : SharedState) (e : Entry) → Added v u e → world_of u ≡ after_entry v.scene (world_of v) e
world_added v u e added =
    ap (λ (s : Scene). after s u.journal) added.scene ∙ (ap (λ (j : List Entry). after v.scene j) added.journal ∙ after-push v.scene v.journal e)

-- the client fits what its event leaves, where its part is what the table says
pub made : (k l : ClientState) (a b : ClientSide) (e : Entry) → Fits k (value_at a) → Makes a b e → IsSameClient k l → part_of l ≡ part_after k.scene (world_at a) e k.number → HasMade k l a b e
made k l a b e fits makes same part = record {
  makes = makes;
  fits = record {
    scene = same.scene ∙ fits.scene ∙ sym makes.added.scene;
    part = part ∙ ap (λ (s : Scene). (after_entry s (world_at a) e).client k.number) fits.scene ∙ ap (λ (w : World). w.client k.number) (sym (world_added (value_at a) (value_at b) e makes.added)) ∙ ap (world_at b).client (sym same.number);
  };
  same = same;
}

-- an entry that is made for the client of the side
pub makes_at : (f : ℕ → Entry) (a b : ClientSide) (c : ℕ) → client_at a ≡ c → Makes a b (f (client_at a)) → Makes a b (f c)
makes_at f a b c is makes = subst (λ n. Makes a b (f n)) is makes

-- an entry that leaves its client's copies: the part after it is this one, which has them
pub record KeepsCopies (s : Scene) (w : World) (e : Entry) (c : ℕ) : Type 0 where
  pub copy : (part_after s w e c).copy ≡ (w.client c).copy
  pub origin : (part_after s w e c).origin ≡ (w.client c).origin

pub keeps_copies : (s : Scene) (w : World) (e : Entry) (c : ℕ) (q : Private) → part_after s w e c ≡ q → q.copy ≡ (w.client c).copy → q.origin ≡ (w.client c).origin → KeepsCopies s w e c
keeps_copies s w e c q is copy origin = record { copy = ap (λ (p : Private). p.copy) is ∙ copy; origin = ap (λ (p : Private). p.origin) is ∙ origin }

-- what a step leaves of a client but for its part
pub record IsSameBut (k l : ClientState) : Type 0 where
  pub same : IsSameClient k l
  pub clips : l.clips ≡ k.clips
  pub origin : l.origin ≡ k.origin

-- a client with another part
abbrev pub with_part : ClientState → PartState → ClientState
with_part k p = record k { place = p.place; phase = p.phase; stamp = p.stamp; state = p.state; dirty = p.dirty; placed = p.placed; local = p.local }

pub same_but : (k m : ClientState) (p : PartState) → m ≡ k → IsSameBut k (with_part m p)
same_but k m p is = record {
  same = record { scene = ap (λ (x : ClientState). x.scene) is; number = ap (λ (x : ClientState). x.number) is; dying = ap (λ (x : ClientState). x.dying) is };
  clips = ap (λ (x : ClientState). x.clips) is;
  origin = ap (λ (x : ClientState). x.origin) is;
}

-- the client's whole part after a step that leaves its copies
pub stepped : (k l : ClientState) (w : World) (e : Entry) → part_of k ≡ w.client k.number → l.clips ≡ k.clips → l.origin ≡ k.origin → KeepsCopies k.scene w e k.number → Agrees (kept_of l) (part_after k.scene w e k.number) → part_of l ≡ part_after k.scene w e k.number
stepped k l w e part clips origin copies agrees = whole l (part_after k.scene w e k.number) agrees
    (ap copy_of clips ∙ (ap (λ (p : Private). p.copy) part ∙ sym copies.copy))
    (origin ∙ (ap (λ (p : Private). p.origin) part ∙ sym copies.origin))

-- the client has made its event by such a step
pub step_made : (k l : ClientState) (a b : ClientSide) (e : Entry) → Fits k (value_at a) → Makes a b e → IsSameBut k l → KeepsCopies k.scene (world_at a) e k.number → Agrees (kept_of l) (part_after k.scene (world_at a) e k.number) → HasMade k l a b e
step_made k l a b e fits makes same copies agrees = made k l a b e fits makes same.same (stepped k l (world_at a) e fits.part same.clips same.origin copies agrees)

-- the entries that leave their client's copies
module _ (s : Scene) (w : World) (c : ℕ) where
  pub light_copies : KeepsCopies s w (Light c) c
  light_copies = let q = record (w.client c) { phase = In } in keeps_copies s w (Light c) c q (put_here w.client c q) refl refl

  pub kernel_copies : (found : ℕ) → KeepsCopies s w (Kernel c found) c
  kernel_copies found = keeps_copies s w (Kernel c found) c (taken_in s w c) (put_here w.client c (taken_in s w c)) refl refl

  pub stale_copies : KeepsCopies s w (Stale c) c
  stale_copies = let q = record (w.client c) { phase = Ask } in keeps_copies s w (Stale c) c q (put_here w.client c q) refl refl

  pub leave_copies : KeepsCopies s w (Leave c) c
  leave_copies = let q = record (w.client c) { phase = after_leave s c (w.client c) } in keeps_copies s w (Leave c) c q (put_here w.client c q) refl refl

  pub emit_copies : (groups : ℕ) → KeepsCopies s w (Emit c groups) c
  emit_copies groups = let q = record (w.client c) { dirty = no_groups } in keeps_copies s w (Emit c groups) c q (put_here w.client c q) refl refl

  pub place_copies : (t first count : ℕ) → KeepsCopies s w (Place c t first count) c
  place_copies t first count = let q = placed_by s w c t first count in keeps_copies s w (Place c t first count) c q (put_here w.client c q) refl refl

  pub run_copies : (i : ℕ) → KeepsCopies s w (Run c i) c
  run_copies i = keeps_copies s w (Run c i) c (run_by s w c i) (put_here w.client c (run_by s w c i)) refl refl

  pub gone_copies : KeepsCopies s w (Gone c) c
  gone_copies = let q = record (w.client c) { phase = Dead } in keeps_copies s w (Gone c) c q (put_here w.client c q) refl refl

-- the part of a client that the kernel let in, where the side tells the regions, the stamp and the owner
pub kernel_told : (k : ClientState) (a b : ClientSide) (found : ℕ) (h : Heap) (stamp : ℕ) (owner : Bool) (new : PartState) → client_at a ≡ k.number → Fits k (value_at a) → Makes a b (Kernel k.number found) → h ≡ (world_at b).heap
    → stamp ≡ (world_at a).stamps (window_of (value_at a).scene (client_at a)) → owner ≡ not ((world_at a).owner == client_at a + 1)
    → (h ≡ (world_at a).heap → stamp ≡ (world_at a).stamps (window_of k.scene k.number) → owner ≡ not ((world_at a).owner == k.number + 1) → Agrees new (part_after k.scene (world_at a) (Kernel k.number found) k.number))
    → Agrees new (part_after k.scene (world_at a) (Kernel k.number found) k.number)
kernel_told k a b found h stamp owner new here fits makes heap stamped owned agrees = agrees
    (heap ∙ ap (λ (x : World). x.heap) (world_added (value_at a) (value_at b) (Kernel k.number found) makes.added))
    (stamped ∙ (λ i. (world_at a).stamps (window_of (sym fits.scene i) (here i))))
    (owned ∙ ap (λ n. not ((world_at a).owner == n + 1)) here)
