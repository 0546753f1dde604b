-- Hold-runs, and what is said of them.
use Rattle.std.specs.Prelude.{drop, Bool, List, None, Some, [], false, get_or, length, true, ℕ, ◌++◌, ◌+◌, ◌*◌, ◌<◌, ◌∷◌, ◌≡◌, ◌≢◌, ◌≤◌, ◌⊎◌, ◌/◌}
use Rattle.dri_base.specs.Limits.{most_changes, most_commands}
use Rattle.dri_base.specs.Texels.{texture_in}
use Rattle.dri_base.specs.declared.journal.Entry.{Entry}
use Rattle.dri_base.specs.declared.journal.Entry.TheVariants.{Run}
use Rattle.dri_base.specs.declared.scene.Scene.{Scene}
use Rattle.dri_base.specs.declared.state.Registers.{Registers}
use Rattle.dri_core.specs.EntryTable.{LegalEntry, after_entry}
use Rattle.dri_core.specs.Phases.{Asking, In, Out, Over, is_done}
use Rattle.dri_core.specs.Privates.{Private, blocks_needed, is_small, own_registers}
use Rattle.dri_base.specs.Scenes.{bytes_of, textures_of, window_of}
use Rattle.dri_core.specs.Worlds.{World, clips_in, opening}
use Rattle.dri_model.specs.Groups.{Groups}
use Rattle.dri_model.specs.Heaps.{Heap, Spot, base_of, in_run, use_of}
use Rattle.dri_model.specs.Stacks.{origin}
use Rattle.dri_base.specs.declared.journal.Entry.TheVariants as Entry_is
use Rattle.dri_model.specs.Heaps as Heaps

-- the world after these entries
abbrev pub after_entries : Scene → World → List Entry → World
after_entries s w [] = w
after_entries s w (e ∷ es) = after_entries s (after_entry s w e) es

-- each entry is legal in the world that those before it leave
abbrev pub LegalEntries : Scene → World → List Entry → Type 0
LegalEntries s w [] = Unit {0}
LegalEntries s w (e ∷ es) = LegalEntry s w e × LegalEntries s (after_entry s w e) es

-- the world that a journal leaves
abbrev pub after : Scene → List Entry → World
after s journal = after_entries s (opening s) journal

-- the journal is a hold-run of the scene
abbrev pub HoldRun : Scene → List Entry → Type 0
HoldRun s journal = LegalEntries s (opening s) journal

-- what the run of a command may touch
pub record SameOutside (clip : ℕ → ℕ → Bool) (old new : World) : Type 0 where
  pub front : (x y : ℕ) → clip x y ≡ false → new.front x y ≡ old.front x y
  pub back : (x y : ℕ) → clip x y ≡ false → new.back x y ≡ old.back x y

-- no command changes a pixel outside its client's clips of that moment
abbrev pub Confined : Scene → List Entry → Type 0
Confined s journal =
    (past rest : List Entry) (c i : ℕ) → journal ≡ past ++ Run c i ∷ rest →
    SameOutside (clips_in s (after s past) c) (after s past) (after s (past ++ Run c i ∷ []))

-- the client's copy is the current one, the card's owner is its context, and it knows all ages
pub record IsCurrent (s : Scene) (w : World) (c : ℕ) : Type 0 where
  pub stamp : (w.client c).stamp ≡ w.stamps (window_of s c)
  pub copy : (x y : ℕ) → (w.client c).copy x y ≡ clips_in s w c x y
  pub place : (w.client c).origin ≡ origin w.stack (window_of s c)
  pub owner : w.owner ≡ c + 1
  pub local : (w.client c).local ≡ w.heap.global

-- where nobody holds and client c left last and is out, it is current, so its light lock needs no check
abbrev pub LightIsCurrent : Scene → World → Type 0
LightIsCurrent s w = (c : ℕ) → w.holder ≡ None → w.left ≡ c + 1 → (w.client c).phase ≡ Out → IsCurrent s w c

-- who is in or over is current
abbrev pub ActingIsCurrent : Scene → World → Type 0
ActingIsCurrent s w = (c : ℕ) → ((w.client c).phase ≡ In) ⊎ ((w.client c).phase ≡ Over) → IsCurrent s w c

-- each group that isn't dirty is in the card as the client would emit it now
pub record IsClean (g : Groups) (own card : Registers) : Type 0 where
  pub shade : g.shade ≡ false → card.shade ≡ own.shade
  pub depth_func : g.depth ≡ false → card.depth_func ≡ own.depth_func
  pub depth_write : g.depth ≡ false → card.depth_write ≡ own.depth_write
  pub blend : g.blend ≡ false → card.blend ≡ own.blend
  pub mode : g.mode ≡ false → card.tex_mode ≡ own.tex_mode
  pub wrap : g.wrap ≡ false → card.wrap ≡ own.wrap
  pub bound : g.bound ≡ false → card.bound ≡ own.bound
  pub scissor : g.scissor ≡ false → card.scissor ≡ own.scissor

-- each group of the owner that isn't dirty is in the card
abbrev pub OwnerIsClean : Scene → World → Type 0
OwnerIsClean s w = (c : ℕ) → w.owner ≡ c + 1 → IsClean (w.client c).dirty (own_registers s c (w.client c)) w.registers

-- no region of the run is newer than the age
abbrev pub IsLive : Heap → ℕ → Heaps.Run → Type 0
IsLive h local run = (k : ℕ) → in_run run k ≡ true → h.age k ≤ local

-- the memory has the bytes from a base on
abbrev pub HasBytes : (ℕ → ℕ) → ℕ → List ℕ → Type 0
HasBytes memory base bytes = (n : ℕ) → n < length bytes → memory (base + n) ≡ get_or bytes n 0

-- texture t is live: it is placed in the spot, none of whose regions is newer than its client's local age
abbrev pub IsLiveAt : Heap → Private → ℕ → Spot → Type 0
IsLiveAt h p t spot = (p.placed t ≡ Some spot) × IsLive h p.local spot.run

-- shared region k is live: it has this level, and isn't newer than its client's local age
abbrev pub IsLiveShared : Heap → Private → ℕ → ℕ → Type 0
IsLiveShared h p k level = (p.levels k ≡ Some level) × (h.age k ≤ p.local)

-- region k lies in a live texture
abbrev pub IsTextured : Heap → Private → ℕ → Type 0
IsTextured h p k = (t : ℕ) × (spot : Spot) × IsLiveAt h p t spot × (in_run spot.run k ≡ true)

-- region k lies in a live texture, or is a live shared region
abbrev pub HasLive : Heap → Private → ℕ → Type 0
HasLive h p k = IsTextured h p k ⊎ ((level : ℕ) × IsLiveShared h p k level)

-- a live texture is in use and has its image, and a small one stands in a live shared region, below its level and apart from its client's others; a live shared region has small textures alone; none is two clients'; no age is above the global age
pub record Intact (s : Scene) (w : World) : Type 0 where
  pub ages : (k : ℕ) → w.heap.age k ≤ w.heap.global
  pub locals : (c : ℕ) → (w.client c).local ≤ w.heap.global
  pub used : (c t : ℕ) (spot : Spot) → IsLiveAt w.heap (w.client c) t spot → (k : ℕ) → in_run spot.run k ≡ true → w.heap.used k ≡ true
  pub image : (c t : ℕ) (spot : Spot) → IsLiveAt w.heap (w.client c) t spot →
      HasBytes w.memory (base_of s.region_size spot) (bytes_of (texture_in (textures_of s c) t))
  pub below : (c t : ℕ) (spot : Spot) → IsLiveAt w.heap (w.client c) t spot → is_small s c t ≡ true →
      (level : ℕ) × IsLiveShared w.heap (w.client c) spot.run.first level × (spot.block + blocks_needed s c t ≤ level)
  pub apart : (c t u k : ℕ) (a b : Spot) → IsLiveAt w.heap (w.client c) t a → IsLiveAt w.heap (w.client c) u b → t ≢ u → in_run a.run k ≡ true → in_run b.run k ≡ true →
      (a.block + blocks_needed s c t ≤ b.block) ⊎ (b.block + blocks_needed s c u ≤ a.block)
  pub shared : (c k level : ℕ) → IsLiveShared w.heap (w.client c) k level → (use_of w.heap k ≡ 2) × (level ≤ s.region_size / 64)
  pub only_small : (c k level t : ℕ) (spot : Spot) → IsLiveShared w.heap (w.client c) k level → (w.client c).placed t ≡ Some spot → in_run spot.run k ≡ true → is_small s c t ≡ true
  pub alone : (c d k : ℕ) → HasLive w.heap (w.client c) k → HasLive w.heap (w.client d) k → c ≡ d

-- nobody holds, no client asks, every client is ended or dead, and all changes were made
pub record IsWholeWorld (s : Scene) (w : World) : Type 0 where
  pub unheld : w.holder ≡ None
  pub asking : (c : ℕ) → (w.client c).phase ≡ Asking → ⊥
  pub done : (c : ℕ) → is_done (w.client c).phase ≡ true
  pub made : w.made ≡ length s.changes

-- the journal leaves nothing to do
abbrev pub Whole : Scene → List Entry → Type 0
Whole s journal = IsWholeWorld s (after s journal)

-- whose entry it is; the server is 0
abbrev pub client_of : Entry → ℕ
client_of (Entry_is.Light c) = c
client_of (Entry_is.Kernel c found) = c
client_of (Entry_is.Stale c) = c
client_of (Entry_is.Leave c) = c
client_of (Entry_is.Info c) = c
client_of (Entry_is.Change i) = 0
client_of (Entry_is.Run c i) = c
client_of (Entry_is.Emit c groups) = c
client_of (Entry_is.Place c t first count) = c
client_of (Entry_is.Gone c) = c

-- the context that an entry belongs to: 1 is the server's, client c's is c + 1
abbrev pub context_of : Entry → ℕ
context_of e = client_of e + 1

-- the greatest age that a hold-run reaches: each command raises the age by at most three
abbrev pub most_age : ℕ
most_age = 3 * most_commands

-- the greatest stamp that a hold-run reaches: the first is 1, and each change, and each death of one of 32 clients, gives at
-- most 65 more
abbrev pub most_stamp : ℕ
most_stamp = 1 + 65 * (most_changes + 32)

-- the entries of a journal after those that were seen
abbrev pub since : List Entry → List Entry → List Entry
since seen now = drop (length seen) now

-- the journal begins with the entries that were seen
abbrev pub BeginsWith : List Entry → List Entry → Type 0
BeginsWith now seen = now ≡ seen ++ since seen now

-- the scene without its schedule
abbrev pub plain : Scene → Scene
plain s = record s { turns = [] }
