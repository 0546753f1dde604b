-- What is placed stays intact.
use Rattle.std.proofs.Common.{◌≡◌, ◌<◌, ◌≤◌, ◌+◌, ◌-◌, ◌*◌, ◌/◌, ℕ, suc, true, None, arith, refl, inl, inr}
use Rattle.std.proofs.lemmas.Bool.Decides.{nat_tests}
use Rattle.std.proofs.Math.Nat.{add-mul-div_left, le-div_iff_mul-le, div-mul-le_self}
use Rattle.dri_core.specs.Phases.{Out}
use Rattle.dri_base.specs.declared.journal.Entry.TheVariants.{Light, Kernel, Stale, Emit, Leave, Info, Change, Gone}
use Rattle.dri_base.specs.declared.scene.Scene.{Scene}
use Rattle.dri_base.specs.Scenes.{textures_of, bytes_of, regions_for}
use Rattle.dri_base.specs.Texels.{texture_in}
use Rattle.dri_model.specs.Heaps.{Heap, Spot, base_of, in_run, is_newer}
use Rattle.dri_core.specs.Worlds.{World, opening, put}
use Rattle.dri_core.specs.Privates.{Private}
use Rattle.dri_core.specs.EntryTable.{LegalEntry, after_entry}
use Rattle.dri_core.specs.Effects.{taken_in, run_at}
use Rattle.dri_core.specs.Runs.{HasBytes, HasLive, IsLiveAt, IsLiveShared}
use Rattle.dri_core.proofs.Invariant.{Invariant, is_acting}
use Rattle.dri_core.proofs.Packing.{Packed, kept_level, kept_one, no_some, packed_lose, packed_none}
use Rattle.dri_core.proofs.Parts.{put_keeps}

-- a live texture is in use and has its bytes
pub record Held (s : Scene) (h : Heap) (memory : ℕ → ℕ) (c t : ℕ) (spot : Spot) : Type 0 where
  pub used : (k : ℕ) → in_run spot.run k ≡ true → h.used k ≡ true
  pub image : HasBytes memory (base_of s.region_size spot) (bytes_of (texture_in (textures_of s c) t))

abbrev pub HeldBy : Scene → Heap → (ℕ → ℕ) → ℕ → Private → Type 0
HeldBy s h memory c p = (t : ℕ) (spot : Spot) → IsLiveAt h p t spot → Held s h memory c t spot

-- a live shared region is in use and marked
abbrev pub MarkedBy : Heap → Private → Type 0
MarkedBy h p = (k level : ℕ) → IsLiveShared h p k level → (h.used k ≡ true) × (h.shared k ≡ true)

-- no region is two clients'
abbrev pub Alone : Heap → (ℕ → Private) → Type 0
Alone h f = (c d k : ℕ) → HasLive h (f c) k → HasLive h (f d) k → c ≡ d

-- every region that is the client's was its own before
abbrev pub NoneNew : Heap → Heap → Private → Private → Type 0
NoneNew h new p q = (k : ℕ) → HasLive new q k → HasLive h p k

-- where its live textures and live shared regions were live
pub none_new : (h new : Heap) (p q : Private) → ((t : ℕ) (spot : Spot) → IsLiveAt new q t spot → IsLiveAt h p t spot) → ((k level : ℕ) → IsLiveShared new q k level → IsLiveShared h p k level) → NoneNew h new p q
none_new h new p q textured shared k (inl x) = inl (x.0, x.1, textured x.0 x.1 x.2, x.3)
none_new h new p q textured shared k (inr x) = inr (x.0, shared k x.0 x.1)

pub alone_less : (h new : Heap) (f g : ℕ → Private) → ((d : ℕ) → NoneNew h new (f d) (g d)) → Alone h f → Alone new g
alone_less h new f g less alone c d k a b = alone c d k (less c k a) (less d k b)

-- where one client's part is put anew
pub alone_put : (h new : Heap) (f : ℕ → Private) (c : ℕ) (p : Private) → NoneNew h new (f c) p → ((d : ℕ) → NoneNew h new (f d) (f d)) → Alone h f → Alone new (put f c p)
alone_put h new f c p here there = alone_less h new f (put f c p) (λ d. put_keeps (λ k q. NoneNew h new (f k) q) f c p d here (there d))

pub record Textures (s : Scene) (w : World) : Type 0 where
  pub ages : (k : ℕ) → w.heap.age k ≤ w.heap.global
  pub locals : (c : ℕ) → (w.client c).local ≤ w.heap.global
  pub acting_local : (c : ℕ) → is_acting (w.client c).phase ≡ true → (w.client c).local ≡ w.heap.global
  pub light_local : (c : ℕ) → w.holder ≡ None → w.left ≡ c + 1 → (w.client c).phase ≡ Out → (w.client c).local ≡ w.heap.global
  pub held : (c : ℕ) → HeldBy s w.heap w.memory c (w.client c)
  pub marks : (c : ℕ) → MarkedBy w.heap (w.client c)
  pub packed : (c : ℕ) → Packed s c (w.client c).placed (w.client c).levels
  pub alone : Alone w.heap w.client

-- a byte of a texture lies in a region of its run
pub byte_in_run : (size first bytes n : ℕ) → 0 < size → n < bytes → in_run (run_at first (regions_for size bytes)) ((first * size + n) / size) ≡ true
byte_in_run size first bytes n sized lt = grind (arith, nat_tests, place, below)
  where
    address : first * size + n ≡ n + size * first
    address = grind arith

    place : (first * size + n) / size ≡ n / size + first
    place = rw address (add-mul-div_left n first sized)

    whole : n / size * size ≤ n
    whole = div-mul-le_self n size

    below : suc (n / size) ≤ regions_for size bytes
    below = (le-div_iff_mul-le {k = size} {x = suc (n / size)} {y = bytes + (size - 1)} sized).1 (grind (arith, whole))

pub opened_textures : (s : Scene) → Textures s (opening s)
opened_textures s = record {
  ages = λ k. omega arith;
  locals = λ c. omega arith;
  acting_local = λ c h. refl;
  light_local = λ c a b d. refl;
  held = λ c t spot live. absurd (no_some refl live.0);
  marks = λ c k level live. absurd (no_some refl live.0);
  packed = λ c. packed_none s c;
  alone = λ c d k a b. absurd (nothing c k a);
}
  where
    nothing : (c k : ℕ) → HasLive (opening s).heap ((opening s).client c) k → ⊥
    nothing c k (inl x) = no_some refl x.2.0
    nothing c k (inr x) = no_some refl x.1.0

pub light : (s : Scene) (w : World) (c : ℕ) → Invariant s w → Textures s w → LegalEntry s w (Light c) → Textures s (after_entry s w (Light c))
light s w c inv tex legal = record {
  ages = tex.ages;
  locals = grind (arith, nat_tests);
  acting_local = λ d. put_keeps (λ k q. is_acting q.phase ≡ true → q.local ≡ w.heap.global) w.client c _ d (λ h. tex.light_local c legal.1 legal.2 legal.0) (tex.acting_local d);
  light_local = λ d none. absurd (grind arith);
  held = λ d. put_keeps (HeldBy s w.heap w.memory) w.client c _ d (tex.held c) (tex.held d);
  marks = λ d. put_keeps (λ k q. MarkedBy w.heap q) w.client c _ d (tex.marks c) (tex.marks d);
  packed = λ d. put_keeps (λ k q. Packed s k q.placed q.levels) w.client c _ d (tex.packed c) (tex.packed d);
  alone = alone_put w.heap w.heap w.client c _ (λ k x. x) (λ d k x. x) tex.alone;
}

pub kernel : (s : Scene) (w : World) (c found : ℕ) → Invariant s w → Textures s w → LegalEntry s w (Kernel c found) → Textures s (after_entry s w (Kernel c found))
kernel s w c found inv tex legal = record {
  ages = tex.ages;
  locals = λ d. put_keeps (λ k q. q.local ≤ w.heap.global) w.client c (taken_in s w c) d (omega arith) (tex.locals d);
  acting_local = λ d. put_keeps (λ k q. is_acting q.phase ≡ true → q.local ≡ w.heap.global) w.client c (taken_in s w c) d (λ h. refl) (tex.acting_local d);
  light_local = λ d none. absurd (grind arith);
  held = λ d. put_keeps (HeldBy s w.heap w.memory) w.client c (taken_in s w c) d (λ t spot live. tex.held c t spot (was_live t spot live)) (tex.held d);
  marks = λ d. put_keeps (λ k q. MarkedBy w.heap q) w.client c (taken_in s w c) d (λ k level live. tex.marks c k level (was_shared k level live)) (tex.marks d);
  packed = λ d. put_keeps (λ k q. Packed s k q.placed q.levels) w.client c (taken_in s w c) d (packed_lose s c (w.client c).placed (w.client c).levels (is_newer w.heap (w.client c).local) (tex.packed c)) (tex.packed d);
  alone = alone_put w.heap w.heap w.client c (taken_in s w c) (none_new w.heap w.heap (w.client c) (taken_in s w c) was_live was_shared) (λ d k x. x) tex.alone;
}
  where
    -- what isn't lost was live
    was_live : (t : ℕ) (spot : Spot) → IsLiveAt w.heap (taken_in s w c) t spot → IsLiveAt w.heap (w.client c) t spot
    was_live t spot live =
        let old = kept_one (is_newer w.heap (w.client c).local) ((w.client c).placed t) spot live.0 in
        (old.0, λ k i. grind (arith, nat_tests, old.1 k i))

    was_shared : (k level : ℕ) → IsLiveShared w.heap (taken_in s w c) k level → IsLiveShared w.heap (w.client c) k level
    was_shared k level live =
        let old = kept_level (is_newer w.heap (w.client c).local) (w.client c).levels k level live.0 in
        (old.0, grind (arith, nat_tests, old.1))

pub stale : (s : Scene) (w : World) (c : ℕ) → Invariant s w → Textures s w → LegalEntry s w (Stale c) → Textures s (after_entry s w (Stale c))
stale s w c inv tex legal = record {
  ages = tex.ages;
  locals = grind (arith, nat_tests);
  acting_local = grind (arith, nat_tests);
  light_local = grind (arith, nat_tests);
  held = λ d. put_keeps (HeldBy s w.heap w.memory) w.client c _ d (tex.held c) (tex.held d);
  marks = λ d. put_keeps (λ k q. MarkedBy w.heap q) w.client c _ d (tex.marks c) (tex.marks d);
  packed = λ d. put_keeps (λ k q. Packed s k q.placed q.levels) w.client c _ d (tex.packed c) (tex.packed d);
  alone = alone_put w.heap w.heap w.client c _ (λ k x. x) (λ d k x. x) tex.alone;
}

pub emit : (s : Scene) (w : World) (c groups : ℕ) → Invariant s w → Textures s w → LegalEntry s w (Emit c groups) → Textures s (after_entry s w (Emit c groups))
emit s w c groups inv tex legal = record {
  ages = tex.ages;
  locals = grind (arith, nat_tests);
  acting_local = grind (arith, nat_tests);
  light_local = grind (arith, nat_tests);
  held = λ d. put_keeps (HeldBy s w.heap w.memory) w.client c _ d (tex.held c) (tex.held d);
  marks = λ d. put_keeps (λ k q. MarkedBy w.heap q) w.client c _ d (tex.marks c) (tex.marks d);
  packed = λ d. put_keeps (λ k q. Packed s k q.placed q.levels) w.client c _ d (tex.packed c) (tex.packed d);
  alone = alone_put w.heap w.heap w.client c _ (λ k x. x) (λ d k x. x) tex.alone;
}

pub leave : (s : Scene) (w : World) (c : ℕ) → Invariant s w → Textures s w → LegalEntry s w (Leave c) → Textures s (after_entry s w (Leave c))
leave s w c inv tex legal = record {
  ages = tex.ages;
  locals = grind (arith, nat_tests);
  acting_local = grind (arith, nat_tests);
  light_local = grind (arith, nat_tests, tex.acting_local c);
  held = λ d. put_keeps (HeldBy s w.heap w.memory) w.client c _ d (tex.held c) (tex.held d);
  marks = λ d. put_keeps (λ k q. MarkedBy w.heap q) w.client c _ d (tex.marks c) (tex.marks d);
  packed = λ d. put_keeps (λ k q. Packed s k q.placed q.levels) w.client c _ d (tex.packed c) (tex.packed d);
  alone = alone_put w.heap w.heap w.client c _ (λ k x. x) (λ d k x. x) tex.alone;
}

pub info : (s : Scene) (w : World) (c : ℕ) → Invariant s w → Textures s w → LegalEntry s w (Info c) → Textures s (after_entry s w (Info c))
info s w c inv tex legal = record {
  ages = tex.ages;
  locals = grind (arith, nat_tests);
  acting_local = grind (arith, nat_tests);
  light_local = grind (arith, nat_tests, inv.nobody);
  held = λ d. put_keeps (HeldBy s w.heap w.memory) w.client c _ d (tex.held c) (tex.held d);
  marks = λ d. put_keeps (λ k q. MarkedBy w.heap q) w.client c _ d (tex.marks c) (tex.marks d);
  packed = λ d. put_keeps (λ k q. Packed s k q.placed q.levels) w.client c _ d (tex.packed c) (tex.packed d);
  alone = alone_put w.heap w.heap w.client c _ (λ k x. x) (λ d k x. x) tex.alone;
}

pub change : (s : Scene) (w : World) (i : ℕ) → Invariant s w → Textures s w → LegalEntry s w (Change i) → Textures s (after_entry s w (Change i))
change s w i inv tex legal = record {
  ages = tex.ages;
  locals = tex.locals;
  acting_local = tex.acting_local;
  light_local = grind (arith, nat_tests, inv.nobody);
  held = tex.held;
  marks = tex.marks;
  packed = tex.packed;
  alone = tex.alone;
}

pub gone : (s : Scene) (w : World) (c : ℕ) → Invariant s w → Textures s w → LegalEntry s w (Gone c) → Textures s (after_entry s w (Gone c))
gone s w c inv tex legal = record {
  ages = tex.ages;
  locals = λ d. grind (arith, nat_tests, tex.locals d);
  acting_local = λ d. grind (arith, nat_tests, tex.acting_local d);
  light_local = λ d n l p. absurd (omega arith);
  held = λ d. put_keeps (HeldBy s w.heap w.memory) w.client c _ d (tex.held c) (tex.held d);
  marks = λ d. put_keeps (λ k q. MarkedBy w.heap q) w.client c _ d (tex.marks c) (tex.marks d);
  packed = λ d. put_keeps (λ k q. Packed s k q.placed q.levels) w.client c _ d (tex.packed c) (tex.packed d);
  alone = alone_put w.heap w.heap w.client c _ (λ k x. x) (λ d k x. x) tex.alone;
}
