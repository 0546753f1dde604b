-- What is loaded fits, and the card draws by it.
use Rattle.std.proofs.Common.{◌≤◌, ◌∙◌, refl, sym, subst, arith, length}
use Rattle.dri_base.specs.Ranges.{heap_bytes}
use Rattle.dri_base.specs.Scenes.{textures_of}
use Rattle.dri_base.specs.Texels.{texture_bound}
use Rattle.dri_card.specs.Loading.{CanLoad}
use Rattle.dri_core.proofs.TextureSizes.{heap_small}
use Rattle.dri_ring.specs.Jobs.{SpellAll}
use Rattle.dri_draw.proofs.Drawn.{on_ok}
use Rattle.dri_replay.proofs.Loading.{bytes_fit}
use Rattle.dri_ring.proofs.Ran.{draws_loaded, loads_within}
use Rattle.dri_ring.proofs.running.load.Goals as goal

pub upload-requires : goal.upload-requires
upload-requires c =
    let small : heap_bytes c.args.scene.now ≤ 4194304 = heap_small c.args.scene.now c.requires.scene in
    let fit : length c.bytes_named-bytes.result.now ≤ heap_bytes c.args.scene.now = rw c.bytes_named-bytes.ensures (bytes_fit c.args.scene.now c.args.client c.args.texture (texture_bound (textures_of c.args.scene.now c.args.client) c.args.texture) c.requires.scene refl) in
    omega (arith, small, fit)

pub unwrap-requires : goal.unwrap-requires
unwrap-requires c =
    let fit : length c.bytes_named-bytes.result.now ≤ heap_bytes c.args.scene.now = rw c.bytes_named-bytes.ensures (bytes_fit c.args.scene.now c.args.client c.args.texture (texture_bound (textures_of c.args.scene.now c.args.client) c.args.texture) c.requires.scene refl) in
    c.upload.ensures.within.1 (omega (arith, c.requires.bytes, fit))

pub unwrap-requires-2 : goal.unwrap-requires-2
unwrap-requires-2 c =
    let all : SpellAll c.args.scene.now c.args.client c.args.texture c.words.result.now = subst (SpellAll c.args.scene.now c.args.client c.args.texture) (sym c.words.ensures) c.requires.spelled in
    let able : CanLoad c.words.result.now c.upload.new.self = record { spelled = all.spelled; within = loads_within c.args.scene.now c.args.client c.args.texture c.words.result.now c.upload.new.self c.requires.scene (c.upload.ensures.len ∙ c.requires.bytes) all } in
    (c.load_registers.ensures.can able).0

pub returns-clause-draws : goal.returns-clause-draws
returns-clause-draws c =
    let fit : length c.bytes_named-bytes.result.now ≤ heap_bytes c.args.scene.now = rw c.bytes_named-bytes.ensures (bytes_fit c.args.scene.now c.args.client c.args.texture (texture_bound (textures_of c.args.scene.now c.args.client) c.args.texture) c.requires.scene refl) in
    let within = c.upload.ensures.within.1 (omega (arith, c.requires.bytes, fit)) in
    let all : SpellAll c.args.scene.now c.args.client c.args.texture c.words.result.now = subst (SpellAll c.args.scene.now c.args.client c.args.texture) (sym c.words.ensures) c.requires.spelled in
    let able : CanLoad c.words.result.now c.upload.new.self = record { spelled = all.spelled; within = loads_within c.args.scene.now c.args.client c.args.texture c.words.result.now c.upload.new.self c.requires.scene (c.upload.ensures.len ∙ c.requires.bytes) all } in
    let registers = (c.load_registers.ensures.can able).1 in
    rw (← c.words.ensures) (draws_loaded c.args.scene.now c.args.client c.args.texture c.words.result.now c.bytes_named-bytes.result.now c.args.card.now c.upload.new.self c.load_registers.new.self
    c.requires.scene all c.bytes_named-bytes.ensures (on_ok c.upload.result _ within c.upload.ensures.ok) registers)
