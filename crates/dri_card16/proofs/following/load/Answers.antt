-- What is loaded fits, and the card draws by it.
use Rattle.std.proofs.Common.{◌≤◌, ◌≡◌, ◌∙◌, ap, arith, length}
use Rattle.std.specs.Option.{option_copied}
use Rattle.dri_base.specs.Ranges.{heap_bytes}
use Rattle.dri_base.specs.Scenes.{textures_of}
use Rattle.dri_base.specs.Texels.{texture_bound}
use Rattle.dri_base.specs.declared.scene.ClientScript.{ClientScript}
use Rattle.dri_base.specs.declared.state.Registers.{Registers}
use Rattle.dri_core.proofs.TextureSizes.{heap_small}
use Rattle.dri_card16.proofs.Made16.{draws16_own}
use Rattle.dri_draw.proofs.Drawn.{on_ok}
use Rattle.dri_replay.proofs.Loading.{bytes_fit, can_load, has_loaded}
use Rattle.dri_card16.proofs.following.load.Goals as goal

pub upload-requires : goal.upload-requires
upload-requires c =
    let s = c.args.replay.now.scene in
    let found : option_copied c.texture_bound-image.result ≡ texture_bound (textures_of s c.args.client) c.state-state.result.bound = c.texture_bound-image.ensures.found ∙ (λ i. texture_bound ((c.as_slice.ensures ∙ ap (λ (p : ClientScript). p.textures) c.script.ensures.same) i) c.state-state.result.bound) in
    let fit : length c.bytes_of.result.now ≤ heap_bytes s = rw c.bytes_of.ensures (bytes_fit s c.args.client c.state-state.result.bound (option_copied c.texture_bound-image.result) c.entries.ensures.in_range found) in
    let small : heap_bytes s ≤ 4194304 = heap_small s c.entries.ensures.in_range in
    omega (arith, small, fit)

pub unwrap-requires : goal.unwrap-requires
unwrap-requires c =
    let s = c.args.replay.now.scene in
    let found : option_copied c.texture_bound-image.result ≡ texture_bound (textures_of s c.args.client) c.state-state.result.bound = c.texture_bound-image.ensures.found ∙ (λ i. texture_bound ((c.as_slice.ensures ∙ ap (λ (p : ClientScript). p.textures) c.script.ensures.same) i) c.state-state.result.bound) in
    let fit : length c.bytes_of.result.now ≤ heap_bytes s = rw c.bytes_of.ensures (bytes_fit s c.args.client c.state-state.result.bound (option_copied c.texture_bound-image.result) c.entries.ensures.in_range found) in
    c.upload.ensures.within.1 (omega (arith, c.requires.bytes, fit))

pub unwrap-requires-2 : goal.unwrap-requires-2
unwrap-requires-2 c =
    let s = c.args.replay.now.scene in
    let found : option_copied c.texture_bound-image.result ≡ texture_bound (textures_of s c.args.client) c.state-state.result.bound = c.texture_bound-image.ensures.found ∙ (λ i. texture_bound ((c.as_slice.ensures ∙ ap (λ (p : ClientScript). p.textures) c.script.ensures.same) i) c.state-state.result.bound) in
    let fit : length c.bytes_of.result.now ≤ heap_bytes s = rw c.bytes_of.ensures (bytes_fit s c.args.client c.state-state.result.bound (option_copied c.texture_bound-image.result) c.entries.ensures.in_range found) in
    (c.load_registers.ensures.can (can_load s c.args.client c.state-state.result (option_copied c.texture_bound-image.result) c.registers_alone.result.bound c.words.result.now c.upload.new.self c.entries.ensures.in_range c.state-state.ensures.scissor found c.texture_bound-image.ensures.whole (ap (λ (r : Registers). r.bound) c.registers_alone.ensures) (c.words.ensures ∙ c.state_words-words.ensures) (c.upload.ensures.len ∙ c.requires.bytes))).0

pub returns-clause-draws : goal.returns-clause-draws
returns-clause-draws c =
    let s = c.args.replay.now.scene in
    let found : option_copied c.texture_bound-image.result ≡ texture_bound (textures_of s c.args.client) c.state-state.result.bound = c.texture_bound-image.ensures.found ∙ (λ i. texture_bound ((c.as_slice.ensures ∙ ap (λ (p : ClientScript). p.textures) c.script.ensures.same) i) c.state-state.result.bound) in
    let fit : length c.bytes_of.result.now ≤ heap_bytes s = rw c.bytes_of.ensures (bytes_fit s c.args.client c.state-state.result.bound (option_copied c.texture_bound-image.result) c.entries.ensures.in_range found) in
    let within = c.upload.ensures.within.1 (omega (arith, c.requires.bytes, fit)) in
    let registers = (c.load_registers.ensures.can (can_load s c.args.client c.state-state.result (option_copied c.texture_bound-image.result) c.registers_alone.result.bound c.words.result.now c.upload.new.self c.entries.ensures.in_range c.state-state.ensures.scissor found c.texture_bound-image.ensures.whole (ap (λ (r : Registers). r.bound) c.registers_alone.ensures) (c.words.ensures ∙ c.state_words-words.ensures) (c.upload.ensures.len ∙ c.requires.bytes))).1 in
    let placed = ap (λ (r : Registers). r.bound) c.registers_alone.ensures in
    draws16_own c.args.replay.now c.args.client c.state-state.result (option_copied c.texture_bound-image.result) c.load_registers.new.self found c.state-state.ensures.kept
    (has_loaded s c.args.client c.state-state.result (option_copied c.texture_bound-image.result) c.registers_alone.result.bound c.words.result.now c.bytes_of.result.now c.args.card.now c.upload.new.self c.load_registers.new.self
    c.entries.ensures.in_range c.state-state.ensures.scissor found c.texture_bound-image.ensures.whole placed (c.words.ensures ∙ c.state_words-words.ensures) c.bytes_of.ensures (on_ok c.upload.result _ within c.upload.ensures.ok) (c.upload.ensures.len ∙ c.requires.bytes) registers)
