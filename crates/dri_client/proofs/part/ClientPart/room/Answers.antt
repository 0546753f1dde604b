-- There is room only for a small texture.
use Rattle.std.proofs.Common.{◌≡◌, ◌<◌, ◌∙◌, arith, ap, sym}
use Rattle.dri_model.specs.Shares.{room_for}
use Rattle.dri_texheap.specs.Placements.{levels_of}
use Rattle.dri_client.specs.Parts.{PartState}
use Rattle.dri_client.specs.Textures.{blocks_of}
use Rattle.dri_client.proofs.Placing.{no_room_of, room_of_blocks}
use Rattle.dri_client.proofs.part.ClientPart.room.Goals as goal

pub returns-then-blocks-eq0 : goal.returns-then-blocks-eq0
returns-then-blocks-eq0 c =
    let k = c.args.self.now in
    let none : blocks_of k.placed.region_size c.args.script.now c.args.texture ≡ 0 = omega (arith, c.blocks-blocks.ensures, c.if-blocks-eq0.true) in
    sym (no_room_of k.placed.region_size c.args.script.now k c.args.texture none)

pub returns : goal.returns
returns c =
    let k = c.args.self.now in
    let some : 0 < blocks_of k.placed.region_size c.args.script.now c.args.texture = omega (arith, c.blocks-blocks.ensures, c.if-blocks-eq0.false) in
    c.room.ensures ∙ (ap (λ (p : PartState). room_for p.placed.region_size (levels_of p.placed) c.blocks-blocks.result) c.self.view_is
    ∙ (ap (room_for k.placed.region_size (levels_of k.placed)) c.blocks-blocks.ensures ∙ sym (room_of_blocks k.placed.region_size c.args.script.now k c.args.texture some)))
