use Rattle.std.proofs.Common.{sym, refl, subst, arith}
use Rattle.std.specs.Prelude.{Contains}
use Rattle.std.proofs.lemmas.Option.{slice_get_within}
use Rattle.dri_base.specs.Ranges.{client_numbers}
use Rattle.dri_base.specs.Scenes.{script_of}
use Rattle.dri_core.specs.Runs.{after}
use Rattle.dri_journal.specs.Replays.{ReplayState}
use Rattle.dri_journal.proofs.Keeping.{part_found}
use Rattle.dri_journal.proofs.Whom.{found, is_there}
use Rattle.dri_journal.proofs.replay.Replay.part.Goals as goal

pub unwrap-at-requires : goal.unwrap-at-requires
unwrap-at-requires c =
    let s = c.self.inside.scene.now in
    let has : Contains (client_numbers s.clients) c.args.client = subst (λ (v : ReplayState). Contains (client_numbers v.scene.clients) c.args.client) (sym c.self.view_is) c.requires in
    is_there s c.as_slice.result.now c.place_of.result c.args.client c.args.client c.as_slice.ensures refl c.place_of.ensures.there has

pub index-requires : goal.index-requires
index-requires c =
    let s = c.self.inside.scene.now in
    let there = found s c.as_slice.result.now c.place_of.result c.unwrap-at.result c.args.client c.args.client c.unwrap-at.ensures c.as_slice.ensures refl c.place_of.ensures.script in
    let below = slice_get_within s.clients c.unwrap-at.result (script_of s c.args.client) there in
    omega (arith, below, c.self.invariant.clients.room)

pub returns : goal.returns
returns c =
    let i = c.self.inside in let s = i.scene.now in let j = i.entries.items in let n = c.args.client in let at = c.unwrap-at.result in
    let there = found s c.as_slice.result.now c.place_of.result at n n c.unwrap-at.ensures c.as_slice.ensures refl c.place_of.ensures.script in
    let own = part_found s (after s j) n at i.parts.items c.index.result.now c.self.invariant.clients there c.index.ensures in
    rw (← c.self.view_is) (record { agrees = own.0; kept = own.1 })
