use Rattle.std.proofs.Common.{◌≡◌, subst, sym}
use Rattle.std.specs.Arc.{arc_value}
use Rattle.dri_base.specs.declared.journal.Entry.TheVariants.{Emit}
use Rattle.dri_core.specs.EntryTable.{LegalEntry}
use Rattle.dri_core.specs.Privates.{own_registers}
use Rattle.dri_core.specs.Runs.{after}
use Rattle.dri_model.specs.Groups.{bits}
use Rattle.dri_model.specs.Words.{loaded, register_words}
use Rattle.dri_shared.specs.States.{MayAdd, SharedState, world_of}
use Rattle.dri_shared.proofs.Loading.{can_load, emitted}
use Rattle.dri_shared.proofs.Steps.{faithful}
use Rattle.dri_shared.proofs.client_side.ClientSide.emit.Goals as goal

pub unwrap-requires : goal.unwrap-requires
unwrap-requires c =
    let i = c.shared.inside in let s = arc_value i.scene in let j = i.journal.items in let n = c.args.self.now.client in let good = c.shared.invariant.scene in let run = c.shared.invariant.run in
    let legal : LegalEntry s (after s j) (Emit n (bits c.args.groups)) = subst (λ v. MayAdd v (Emit n (bits c.args.groups))) (sym c.shared.view_is) c.requires.legal in
    let own : c.args.groups ≡ ((after s j).client n).dirty = subst (λ (v : SharedState). c.args.groups ≡ ((world_of v).client n).dirty) (sym c.shared.view_is) c.requires.groups in
    let words : c.args.words.now ≡ register_words c.args.groups (own_registers s n ((after s j).client n)) =
    subst (λ (v : SharedState). c.args.words.now ≡ register_words c.args.groups (own_registers v.scene n ((world_of v).client n))) (sym c.shared.view_is) c.requires.words in
    let able = can_load s j i.holdings n c.args.groups c.args.words.now good run c.shared.invariant.world legal.0.0 own words in
    (c.load_registers.ensures.can able.0).0

pub invariant_of-shared : goal.invariant_of-shared
invariant_of-shared c =
    let i = c.shared.inside in let s = arc_value i.scene in let j = i.journal.items in let n = c.args.self.now.client in let good = c.shared.invariant.scene in let run = c.shared.invariant.run in
    let legal : LegalEntry s (after s j) (Emit n (bits c.args.groups)) = subst (λ v. MayAdd v (Emit n (bits c.args.groups))) (sym c.shared.view_is) c.requires.legal in
    let own : c.args.groups ≡ ((after s j).client n).dirty = subst (λ (v : SharedState). c.args.groups ≡ ((world_of v).client n).dirty) (sym c.shared.view_is) c.requires.groups in
    let words : c.args.words.now ≡ register_words c.args.groups (own_registers s n ((after s j).client n)) =
    subst (λ (v : SharedState). c.args.words.now ≡ register_words c.args.groups (own_registers v.scene n ((world_of v).client n))) (sym c.shared.view_is) c.requires.words in
    let able = can_load s j i.holdings n c.args.groups c.args.words.now good run c.shared.invariant.world legal.0.0 own words in
    let own_words = own_registers s n ((after s j).client n) in
    let card : c.load_registers.new.self ≡ record i.holdings.card { registers = loaded c.args.groups own_words i.holdings.card.registers } =
    rw (able.1, able.2) at (c.load_registers.ensures.can able.0).1 in
    faithful s j c.push_reserved.new.self.items i.holdings (record i.holdings { card = c.load_registers.new.self }) (Emit n (bits c.args.groups)) c.shared.invariant
    legal (rw (← c.bits.ensures) c.push_reserved.ensures.items)
    (emitted s i.holdings (after s j) n c.shared.invariant.world c.args.groups c.load_registers.new.self own card)
