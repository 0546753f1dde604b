use Rattle.std.proofs.Common.{◌≡◌, ◌∙◌, sym, ap, arith, subst, inr, refl, Contains}
use Rattle.std.specs.Prelude.{is_none}
use Rattle.dri_base.specs.Ranges.{client_numbers}
use Rattle.dri_base.specs.declared.journal.Entry.TheVariants as Entry_is
use Rattle.dri_core.specs.Runs.{after, client_of}
use Rattle.dri_core.proofs.Bounds.{made_bounded}
use Rattle.dri_journal.proofs.Judged.{all_met, allows_by, change, fails_by, has_by, is_there_by, no_client}
use Rattle.dri_journal.proofs.Whom.{change_or_clients, is_here, is_there, no_some}
use Rattle.dri_journal.specs.Reasons.{conditions, first_unmet, told_reason}
use Rattle.dri_journal.specs.Replays.{ReplayState, world_of}
use Rattle.dri_journal.proofs.replay.Replay.judge.Goals as goal

pub change-requires : goal.change-requires
change-requires c =
    let i = c.self.inside in
    omega (arith, c.self.invariant.world.made, made_bounded i.scene.now i.entries.items c.self.invariant.scene c.self.invariant.run, c.self.invariant.scene.changed.few)

pub returns-in-Change-clause-legal : goal.returns-in-Change-clause-legal
returns-in-Change-clause-legal c =
    let i = c.self.inside in let s = i.scene.now in let w = after s i.entries.items in let n = c.in-Change.place in
    rw (← c.self.view_is, c.in-Change.is) (allows_by c.change.result ∙ ap is_none (c.change.ensures ∙ change s w i.marks n c.len.result c.self.invariant.world c.len.ensures) ∙ all_met s w (Entry_is.Change n))

pub returns-in-Change-clause-why : goal.returns-in-Change-clause-why
returns-in-Change-clause-why c =
    let i = c.self.inside in let s = i.scene.now in let w = after s i.entries.items in let n = c.in-Change.place in
    rw (← c.self.view_is, c.in-Change.is) (fails_by s w (Entry_is.Change n) c.change.result tt (c.change.ensures ∙ change s w i.marks n c.len.result c.self.invariant.world c.len.ensures))

pub returns-in-Some-clause-legal : goal.returns-in-Some-clause-legal
returns-in-Some-clause-legal c =
    let v = c.args.self.now in
    allows_by c.judge_client.result ∙ ap is_none c.judge_client.ensures ∙ all_met v.scene (world_of v) c.args.entry.now

pub returns-in-Some-clause-why : goal.returns-in-Some-clause-why
returns-in-Some-clause-why c =
    let i = c.self.inside in let s = i.scene.now in let w = after s i.entries.items in let e = c.args.entry.now in
    let has = is_here s c.as_slice.result.now c.place_of.result c.client_of.result (client_of e) c.as_slice.ensures c.client_of.ensures c.place_of.ensures.there (rw c.in-Some.is refl) in
    let told = subst (λ (v : ReplayState). told_reason c.judge_client.result ≡ first_unmet (conditions v.scene (world_of v) e)) (sym c.self.view_is) c.judge_client.ensures in
    rw (← c.self.view_is) (fails_by s w e c.judge_client.result (is_there_by s e has) told)

pub returns-in-None-clause-legal : goal.returns-in-None-clause-legal
returns-in-None-clause-legal c =
    let i = c.self.inside in let s = i.scene.now in let j = i.entries.items in let e = c.args.entry.now in
    let nobody : Contains (client_numbers s.clients) (client_of e) → ⊥ = λ has. no_some c.place_of.result c.in-None.is (is_there s c.as_slice.result.now c.place_of.result c.client_of.result (client_of e) c.as_slice.ensures c.client_of.ensures c.place_of.ensures.there has) in
    rw (← c.self.view_is) (sym (no_client s j e c.self.invariant.scene c.self.invariant.run (change_or_clients e c.in_default.not-Change) nobody))

pub returns-in-None-clause-why : goal.returns-in-None-clause-why
returns-in-None-clause-why c =
    let i = c.self.inside in let s = i.scene.now in let e = c.args.entry.now in
    let nobody : Contains (client_numbers s.clients) (client_of e) → ⊥ = λ has. no_some c.place_of.result c.in-None.is (is_there s c.as_slice.result.now c.place_of.result c.client_of.result (client_of e) c.as_slice.ensures c.client_of.ensures c.place_of.ensures.there has) in
    rw (← c.self.view_is) (inr (λ there. nobody (has_by s e (change_or_clients e c.in_default.not-Change) there), refl))
