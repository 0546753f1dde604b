use Rattle.std.proofs.Common.{◌∙◌, ap, List}
use Rattle.std.specs.Prelude.{◌==◌, ◌&&◌, is_none}
use Rattle.std.specs.List.{list_all}
use Rattle.dri_client.specs.Parts.{PartState}
use Rattle.dri_core.specs.Phases.{is_done}
use Rattle.dri_journal.proofs.Beginning.{whole_is}
use Rattle.dri_journal.proofs.replay.Replay.is_whole.Goals as goal

pub returns : goal.returns
returns c =
    let i = c.self.inside in let s = i.scene.now in
    let done = c.are_done-are_done.ensures ∙ ap (λ (xs : List PartState). list_all (λ (x : PartState). is_done x.phase) xs) c.as_slice.ensures.value in
    rw (← c.self.view_is) (c.are_both.ensures ∙ (λ k. c.is_unheld-is_unheld.ensures k && c.are_both-rest.ensures k) ∙ (λ k. is_none i.marks.holder && (c.are_done-are_done.result && (i.marks.made == c.len.ensures k))) ∙ whole_is s i.entries.items i.parts.items i.marks c.are_done-are_done.result c.self.invariant.clients c.self.invariant.world done)
