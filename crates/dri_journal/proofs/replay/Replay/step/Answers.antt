use Rattle.std.proofs.Common.{◌∙◌, refl, sym, ap}
use Rattle.std.proofs.lemmas.Bool.{false≢true}
use Rattle.dri_core.proofs.Decide.{is_legal, legal_is}
use Rattle.dri_journal.specs.Replays.{allows, world_of}
use Rattle.dri_journal.proofs.replay.Replay.step.Goals as goal

pub take-requires : goal.take-requires
take-requires c = legal_is c.args.self.now.scene (world_of c.args.self.now) c.args.entry.now (sym c.judge.ensures.legal ∙ ap allows c.in_default.is)

pub returns-in-Ok : goal.returns-in-Ok
returns-in-Ok c = (legal_is c.args.self.now.scene (world_of c.args.self.now) c.args.entry.now (sym c.judge.ensures.legal ∙ ap allows c.in_default.is), c.in-Ok.ensures.took, c.in-Ok.ensures.deed)

pub returns-in-Err : goal.returns-in-Err
returns-in-Err c = (λ legal. false≢true (c.in-Err.ensures.legal ∙ is_legal c.args.self.now.scene (world_of c.args.self.now) c.args.entry.now legal), c.in-Err.ensures.why, refl)
