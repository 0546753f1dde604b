-- The run of a made scene is short and a hold-run, so it has a report.
use Rattle.dri_run.proofs.Making.{made_report, made_short}
use Rattle.dri_run.proofs.made.report_of.Goals as goal

pub check-requires-clause-few : goal.check-requires-clause-few
check-requires-clause-few c = made_short c.args.clients _ c.in_ok-world.world.scene c.in_ok-world.world.events c.journal.result.now c.requires.range c.requires.scene c.in_ok-world.ensures.scene c.in_ok-world.ensures.run c.journal.ensures.same

pub returns-in-Ok : goal.returns-in-Ok
returns-in-Ok c =
    made_report c.args.clients c.deref.result.now _ c.in_ok-world.world.scene c.in_ok-world.world.events c.journal.result.now c.in-Ok.report c.deref.ensures c.requires.scene c.in_ok-world.ensures.scene c.in_ok-world.ensures.run c.journal.ensures.same
    c.in-Ok.ensures.judges c.in-Ok.ensures.tells
