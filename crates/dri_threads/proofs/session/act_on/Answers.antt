use Rattle.dri_threads.proofs.Made.{acted_in, room_in}
use Rattle.dri_threads.proofs.session.act_on.Goals as goal

pub loop-preserved : goal.loop-preserved
loop-preserved c = record {
  works = acted_in c.args.side.now c.loop.side c.act.new.side c.args.client.now c.loop.client c.act.new.self c.in-Ran.entry c.loop.invariant.works c.in-Ran.ensures.made c.in-Ran.ensures.own;
  acting = c.in-Ran.ensures.acting;
  room = room_in _ _ _ _ c.in-Ran.entry c.in-Ran.ensures.made c.in-Ran.ensures.falls c.loop.invariant.room;
}
