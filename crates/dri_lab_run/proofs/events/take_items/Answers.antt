-- One item more.
use Rattle.std.proofs.Common.{rules, refl, sym}
use Rattle.std.proofs.lemmas.List.{append-nil}
use Rattle.dri_scene.proofs.Joins.{added_none}
use Rattle.dri_lab_run.proofs.Items.{events_on, lines_on, may_on}
use Rattle.dri_lab_run.proofs.events.take_items.Goals as goal

pub loop-item-init : goal.loop-item-init
loop-item-init c = record {
  made = record { scene = refl; events = sym (append-nil _) };
  lines = added_none _;
}

pub take_item-requires : goal.take_item-requires
take_item-requires c = may_on c.args.world.now c.loop-item.world c.args.items.now c.loop-item.item-index _ (search rules) c.loop-item.invariant.made c.requires

pub loop-item-preserved : goal.loop-item-preserved
loop-item-preserved c = record {
  made = events_on c.args.world.now c.loop-item.world c.take_item.new.world c.args.items.now c.loop-item.item-index _ (search rules) c.loop-item.invariant.made c.in_ok-take_item.ensures.made;
  lines = lines_on c.args.world.now c.loop-item.world c.args.items.now c.loop-item.item-index _ (search rules) c.loop-item.invariant.made c.loop-item.invariant.lines c.in_ok-take_item.ensures.line;
}
