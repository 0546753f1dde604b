use Rattle.std.proofs.Common.{get_or}
use Rattle.dri_sarea.specs.Areas.{no_region}
use Rattle.dri_sarea.specs.Layouts.{entry_fields, entry_values}
use Rattle.dri_sarea.proofs.Pieces.{length_entry}
use Rattle.dri_sarea.proofs.Writing.{put_none, piece_put}
use Rattle.dri_sarea.proofs.write.put_entries.Goals as goal

pub loop-i-init : goal.loop-i-init
loop-i-init c = put_none c.args.out.now.items (entry_fields c.args.count) (λ i. entry_values c.args.count i (get_or c.args.regions.now i no_region))

pub loop-i-preserved : goal.loop-i-preserved
loop-i-preserved c =
    piece_put c.loop-i.out.items c.put_entry.new.out.items c.args.out.now.items (entry_fields c.args.count) (λ i. entry_values c.args.count i (get_or c.args.regions.now i no_region)) c.loop-i.i (λ i. length_entry c.args.count i (get_or c.args.regions.now i no_region)) c.loop-i.invariant c.in_ok-put_entry.ensures
