use Rattle.std.proofs.Common.{◌≡◌, ◌∙◌, Some, ap}
use Rattle.dri_base.specs.Ranges.{texture_numbers}
use Rattle.dri_texheap.specs.RegionStates.{heap_of}
use Rattle.dri_client.specs.Parts.{next_command}
use Rattle.dri_client.proofs.Keeping.{advanced_kept, changed_kept}
use Rattle.dri_client.proofs.Owned.{command_range}
use Rattle.dri_client.proofs.Running.{run_agrees}
use Rattle.dri_client.proofs.part.ClientPart.run.Goals as goal

pub change-requires : goal.change-requires
change-requires c = (texture_numbers c.args.script.now.textures, command_range c.args.script.now c.args.self.now c.args.command.now c.requires.script c.requires.next)

pub advance-requires-clause-next : goal.advance-requires-clause-next
advance-requires-clause-next c = ap (next_command c.args.script.now) c.change.ensures ∙ c.requires.next

pub returns-clause-part : goal.returns-clause-part
returns-clause-part c = λ s w d own agrees heap.
    run_agrees s w d c.args.self.now c.change.new.self c.advance.new.self c.args.script.now c.args.command.now (heap_of c.args.regions.now) c.change.ensures c.advance.ensures c.requires.next own agrees heap

pub returns-clause-kept : goal.returns-clause-kept
returns-clause-kept c = λ n kept.
    let t = c.args.script.now in
    let command = c.args.command.now in
    let next : next_command t c.change.new.self ≡ Some command = ap (next_command t) c.change.ensures ∙ c.requires.next in
    advanced_kept t command c.change.new.self c.advance.new.self n next c.advance.ensures
    (changed_kept t command (heap_of c.args.regions.now) c.args.self.now c.change.new.self n (command_range t c.args.self.now command c.requires.script c.requires.next) c.change.ensures kept)
