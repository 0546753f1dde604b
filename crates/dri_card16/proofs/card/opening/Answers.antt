-- The card before anything is drawn.
use Rattle.std.proofs.Common.{◌≡◌, ◌*◌, replicate, refl, rules}
use Rattle.dri_card.proofs.Bytes.{zeros_read}
use Rattle.std.proofs.lemmas.List.{length-replicate}
use Rattle.dri_card16.proofs.card.opening.Goals as goal

pub returns : goal.returns
returns g c =
    let s = c.args.scene.now in
    let bytes : c.in_ok-memory.memory.items ≡ replicate (s.regions * s.region_size) 0 = search rules in
    record {
      sides = record {
        front_width = search rules;
        front_height = search rules;
        back_width = search rules;
        back_height = search rules;
        depth_width = search rules;
        depth_height = search rules;
      };
      shown = search rules;
      held = search rules;
      registers = search rules;
      memory = zeros_read c.in_ok-memory.memory.items (s.regions * s.region_size) bytes;
      bytes = rw bytes (length-replicate (s.regions * s.region_size) 0);
      clip = refl;
    }
