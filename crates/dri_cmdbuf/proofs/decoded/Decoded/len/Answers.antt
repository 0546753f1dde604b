use Rattle.std.proofs.Common.{◌/◌, ◌∙◌, sym, ap, length}
use Rattle.std.proofs.lemmas.List.FromFn.{length-map-range_with_len}
use Rattle.dri_cmdbuf.specs.Decoding.{triangle_of}
use Rattle.dri_cmdbuf.proofs.decoded.Decoded.len.Goals as goal

pub returns : goal.returns
returns c = sym (length-map-range_with_len (triangle_of c.self.inside.words.now) 0 (length c.self.inside.words.now / 13)) ∙ ap length c.self.view_is
