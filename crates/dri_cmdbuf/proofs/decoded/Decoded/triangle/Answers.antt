use Rattle.std.proofs.Common.{◌<◌, ◌/◌, ◌∙◌, sym, ap, subst, length, Some, slice_get, arith}
use Rattle.std.proofs.lemmas.List.FromFn.{length-map-range_with_len, get_or-map-range_with_len}
use Rattle.std.proofs.lemmas.Option.{slice_get-get_or}
use Rattle.dri_cmdbuf.specs.Decoding.{triangle_of, triangles_of}
use Rattle.dri_cmdbuf.proofs.decoded.Decoded.triangle.Goals as goal

pub triangle-requires-clause-there : goal.triangle-requires-clause-there
triangle-requires-clause-there c =
    let many = length-map-range_with_len (triangle_of c.self.inside.words.now) 0 (length c.self.inside.words.now / 13) in
    subst (λ n. c.args.i < n) (ap length (sym c.self.view_is) ∙ many) c.requires

pub returns : goal.returns
returns c =
    let words = c.self.inside.words.now in
    let many = length-map-range_with_len (triangle_of words) 0 (length words / 13) in
    let below : c.args.i < length words / 13 = subst (λ n. c.args.i < n) (ap length (sym c.self.view_is) ∙ many) c.requires in
    let item = get_or-map-range_with_len (triangle_of words) 0 (length words / 13) c.args.i c.args.i c.triangle.result below (omega arith) in
    ap (λ l. slice_get l c.args.i) (sym c.self.view_is) ∙ slice_get-get_or (triangles_of words) c.args.i c.triangle.result (subst (λ n. c.args.i < n) (sym many) below) ∙ ap Some (item ∙ sym c.triangle.ensures)
