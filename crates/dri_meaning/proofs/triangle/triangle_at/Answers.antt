-- The three tests, and what is left behind them.
use Rattle.std.proofs.Common.{◌≡◌, true, false, rules, option_copied}
use Rattle.dri_base.specs.Coverage.{covers, quantity}
use Rattle.dri_base.specs.Fragments.{in_scissor, rules_of, shaded}
use Rattle.dri_base.specs.Texels.{given_image}
use Rattle.dri_texel.specs.Pixels.{texel_used, view_of}
use Rattle.dri_meaning.proofs.PixelRules.{cut_off, left_there, uncovered}
use Rattle.dri_meaning.proofs.triangle.triangle_at.Goals as goal

pub returns-then-not-covers : goal.returns-then-not-covers
returns-then-not-covers c =
    let out : covers c.args.triangle.now c.args.x c.args.y ≡ false = search rules in
    uncovered (rules_of c.args.state.now) (given_image (option_copied c.args.texture)) c.args.triangle.now c.args.x c.args.y c.args.under out

pub returns-then-not-in_scissor : goal.returns-then-not-in_scissor
returns-then-not-in_scissor c =
    let inside : covers c.args.triangle.now c.args.x c.args.y ≡ true = search rules in
    let out : in_scissor c.args.state.now.scissor c.args.x c.args.y ≡ false = search rules in
    cut_off (rules_of c.args.state.now) (given_image (option_copied c.args.texture)) c.args.triangle.now c.args.x c.args.y c.args.under inside out

pub returns : goal.returns
returns c =
    let s = c.args.state.now in
    let t = c.args.triangle.now in
    let image = given_image (option_copied c.args.texture) in
    let inside : covers t c.args.x c.args.y ≡ true = search rules in
    let within : in_scissor s.scissor c.args.x c.args.y ≡ true = search rules in
    let view : c.view_of.result ≡ view_of (rules_of s) = search rules in
    let u : c.texel_used-texel.result ≡ texel_used s.tex_mode image s.wrap (quantity t (λ v. v.s) c.args.x c.args.y) (quantity t (λ v. v.t) c.args.x c.args.y) = search rules in
    let colour : c.shaded-colour.result ≡ shaded s.shade t c.args.x c.args.y = search rules in
    let z : c.value_at-z.result ≡ quantity t (λ v. v.z) c.args.x c.args.y = search rules in
    left_there c.pixel_rule.ensures (rules_of s) image t c.args.x c.args.y c.args.under c.fragment.result c.view_of.result c.texel_used-texel.result c.shaded-colour.result c.value_at-z.result inside within view u colour z (search rules)
