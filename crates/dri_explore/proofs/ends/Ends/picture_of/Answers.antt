use Rattle.std.proofs.Common.{◌≡◌, ◌∙◌, ◌++◌, ◌∷◌, [], List, ap, inr, refl, sym, arith}
use Rattle.std.proofs.lemmas.Bool.{true≢false}
use Rattle.std.proofs.lemmas.List.Elements.{All-contains}
use Rattle.dri_base.specs.declared.colour.Rgb.{Rgb}
use Rattle.dri_explore.proofs.Walking.{all_next, all_of}
use Rattle.dri_explore.proofs.ends.Ends.picture_of.Goals as goal

pub loop-i-preserved : goal.loop-i-preserved
loop-i-preserved c = record {
  same = refl;
  apart = all_next (λ (picture : List Rgb). picture ≡ c.args.pixels.now → ⊥) c.args.self.now.pictures c.loop-i.i c.get.result.now c.get.ensures c.loop-i.invariant.apart (λ same. true≢false (sym (c.are_pixels.ensures.1 (c.as_slice.ensures ∙ same)) ∙ c.if-are_pixels.false));
}

pub returns-clause-placed : goal.returns-clause-placed
returns-clause-placed c = let none = all_of (λ (picture : List Rgb). picture ≡ c.args.pixels.now → ⊥) c.args.self.now.pictures c.loop-i.i (omega (arith, c.loop-i-test.false, c.len-i-end.ensures)) c.loop-i.invariant.apart in
    inr (
      λ there. All-contains (λ (picture : List Rgb). picture ≡ c.args.pixels.now → ⊥) c.args.self.now.pictures c.args.pixels.now none there refl,
      c.in_ok-push.ensures.ok ∙ ap (λ p. c.args.self.now.pictures ++ p ∷ []) (c.from_vec-screen.ensures ∙ c.in_ok-from_slice.ensures.items),
      c.len-number.ensures,
    )
