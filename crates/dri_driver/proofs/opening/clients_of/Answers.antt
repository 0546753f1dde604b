use Rattle.std.proofs.Common.{◌≡◌, ◌∙◌, ◌+◌, ◌++◌, [], ◌∷◌, ℕ, Some, length, ap, sym, subst, rules}
use Rattle.std.specs.Prelude.{List, slice_get}
use Rattle.std.specs.Arc.{arc_value}
use Rattle.std.proofs.lemmas.List.{length_push}
use Rattle.std.proofs.lemmas.Option.{get_or_from_slice_get, slice_get_within}
use Rattle.dri_base.specs.Ranges.{client_numbers}
use Rattle.dri_base.specs.Scenes.{commands_of}
use Rattle.dri_base.specs.declared.scene.Scene.{Scene}
use Rattle.dri_driver.specs.Clients.{ClientState}
use Rattle.dri_core.specs.Privates.{opening_part}
use Rattle.dri_driver.specs.Opening.{IsOpening}
use Rattle.dri_driver.proofs.Openings.{opening_more}
use Rattle.dri_core.proofs.Lists.{number_at}
use Rattle.dri_driver.proofs.opening.clients_of.Goals as goal

pub new-requires-clause-there : goal.new-requires-clause-there
new-requires-clause-there c =
    let s = arc_value c.in_ok-clone.field-0 in
    let n = c.get.result.now.number in
    let at : slice_get (client_numbers s.clients) c.loop-i.i ≡ Some n =
    subst (λ (t : Scene). slice_get (client_numbers t.clients) c.loop-i.i ≡ Some n) (c.deref-in-loop-i.ensures ∙ sym c.in_ok-clone.ensures.cases) (number_at c.deref-in-loop-i.result.now.clients c.loop-i.i c.get.result.now c.get.ensures) in
    (c.loop-i.i, slice_get_within (client_numbers s.clients) c.loop-i.i n at, get_or_from_slice_get (client_numbers s.clients) c.loop-i.i n n at)

pub loop-i-preserved : goal.loop-i-preserved
loop-i-preserved c =
    let s = arc_value c.args.scene.now in
    let ks = c.loop-i.clients.items in
    let k = c.in_ok-client.client in
    let n = c.get.result.now.number in
    let pushed : c.push_reserved.new.self.items ≡ ks ++ k ∷ [] = search rules in
    let at : slice_get (client_numbers s.clients) c.loop-i.i ≡ Some n =
    subst (λ (t : Scene). slice_get (client_numbers t.clients) c.loop-i.i ≡ Some n) c.deref-in-loop-i.ensures (number_at c.deref-in-loop-i.result.now.clients c.loop-i.i c.get.result.now c.get.ensures) in
    let opens : IsOpening s n k = record {
      scene = c.in_ok-client.ensures.scene ∙ c.in_ok-clone.ensures.cases;
      numbered = c.in_ok-client.ensures.number;
      living = c.in_ok-client.ensures.living;
      part = c.in_ok-client.ensures.part ∙ ap (λ (t : Scene). opening_part (commands_of t n)) c.in_ok-clone.ensures.cases;
    } in
    record {
      last = c.loop-i.invariant.last;
      room = rw c.push_reserved.ensures.capacity c.loop-i.invariant.room;
      number = ap length pushed ∙ length_push ks k ∙ ap (λ m. m + 1) c.loop-i.invariant.number;
      each = subst (λ (xs : List ClientState). (j m : ℕ) (x : ClientState) → slice_get (client_numbers s.clients) j ≡ Some m → slice_get xs j ≡ Some x → IsOpening s m x) (sym pushed)
          (opening_more s (client_numbers s.clients) ks c.loop-i.i n k c.loop-i.invariant.number at c.loop-i.invariant.each opens);
    }
