use Rattle.std.specs.Prelude.{Contains}
use Rattle.dri_explore.specs.declared.ends.End.{End}
use Rattle.std.proofs.Common.{List, [], ◌++◌, ◌∷◌, ◌≡◌, ◌∙◌, ap, sym, subst}
use Rattle.std.proofs.lemmas.Bool.{true≢false}
use Rattle.dri_base.specs.Planes.{plane}
use Rattle.dri_core.specs.Cores.{journal_of}
use Rattle.dri_core.specs.Worlds.{World}
use Rattle.dri_explore.specs.Ends.{journals, screen}
use Rattle.dri_explore.specs.Gathering.{Places}
use Rattle.dri_explore.proofs.Walking.{noted}
use Rattle.dri_explore.proofs.ends.Ends.note.Goals as goal

pub returns : goal.returns
returns c = let s = c.args.world.now.scene in
    let j = journal_of c.args.world.now.events in
    let end : End = record { journal = c.from_vec-journal.result; picture = c.in_ok-picture.picture } in
    let pixels : c.pixels.result.now ≡ screen s j = c.pixels.ensures.value ∙ c.front.ensures.pixels ∙ ap (λ (w : World). plane s.width s.height w.front) (sym c.journal.ensures.world) in
    let none : Contains (journals c.args.self.now.ends) j → ⊥ = λ there. true≢false (sym (c.has.ensures.1 (subst (Contains (journals c.args.self.now.ends)) (sym c.journal.ensures.same) there)) ∙ c.if-has.false) in
    noted s c.args.self.now _ j _ c.requires none (c.from_vec-journal.ensures ∙ c.in_ok-from_slice.ensures.items ∙ c.journal-2.ensures.same)
    (subst (λ p. Places c.args.self.now.pictures c.picture_of.new.self.pictures p c.in_ok-picture.picture) pixels c.in_ok-picture.ensures.placed)
    (c.in_ok-push.ensures.ok ∙ ap (λ (ends : List End). ends ++ end ∷ []) c.in_ok-picture.ensures.ends)
