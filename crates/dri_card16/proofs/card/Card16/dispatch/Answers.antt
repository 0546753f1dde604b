-- The buffer's triangles are those that were read.
use Rattle.std.proofs.Common.{◌≡◌, ◌≤◌, ◌+◌, ◌*◌, [], ◌∷◌, ◌∙◌, sym, subst, refl}
use Rattle.dri_card.specs.Contents.{Holds}
use Rattle.dri_card16.specs.Calls.{after_triangles16, covered16}
use Rattle.dri_card.proofs.Readings.{one_triangle, one_word_list, ok_same, err_ok}
use Rattle.dri_card16.proofs.card.Card16.dispatch.Goals as goal

pub returns-in_err-triangles-clause-one : goal.returns-in_err-triangles-clause-one
returns-in_err-triangles-clause-one g c =
    λ t it words. absurd (err_ok _ _ (c.in_err-triangles.ensures.read (t ∷ []) (one_triangle t it) (c.words.ensures.value ∙ one_word_list _ t words)))

pub returns-clause-ok : goal.returns-clause-ok
returns-clause-ok g c =
    let read = c.in_ok-triangles.ensures.triangles in
    (record { triangles = c.in_ok-triangles.triangles; in_range = read.0; spells = sym c.words.ensures.value ∙ read.1 }, c.draw_all.ensures.drawn)

pub returns-clause-one : goal.returns-clause-one
returns-clause-one g c =
    λ t it words.
    let same : c.in_ok-triangles.triangles ≡ t ∷ [] = ok_same _ _ (c.in_ok-triangles.ensures.read (t ∷ []) (one_triangle t it) (c.words.ensures.value ∙ one_word_list _ t words)) in
    (refl, λ f holds. subst (λ ts. Holds c.draw_all.new.self (after_triangles16 c.args.self.now c.args.origin ts f)) same (c.draw_all.ensures.drawn f holds))

pub returns-clause-bound : goal.returns-clause-bound
returns-clause-bound g c =
    λ b.
    let same : c.in_ok-triangles.triangles ≡ b.triangles = ok_same _ _ (c.in_ok-triangles.ensures.read b.triangles b.in_range (c.words.ensures.value ∙ b.spells)) in
    subst (λ ts. c.draw_all.new.steps ≤ c.args.steps.now + 4 * covered16 c.args.self.now c.args.origin ts) same c.draw_all.ensures.bound
