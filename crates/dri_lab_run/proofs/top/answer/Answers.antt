-- The words are of one form.
use Rattle.std.proofs.Common.{◌≡◌, ◌⊎◌, sym, subst, ◌∙◌}
use Rattle.std.proofs.lemmas.Option.{same_Some}
use Rattle.dri_run.specs.declared.status.Status.TheVariants as answers
use Rattle.dri_lab_run.specs.Answering.{IsAnswerTo, TakesAllOf}
use Rattle.dri_lab_run.specs.declared.form.Form.{Form}
use Rattle.dri_lab_run.specs.declared.form.Form.TheVariants.{Recorded, Events, All}
use Rattle.dri_lab_run.specs.declared.status.LabStatus.TheVariants as lab
use Rattle.dri_lab_run.proofs.top.answer.Goals as goal

pub returns-in-Some-Recorded-clause-taken : goal.returns-in-Some-Recorded-clause-taken
returns-in-Some-Recorded-clause-taken g c = λ form bytes asked left sure taken.
    let found = c.in-Some-Recorded in
    let same : Recorded found.look ≡ form = sym found.field-0-is ∙ same_Some found.field-0 form (sym found.is ∙ c.form_of.ensures ∙ asked) in
    let takes = subst (λ (f : Form). TakesAllOf f bytes (g.P.Sink.takes c.args.picture.now) (g.N.Sink.takes c.args.notes.now)) (sym same) taken in
    subst (λ (f : Form). IsAnswerTo f c.obey.result bytes ⊎ (c.obey.result ≡ lab.Common answers.OutOfMemory)) same (c.obey.ensures.taken bytes left sure takes)

pub returns-in-Some-Events-clause-taken : goal.returns-in-Some-Events-clause-taken
returns-in-Some-Events-clause-taken g c = λ form bytes asked left sure taken.
    let found = c.in-Some-Events in
    let obeyed = c.obey-in-Some-Events in
    let same : Events ≡ form = sym found.field-0-is ∙ same_Some found.field-0 form (sym found.is ∙ c.form_of.ensures ∙ asked) in
    let takes = subst (λ (f : Form). TakesAllOf f bytes (g.P.Sink.takes c.args.picture.now) (g.N.Sink.takes c.args.notes.now)) (sym same) taken in
    subst (λ (f : Form). IsAnswerTo f obeyed.result bytes ⊎ (obeyed.result ≡ lab.Common answers.OutOfMemory)) same (obeyed.ensures.taken bytes left sure takes)

pub returns-in-Some-All-clause-taken : goal.returns-in-Some-All-clause-taken
returns-in-Some-All-clause-taken g c = λ form bytes asked left sure taken.
    let found = c.in-Some-All in
    let obeyed = c.obey-in-Some-All in
    let same : All found.events ≡ form = sym found.field-0-is ∙ same_Some found.field-0 form (sym found.is ∙ c.form_of.ensures ∙ asked) in
    let takes = subst (λ (f : Form). TakesAllOf f bytes (g.P.Sink.takes c.args.picture.now) (g.N.Sink.takes c.args.notes.now)) (sym same) taken in
    subst (λ (f : Form). IsAnswerTo f obeyed.result bytes ⊎ (obeyed.result ≡ lab.Common answers.OutOfMemory)) same (obeyed.ensures.taken bytes left sure takes)
