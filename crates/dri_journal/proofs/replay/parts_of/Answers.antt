use Rattle.std.proofs.Common.{◌≡◌, ◌∙◌, ◌++◌, [], ◌∷◌, Some, sym, ap, refl, subst, length, rules, ℕ, ◌+◌}
use Rattle.std.specs.Prelude.{List, slice_get}
use Rattle.std.proofs.lemmas.List.{length_push}
use Rattle.std.proofs.lemmas.Option.{slice_get_read}
use Rattle.dri_base.specs.declared.scene.ClientScript.{ClientScript}
use Rattle.dri_client.specs.Parts.{PartState}
use Rattle.dri_journal.proofs.Beginning.{Begins, one_more}
use Rattle.dri_journal.proofs.replay.parts_of.Goals as goal

pub loop-script-preserved : goal.loop-script-preserved
loop-script-preserved c =
    let ps = c.args.scripts.now in let parts = c.loop-script.parts.items in let part = c.in_ok-new.field-0 in let n = c.loop-script.script-index in
    let pushed : c.push.new.self.items ≡ parts ++ part ∷ [] = search rules in
    let there : slice_get ps n ≡ Some c.script-item.result = slice_get_read ps (length ps) n c.script-item.result refl c.loop-script-test.true c.script-item.is in
    record {
      room = ap length pushed ∙ length_push parts part ∙ ap (λ m. m + 1) c.loop-script.invariant.room;
      each = subst (λ (xs : List PartState). (i : ℕ) (p : ClientScript) (x : PartState) → slice_get ps i ≡ Some p → slice_get xs i ≡ Some x → Begins c.args.region_size p x) (sym pushed)
          (one_more c.args.region_size ps parts n c.script-item.result part c.loop-script.invariant.room there c.loop-script.invariant.each (c.in_ok-new.ensures.part, c.in_ok-new.ensures.kept, c.in_ok-new.ensures.size));
    }
