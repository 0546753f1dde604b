-- One more.
use Rattle.std.proofs.Common.{All, ◌∙◌, rules, subst}
use Rattle.std.proofs.lemmas.List.{take_all}
use Rattle.std.proofs.lemmas.List.Elements.{All-more}
use Rattle.std.specs.List.{flat_map}
use Rattle.dri_scene.specs.Stored.{IsStoredClient}
use Rattle.dri_scene.specs.Texts.{Adds, client_lines}
use Rattle.dri_words.specs.Lines.{line_bytes}
use Rattle.dri_scene.proofs.Joins.{next_piece}
use Rattle.dri_scene.proofs.print.push_clients.Goals as goal

pub loop-client-preserved : goal.loop-client-preserved
loop-client-preserved c =
    let xs = c.as_slice-client-items.result.now in
    let i = c.loop-client.client-index in
    (next_piece (λ c. flat_map line_bytes (client_lines c)) xs i _ (search rules) c.loop-client.invariant.0 (subst (λ x. Adds c.loop-client.text.items (flat_map line_bytes (client_lines x)) c.push_client.new.text.items) c.client-item.is c.in_ok-push_client.ensures.text), All-more IsStoredClient xs i _ (search rules) c.loop-client.invariant.1 (subst IsStoredClient c.client-item.is c.in_ok-push_client.ensures.stored))

pub returns-clause-stored : goal.returns-clause-stored
returns-clause-stored c = subst (All IsStoredClient) (take_all c.loop-client.client-index c.as_slice-client-items.result.now (search rules) ∙ search rules) c.loop-client.invariant.1
