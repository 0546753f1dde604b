use Rattle.std.proofs.Common.{rules, arith, refl, sym, ap, ◌∙◌, ◌≡◌, ◌<◌, ◌+◌, length, subst}
use Rattle.std.specs.Prelude.{Contains, IfErr, IfOk, Ok, true, false}
use Rattle.dri_base.specs.Ranges.{client_numbers}
use Rattle.dri_base.specs.declared.journal.Entry.{Entry}
use Rattle.dri_base.specs.declared.scene.Scene.{Scene}
use Rattle.dri_hwlock.specs.Tokens.{Token, IsSuccessor, AreNew, id_of, new_token, pass_token, passes_in}
use Rattle.dri_core.specs.Phases.{is_done}
use Rattle.dri_core.specs.Runs.{after}
use Rattle.dri_threads.specs.Actors.{IsNumber, Stands}
use Rattle.dri_threads.specs.Rounds.{AreBelow, AreServed}
use Rattle.dri_threads.proofs.Rounds.{new_last, number_within, stands_opened, served_back, served_none, weaker}
use Rattle.dri_threads.specs.declared.actor.Short.{Short}
use Rattle.dri_threads.proofs.run.+fn-run_beside-join+arg3+run_beside.Goals as goal

pub run_server-requires-clause-own : goal.run_server-requires-clause-own
run_server-requires-clause-own g n c = ap (λ (t : Token Scene Entry). t.lock) (new_last _ _ _ _ _ c.in-Some.ensures.last c.requires.new).0

pub run_server-requires-clause-base : goal.run_server-requires-clause-base
run_server-requires-clause-base g n c = ap (λ (t : Token Scene Entry). t.base) (new_last _ _ _ _ _ c.in-Some.ensures.last c.requires.new).0

pub run_server-requires-clause-context : goal.run_server-requires-clause-context
run_server-requires-clause-context g n c =
    let z : length (passes_in c.pop.new.self) ≡ 0 = search rules in
    ap (λ (t : Token Scene Entry). t.context) (new_last _ _ _ _ _ c.in-Some.ensures.last c.requires.new).0 ∙ ap (λ n. n + 1) z

pub run_server-requires-clause-none : goal.run_server-requires-clause-none
run_server-requires-clause-none g n c = ap (λ (t : Token Scene Entry). (after c.args.stage.now.scene.now t.seen).made) (new_last _ _ _ _ _ c.in-Some.ensures.last c.requires.new).0

pub run_beside-requires-clause-new : goal.run_beside-requires-clause-new
run_beside-requires-clause-new g n c =
    let fresh : AreNew (id_of c.args.stage.now.hw.now) c.args.stage.now.scene.now 1 (passes_in c.pop.new.self) = (new_last _ _ _ _ _ c.in-Some.ensures.last c.requires.new).1 in
    search rules

pub join-returned-requires-after_bounds : goal.join-returned-requires-after_bounds
join-returned-requires-after_bounds g n c κs b =
    let l = new_last _ _ _ _ _ c.in-Some.ensures.last c.requires.new in
    let k = c.in-Some-last_client.ensures.some in
    let own : (pass_token c.in-Some.pass).lock ≡ id_of c.args.stage.now.hw.now = ap (λ (t : Token Scene Entry). t.lock) l.0 in
    let number : c.len-number.result ≡ length (passes_in c.pop.new.self) = c.len-number.ensures.count in
    let stands : Stands (pass_token c.in-Some.pass) c.in-Some-last_client.client c.len-number.result = stands_opened c.args.stage.now.scene.now _ _ _ _ k.1 (subst (λ m. pass_token c.in-Some.pass ≡ new_token (id_of c.args.stage.now.hw.now) c.args.stage.now.scene.now (m + 1)) (sym number) l.0) k.2 in
    let fresh : AreNew (id_of c.args.stage.now.hw.now) c.args.stage.now.scene.now 1 (passes_in c.pop.new.self) = l.1 in
    let numbered : IsNumber c.len-number.result = number_within _ _ c.requires.in_range k.2 in
    let below : AreBelow c.args.stage.now.scene.now (length (passes_in c.pop.new.self)) c.last_client.new.clients = subst (λ m. AreBelow c.args.stage.now.scene.now m c.last_client.new.clients) number k.0 in
    let shorter : length (passes_in c.args.passes) ≡ length (passes_in c.pop.new.self) + 1 = l.2 in
    search rules

pub returns-then-number-eq0 : goal.returns-then-number-eq0
returns-then-number-eq0 g n c =
    let z : length (passes_in c.pop.new.self) ≡ 0 = search rules in
    let s = c.args.stage.now.scene.now in let r = c.run_server.result in let server = c.run_server.ensures in
    let made : IfOk r (λ q. length (passes_in c.pop.new.self) ≡ 0 → (after s (pass_token q).seen).made ≡ length s.changes) = weaker r server.made (λ q is _. is) in
    let done : IfOk r (λ q. 0 < length (passes_in c.pop.new.self) → Contains (client_numbers s.clients) (length (passes_in c.pop.new.self)) → is_done ((after s (pass_token q).seen).client (length (passes_in c.pop.new.self))).phase ≡ true) =
    weaker r server.made (λ q is more. absurd (omega (arith, more, z))) in
    record { served = served_back (λ (e : Short). e.pass) _ _ _ _ _ c.in-Some.ensures.last c.requires.new r false _ _ _ server.next made done server.short (served_none _ _ _ z) c.with.ensures.ok c.with.ensures.err }

pub returns-in_default-last_client : goal.returns-in_default-last_client
returns-in_default-last_client g n c =
    let number : c.len-number.result ≡ length (passes_in c.pop.new.self) = c.len-number.ensures.count in
    let more : 0 < length (passes_in c.pop.new.self) = search rules in
    let nobody = λ (has : Contains (client_numbers c.args.stage.now.scene.now.clients) (length (passes_in c.pop.new.self))). c.in_default-last_client.ensures.none.1 (subst (Contains (client_numbers c.args.stage.now.scene.now.clients)) (sym number) has) in
    record { served = served_back (λ (e : Short). e.pass) _ _ _ _ _ c.in-Some.ensures.last c.requires.new (Ok c.in-Some.pass) _ _ _ _ (record { lock = refl; context = refl; base = refl }) (λ z. absurd (omega (arith, more, z))) (λ _ has. absurd (nobody has)) tt c.run_beside.ensures.served c.with-in_default-last_client.ensures.ok tt }

pub with-requires-2 : goal.with-requires-2
with-requires-2 g n c =
    let s = c.args.stage.now.scene.now in let f = c.join-returned.result.1 in
    let served : AreServed s (id_of c.args.stage.now.hw.now) (length (passes_in c.pop.new.self)) f.short (passes_in f.passes) = c.join-returned.ensures.second in
    record { room = omega (arith, served.count, (new_last _ _ _ _ _ c.in-Some.ensures.last c.requires.new).2, c.args.passes.few) }

pub returns : goal.returns
returns g n c =
    let r = c.join-returned.result.0 in let f = c.join-returned.result.1 in let s = c.args.stage.now.scene.now in
    let number : c.len-number.result ≡ length (passes_in c.pop.new.self) = c.len-number.ensures.count in
    let more : 0 < length (passes_in c.pop.new.self) = search rules in
    let next : IfOk r (λ q. IsSuccessor (pass_token c.in-Some.pass) (pass_token q)) = c.join-returned.ensures.first.0 in
    let ended : IfOk r (λ q. is_done ((after c.in-Some-last_client.client.scene (pass_token q).seen).client c.len-number.result).phase ≡ true) = c.join-returned.ensures.first.1 in
    let gave : IfErr r (λ e. IsSuccessor (pass_token c.in-Some.pass) (pass_token e.pass)) = c.join-returned.ensures.first.2 in
    let served : AreServed s (id_of c.args.stage.now.hw.now) (length (passes_in c.pop.new.self)) f.short (passes_in f.passes) = c.join-returned.ensures.second in
    let same = c.in-Some-last_client.ensures.some.1.scene in
    let made : IfOk r (λ q. length (passes_in c.pop.new.self) ≡ 0 → (after s (pass_token q).seen).made ≡ length s.changes) = weaker r next (λ q _ z. absurd (omega (arith, more, z))) in
    let done : IfOk r (λ q. 0 < length (passes_in c.pop.new.self) → Contains (client_numbers s.clients) (length (passes_in c.pop.new.self)) → is_done ((after s (pass_token q).seen).client (length (passes_in c.pop.new.self))).phase ≡ true) =
    weaker r ended (λ q d _ _. (λ i. is_done ((after (sym same i) (pass_token q).seen).client (sym number i)).phase) ∙ d) in
    record { served = served_back (λ (e : Short). e.pass) _ _ _ _ _ c.in-Some.ensures.last c.requires.new r _ _ _ _ next made done gave served c.with-2.ensures.ok c.with-2.ensures.err }

pub join+arg3-run_beside-requires-clause-new : goal.join+arg3-run_beside-requires-clause-new
join+arg3-run_beside-requires-clause-new g n c κs b = rw (c.new-stage.ensures.hw, c.new-stage.ensures.scene) c.requires.2
