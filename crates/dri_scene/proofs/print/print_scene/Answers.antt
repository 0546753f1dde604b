-- The sections, one after another, and the law of the text that they make.
use Rattle.std.proofs.Common.{◌≡◌, Ok, subst, sym, ◌∙◌, rules}
use Rattle.dri_scene.specs.Readings.{scene_of}
use Rattle.dri_scene.specs.Stored.{IsStored}
use Rattle.dri_scene.proofs.Joins.{from_none, joined, scene_pieces}
use Rattle.dri_scene.proofs.Sections.{reads_back}
use Rattle.dri_scene.proofs.print.print_scene.Goals as goal

pub returns : goal.returns
returns c =
    let scene = c.args.scene.now in
    let all = joined c.in_ok-push_head.ensures.text (joined c.in_ok-push_windows.ensures.text (joined c.in_ok-push_clients.ensures.text (joined c.in_ok-push_server.ensures (joined c.in_ok-push_turns.ensures c.in_ok-push_bytes.ensures)))) in
    let text = c.from_vec.ensures ∙ from_none all (search rules) ∙ scene_pieces scene in
    let stored : IsStored scene = record { root = c.in_ok-push_head.ensures.stored; windows = c.in_ok-push_windows.ensures.stored; clients = c.in_ok-push_clients.ensures.stored } in
    record { text = text; read = subst (λ bytes. scene_of bytes ≡ Ok scene) (sym text) (reads_back scene c.requires stored) }
