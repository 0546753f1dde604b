use Rattle.std.proofs.Common.{◌≡◌, ◌+◌, ◌≤◌, [], Some, vec_len, vec_capacity}
use Rattle.dri_hwlock.specs.Views.{new_view}
use Rattle.dri_hwlock.specs.Tokens.{id_of, opening_value, AreNew}
use Rattle.dri_hwlock.proofs.lock.HwLock.make_passes.Given as goal

abbrev pub invariant-loop-i : goal.invariant-loop-i
invariant-loop-i g l = let id = id_of l.self in let b = g.G.Guarded.base_of (opening_value l.self) in
    (l.first.table_id ≡ id) × (l.first.me ≡ (new_view (Some b) l.self.passes 1 l.i, [])) × (vec_len l.list + 1 ≡ l.i) × (33 ≤ vec_capacity l.list) × AreNew id b 2 l.list.items
