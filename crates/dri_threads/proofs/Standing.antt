-- A client by its token, before a hold and after it.
use Rattle.std.proofs.Common.{◌≡◌, ◌≢◌, ◌⊎◌, ℕ, ◌+◌, ◌<◌, length, true, false, Some, sym, ap, ◌∙◌, subst, arith}
use Rattle.std.proofs.lemmas.Option.{same_Some}
use Rattle.dri_base.specs.declared.journal.Entry.{Entry}
use Rattle.dri_base.specs.declared.scene.Scene.{Scene}
use Rattle.dri_hwlock.specs.Entries.{StartsWith, mine}
use Rattle.dri_hwlock.specs.Tokens.{Token, IsSuccessor, IsAfterLooks, after_look, with_seen}
use Rattle.dri_core.specs.Runs.{after, context_of}
use Rattle.dri_shared.specs.States.{SharedState, world_of}
use Rattle.dri_driver.specs.Clients.{ClientState}
use Rattle.dri_threads.specs.Sessions.{Grows, Works, is_at_rest}
use Rattle.dri_threads.specs.Actors.{Stands, IsFound}
use Rattle.dri_threads.proofs.Found.{stands_again, made_later}

pub released_looks : (t u : Token Scene Entry) → u ≡ after_look t u.last_word → IsAfterLooks t u
released_looks t u e = record {
  kept = e ∙ λ i. record t { looks = (sym (ap (λ (x : Token Scene Entry). x.looks) e)) i; last_word = u.last_word; word_before = (sym (ap (λ (x : Token Scene Entry). x.word_before) e)) i };
  more = (let l : u.looks ≡ t.looks + 1 = ap (λ (x : Token Scene Entry). x.looks) e in omega arith);
}

pub next_of : (t u : Token Scene Entry) → IsAfterLooks t u → IsSuccessor t u
next_of t u p = record { lock = ap (λ (x : Token Scene Entry). x.lock) p.kept; context = ap (λ (x : Token Scene Entry). x.context) p.kept; base = ap (λ (x : Token Scene Entry). x.base) p.kept }

-- the hold that a token got is as it was found
pub hold_found : (x : ℕ) (t u : Token Scene Entry) (v : SharedState) → t.context ≡ x → IsSuccessor t u → u.seen ≡ v.journal → Some v.scene ≡ t.base → IsFound x u v
hold_found x t u v context next seen base = record { context = next.context ∙ context; base = next.base ∙ sym base; seen = seen }

pub stands_left : (t u : Token Scene Entry) (o v w : SharedState) (k l : ClientState) (c : ℕ) → IsFound (c + 1) t o → v ≡ o → IsAfterLooks (with_seen t w.journal) u → Works c v w k l → k.dying ≡ false → is_at_rest l.phase ≡ true → Stands u l c
stands_left t u o v w k l c found same looks works living rests =
    stands_again t u v w k l c (subst (IsFound (c + 1) t) (sym same) found) (let n = next_of (with_seen t w.journal) u looks in record { lock = n.lock; context = n.context; base = n.base }) (ap (λ (x : Token Scene Entry). x.seen) looks.kept) works living rests

pub stands_looked : (t u : Token Scene Entry) (k : ClientState) (c r : ℕ) → u ≡ after_look t r → Stands t k c → Stands u k c
stands_looked t u k c r e st = subst (λ (x : Token Scene Entry). Stands x k c) (sym e) (record { base = st.base; context = st.context; seated = st.seated; living = st.living; rests = st.rests })

pub may_kernel : (c f word context left : ℕ) → f ≡ word → context ≡ c + 1 → (word ≡ 0) ⊎ (word ≡ left) → word ≢ context → ((f ≡ 0) ⊎ (f ≡ left)) × (f ≢ c + 1)
may_kernel c f word context left is of found other = subst (λ n. ((n ≡ 0) ⊎ (n ≡ left)) × (n ≢ c + 1)) (sym is) (found, λ h. other (h ∙ sym of))

-- the number of changes made, as the server's pass knows it
pub made_found : (s : Scene) (t : Token Scene Entry) (v : SharedState) → t.base ≡ Some s → t.context ≡ 1 → Some v.scene ≡ t.base → StartsWith v.journal t.seen → mine context_of t.context v.journal ≡ mine context_of t.context t.seen
    → (v.scene ≡ s) × ((world_of v).made ≡ (after s t.seen).made)
made_found s t v base context found begins own =
    let scene : v.scene ≡ s = same_Some v.scene s (found ∙ base) in
    (scene, (λ i. (after (scene i) v.journal).made) ∙ made_later s t.seen v.journal begins (subst (λ x. mine context_of x v.journal ≡ mine context_of x t.seen) context own))

pub made_again : (s : Scene) (t u : Token Scene Entry) (v w : SharedState) → v.scene ≡ s → (world_of v).made ≡ (after s t.seen).made → Grows 1 v w → (world_of w).made ≡ (world_of v).made + 1 → u.seen ≡ w.journal → (after s u.seen).made ≡ (after s t.seen).made + 1
made_again s t u v w scene made grows more seen = (λ i. (after (sym (grows.scene ∙ scene) i) (seen i)).made) ∙ (more ∙ ap (λ n. n + 1) made)

pub next_again : (t u v : Token Scene Entry) → IsSuccessor t u → IsSuccessor u v → IsSuccessor t v
next_again t u v a b = record { lock = b.lock ∙ a.lock; context = b.context ∙ a.context; base = b.base ∙ a.base }

pub left_found : (s : Scene) (t : Token Scene Entry) (v o : SharedState) → v ≡ o → (o.scene ≡ s) × ((world_of o).made ≡ (after s t.seen).made) → (after s t.seen).made < length s.changes → (world_of v).made < length v.scene.changes
left_found s t v o same m left =
    let a : (world_of v).made ≡ (after s t.seen).made = ap (λ (x : SharedState). (world_of x).made) same ∙ m.1 in
    let b : length v.scene.changes ≡ length s.changes = ap (λ (x : SharedState). length x.scene.changes) same ∙ ap (λ (x : Scene). length x.changes) m.0 in
    omega arith
