-- Whose entry it is: its client has a script, a number, a window on the stack and a place in the list of parts.
use Rattle.std.proofs.Common.{◌≡◌, ◌≢◌, ◌≤◌, ◌∙◌, ℕ, suc, List, [], ◌∷◌, Bool, true, false, Option, Some, None, refl, sym, ap, subst, arith, inl, inr, Contains}
use Rattle.std.specs.Prelude.{◌⊎◌, ◌==◌, ◌↔◌, IfSome, IsSome, slice_get}
use Rattle.std.proofs.lemmas.Bool.{true≢false}
use Rattle.std.proofs.lemmas.Bool.Decides.{eqb_tells}
use Rattle.std.proofs.lemmas.Option.{get_or_from_slice_get, slice_get_within}
use Rattle.dri_base.specs.Ranges.{ClientInRange, InRange, client_numbers, heap_bytes, window_numbers}
use Rattle.dri_base.specs.Scenes.{commands_of, script_in, script_of, window_of}
use Rattle.dri_base.specs.declared.journal.Entry.{Entry}
use Rattle.dri_base.specs.declared.journal.Entry.TheVariants as Entry_is
use Rattle.dri_base.specs.declared.scene.ClientScript.{ClientScript}
use Rattle.dri_base.specs.declared.scene.Scene.{Scene}
use Rattle.dri_base.proofs.RangeLemmas.{number_of_script, owns_window, well_formed}
use Rattle.dri_core.specs.EntryTable.{LegalEntry}
use Rattle.dri_core.specs.Phases.{Ask, Asking, Ended, In, Old, Out, Over, Phase, is_done}
use Rattle.dri_core.specs.Runs.{HoldRun, after, client_of}
use Rattle.dri_journal.specs.Acts.{is_quiet}
use Rattle.dri_core.proofs.Lively.{Lively, lively_after, not_empty}
use Rattle.dri_core.proofs.Windows.{has_after, has_contains, has_owned}

-- an entry of a client, not of the server
abbrev pub is_clients : Entry → Bool
is_clients (Entry_is.Change i) = false
is_clients _ = true

has_script : (ps : List ClientScript) (c : ℕ) → (script_in ps c).commands ≢ [] → Contains (client_numbers ps) c
has_script [] c some = absurd (some refl)
has_script (p ∷ ps) c some = by_number (eqb_tells p.number c) some (has_script ps c)
  where
    by_number : ((p.number == c) ≡ true) × (p.number ≡ c) ⊎ (((p.number == c) ≡ false) × (p.number ≢ c)) → (script_in (p ∷ ps) c).commands ≢ [] → ((script_in ps c).commands ≢ [] → Contains (client_numbers ps) c) → Contains (client_numbers (p ∷ ps)) c
    by_number (inl same) some rest = (0, omega arith, same.1)
    by_number (inr other) some rest = let there = rest (rw other.0 at some) in (suc there.0, omega (arith, there.1), there.2)

-- a script of a scene in range is in range
pub client_in_range : (s : Scene) (i : ℕ) (p : ClientScript) → InRange s → slice_get s.clients i ≡ Some p → ClientInRange s.windows (heap_bytes s) p
client_in_range s i p good there = subst (ClientInRange s.windows (heap_bytes s)) (get_or_from_slice_get s.clients i p p there) (good.scripted.each i p (slice_get_within s.clients i p there))

module _ (s : Scene) (j : List Entry) (good : InRange s) (run : HoldRun s j) where
  lively : Lively s (after s j)
  lively = lively_after s j (well_formed s good) run

  not_ended : (c : ℕ) (p : Phase) → ((after s j).client c).phase ≡ p → (Ended ≡ p → ⊥) → commands_of s c ≢ []
  not_ended c p is ne = not_empty s (after s j) c p lively is ne

  -- who makes a legal entry has a command
  pub some_commands : (e : Entry) → is_clients e ≡ true → LegalEntry s (after s j) e → commands_of s (client_of e) ≢ []
  some_commands (Entry_is.Light c) is legal = not_ended c Out legal.0 (λ e. cc)
  some_commands (Entry_is.Kernel c found) is legal = not_ended c Out legal.0 (λ e. cc)
  some_commands (Entry_is.Stale c) is legal = not_ended c Old legal (λ e. cc)
  some_commands (Entry_is.Emit c groups) is legal = not_ended c In legal.0.0 (λ e. cc)
  some_commands (Entry_is.Place c t first count) is legal = not_ended c In legal.0.0 (λ e. cc)
  some_commands (Entry_is.Run c i) is legal = not_ended c In legal.0 (λ e. cc)
  some_commands (Entry_is.Leave c) is (inl over) = not_ended c Over over (λ e. cc)
  some_commands (Entry_is.Leave c) is (inr ask) = not_ended c Ask ask (λ e. cc)
  some_commands (Entry_is.Info c) is legal = not_ended c Asking legal.0 (λ e. cc)
  some_commands (Entry_is.Change i) is legal = absurd (true≢false (sym is))
  some_commands (Entry_is.Gone c) is (inl dies) = not_ended c In dies.0 (λ e. cc)
  some_commands (Entry_is.Gone c) is (inr named) = λ none. true≢false (sym (ap is_done (lively.empty c none)) ∙ named.1)

  module _ (c : ℕ) (some : commands_of s c ≢ []) where
    pub has_number : Contains (client_numbers s.clients) c
    has_number = has_script s.clients c some

    pub has_window : Contains (window_numbers (after s j).stack) (window_of s c)
    has_window = has_contains (after s j).stack (window_of s c) (has_after s j (window_of s c) (has_owned s.windows (window_of s c) c (owns_window s c good some)))

  -- the number of a client whose script is found
  pub small_number : (c i : ℕ) → slice_get s.clients i ≡ Some (script_of s c) → c ≤ 32
  small_number c i there = let within = (client_in_range s i (script_of s c) good there).numbered in subst (λ n. n ≤ 32) (number_of_script s.clients c) within.1

-- a script that was found
pub found : (s : Scene) (slices : List ClientScript) (o : Option ℕ) (i n c : ℕ) → o ≡ Some i → slices ≡ s.clients → n ≡ c → IfSome o (λ k. slice_get slices k ≡ Some (script_in slices n)) → slice_get s.clients i ≡ Some (script_of s c)
found s slices o i n c at is number there = λ k. ends k
  where
    at_i : slice_get slices i ≡ Some (script_in slices n)
    at_i = rw at at there

    ends : slice_get s.clients i ≡ Some (script_of s c)
    ends = (λ k. slice_get (sym is k) i) ∙ at_i ∙ (λ k. Some (script_in (is k) (number k)))

-- a quiet entry is a client's, and an entry of a client leaves the windows or is a death
pub quiet_clients : (e : Entry) → is_quiet e ≡ true → is_clients e ≡ true
quiet_clients (Entry_is.Change i) quiet = quiet
quiet_clients _ quiet = refl

-- who is found is there
pub is_there : (s : Scene) (slices : List ClientScript) (o : Option ℕ) (n c : ℕ) → slices ≡ s.clients → n ≡ c → IsSome o ↔ Contains (client_numbers slices) n → Contains (client_numbers s.clients) c → IsSome o
is_there s slices o n c is number iff has = iff.1 (subst (λ (ps : List ClientScript). Contains (client_numbers ps) n) (sym is) (subst (Contains (client_numbers s.clients)) (sym number) has))

pub is_here : (s : Scene) (slices : List ClientScript) (o : Option ℕ) (n c : ℕ) → slices ≡ s.clients → n ≡ c → IsSome o ↔ Contains (client_numbers slices) n → IsSome o → Contains (client_numbers s.clients) c
is_here s slices o n c is number iff some = subst (Contains (client_numbers s.clients)) number (subst (λ (ps : List ClientScript). Contains (client_numbers ps) n) is (iff.0 some))

-- none isn't some
pub no_some : (o : Option ℕ) → o ≡ None → IsSome o → ⊥
no_some None e some = absurd (cc)
no_some (Some x) e some = absurd (cc)

-- an entry that isn't the server's is a client's
pub change_or_clients : (e : Entry) → ((i : ℕ) → e ≡ Entry_is.Change i → ⊥) → is_clients e ≡ true
change_or_clients (Entry_is.Change i) ne = absurd (ne i refl)
change_or_clients _ ne = refl

-- the window that a found script draws on is on the stack
pub draws_on : (s : Scene) (j : List Entry) (c i : ℕ) → InRange s → slice_get s.clients i ≡ Some (script_of s c) → Contains (window_numbers (after s j).stack) (window_of s c)
draws_on s j c i good there = has_contains (after s j).stack (window_of s c) (has_after s j (window_of s c) (has_owned s.windows (window_of s c) (script_of s c).number (client_in_range s i (script_of s c) good there).owns))
