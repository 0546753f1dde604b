-- The scene that is made: its lists grow by one, and each of its parts is in range.
use Rattle.std.proofs.Common.{◌≡◌, ◌≢◌, ◌<◌, ◌≤◌, ℕ, zero, suc, ◌+◌, ◌-◌, ◌*◌, ◌%◌, List, [], ◌∷◌, ◌++◌, map, length, Some, ℤ, pos, refl, sym, ap, ◌∙◌, subst, eq-eqb, append_assoc, arith}
use Rattle.std.specs.List.{All, AllPairs, Contains, range_with_len, flat_map}
use Rattle.std.specs.Prelude.{Bool, true, false, ◌==◌, if◌then◌else◌}
use Rattle.std.proofs.lemmas.Int.{ints}
use Rattle.std.proofs.lemmas.Bool.{ne_eqb}
use Rattle.std.proofs.lemmas.List.{append-nil}
use Rattle.std.proofs.lemmas.List.Sums.{sum_by-cons}
use Rattle.std.proofs.lemmas.List.Elements.{All-append, All-map, All-from_get_or, All-from_recursion}
use Rattle.std.proofs.lemmas.List.FromFn.{length-range_with_len, get_or-range_with_len, map-range_with_len_more}
use Rattle.std.proofs.lemmas.List.Kept.{AllPairs-cons}
use Rattle.std.proofs.lemmas.Option.{get_or_from_slice_get}
use Rattle.std.proofs.Math.Nat.{mod-lt}
use Rattle.dri_base.specs.declared.command.Change.TheVariants as Change_is
use Rattle.dri_base.specs.declared.command.Change.{Change}
use Rattle.dri_base.specs.declared.command.Command.{Command}
use Rattle.dri_base.specs.declared.command.Command.TheVariants as Command_is
use Rattle.dri_base.specs.declared.command.Item.{Item}
use Rattle.dri_base.specs.declared.scene.ClientScript.{ClientScript}
use Rattle.dri_base.specs.declared.scene.Window.{Window}
use Rattle.dri_base.specs.Ranges.{InRange, IsWithin, ChangeInRange, ChangesInRange, ClientInRange, ClientsInRange, CommandInRange, DiesLast, TextureInRange, TexturesInRange, WindowInRange, WindowsInRange, TriangleInRange, command_count, owner_of, window_numbers}
use Rattle.dri_base.proofs.PlaneLists.{length-first_pixels}
use Rattle.dri_scene.specs.Generator.{change, change_of, changed_window, client, frame_commands, first_settings, far_triangle, from_one, generator, grey, near_triangle, script_commands, texture, window}

-- one more thing that is made
pub one_more : {A : Type 0} (f : ℕ → A) (k : ℕ) (old new : List A) (x : A) → old ≡ map f (range_with_len 1 k) → x ≡ f (k + 1) → new ≡ old ++ x ∷ [] → new ≡ map f (range_with_len 1 (k + 1))
one_more f k old new x so_far here pushed = rw (pushed, so_far, here) (sym (map-range_with_len_more f 1 k (k + 1) (omega arith)))

-- and one more list of them
last_list : {A : Type 0} (f : ℕ → List A) (a n j : ℕ) → a + n ≡ j → flat_map f (range_with_len a (suc n)) ≡ flat_map f (range_with_len a n) ++ f j
last_list f a zero j at = let same : a ≡ j = omega (arith, at) in append-nil (f a) ∙ ap f same
last_list f a (suc n) j at = ap (λ more. f a ++ more) (last_list f (a + 1) n j (omega (arith, at))) ∙ sym (append_assoc (f a) (flat_map f (range_with_len (a + 1) n)) (f j))

pub one_more_list : {A : Type 0} (f : ℕ → List A) (k : ℕ) (first old new : List A) → old ≡ first ++ flat_map f (range_with_len 1 k) → new ≡ old ++ f (k + 1) → new ≡ first ++ flat_map f (range_with_len 1 (k + 1))
one_more_list f k first old new so_far added =
    let on : k + 1 ≡ suc k = omega arith in
    let more : flat_map f (range_with_len 1 (k + 1)) ≡ flat_map f (range_with_len 1 k) ++ f (k + 1) = ap (λ n. flat_map f (range_with_len 1 n)) on ∙ last_list f 1 k (k + 1) (omega arith) in
    rw (added, so_far, more) (append_assoc first (flat_map f (range_with_len 1 k)) (f (k + 1)))

-- what holds from a on holds of each number of the list
all_counted : (P : ℕ → Type 0) (a n : ℕ) → ((k : ℕ) → a ≤ k → k < a + n → P k) → All P (range_with_len a n)
all_counted P a n each =
    All-from_get_or P (range_with_len a n) 0 (λ i below.
    let within : i < n = subst (λ m. i < m) (length-range_with_len a n) below in
    subst P (sym (get_or-range_with_len a n i 0 within)) (each (a + i) (omega arith) (omega (arith, within))))

-- and of each thing that is made of one
all_made : {A : Type 0} (P : A → Type 0) (f : ℕ → A) (n : ℕ) → ((k : ℕ) → IsWithin 1 n k → P (f k)) → All P (map f (from_one n))
all_made P f n each = All-map P f (from_one n) (all_counted (λ k. P (f k)) 1 n (λ k low high. each k (low, omega (arith, high))))

-- the numbers of the list rise
rising : (R : ℕ → ℕ → Type 0) (a n : ℕ) → ((i j : ℕ) → i < j → R i j) → AllPairs R (range_with_len a n)
rising R a zero apart = λ i j d up below. absurd (omega (arith, below))
rising R a (suc n) apart = AllPairs-cons R a (range_with_len (a + 1) n) (all_counted (R a) (a + 1) n (λ k low _. apart a k (omega (arith, low)))) (rising R (a + 1) n apart)

-- things that keep the number that they are made of
numbers_kept : {A : Type 0} (f : ℕ → A) (g : A → ℕ) (a n : ℕ) → ((k : ℕ) → g (f k) ≡ k) → map g (map f (range_with_len a n)) ≡ range_with_len a n
numbers_kept f g a zero same = refl
numbers_kept f g a (suc n) same = rw (same a, numbers_kept f g (a + 1) n same) refl

-- a list of lists
all_flat : {A : Type 0} (P : A → Type 0) (f : ℕ → List A) (a n : ℕ) → ((k : ℕ) → a ≤ k → k < a + n → All P (f k)) → All P (flat_map f (range_with_len a n))
all_flat P f a zero each = λ i d below. absurd (omega (arith, below))
all_flat P f a (suc n) each = All-append P (f a) (flat_map f (range_with_len (a + 1) n)) (each a (omega arith) (omega arith)) (all_flat P f (a + 1) n (λ k low high. each k (omega (arith, low)) (omega (arith, high))))

-- window c has owner c
owned_from : (a k n c : ℕ) → a + k ≡ c → k < n → owner_of (map window (range_with_len a n)) c ≡ Some c
owned_from a k zero c at below = absurd (omega (arith, below))
owned_from a zero (suc n) c at below = rw (eq-eqb a c (omega (arith, at))) (ap Some (omega (arith, at)))
owned_from a (suc k) (suc n) c at below = rw (ne_eqb a c (λ e. omega (arith, e, at))) (owned_from (a + 1) k n c (omega (arith, at)) (omega (arith, below)))

counted_from : (a k n c : ℕ) → a + k ≡ c → k < n → Contains (range_with_len a n) c
counted_from a k n c at below = (k, subst (λ m. k < m) (sym (length-range_with_len a n)) below, get_or-range_with_len a n k c below ∙ at)

is_counted : (n c : ℕ) → IsWithin 1 n c → Contains (from_one n) c
is_counted n c within = counted_from 1 (c - 1) n c (omega (arith, within)) (omega (arith, within))

-- each window
window_ranged : (w : ℕ) → IsWithin 1 32 w → WindowInRange (window w)
window_ranged w within = record {
  numbered = omega (arith, within);
  left = (omega (arith, ints), omega (arith, ints, mod-lt (61 * w) {m = 320} (omega arith)));
  top = (omega (arith, ints), omega (arith, ints, mod-lt (43 * w) {m = 200} (omega arith)));
  wide = omega arith;
  high = omega arith;
  owned = omega (arith, within);
}

windows_ranged : (n : ℕ) → IsWithin 1 32 n → WindowsInRange (map window (from_one n))
windows_ranged n few = record {
  each = all_made WindowInRange window n (λ w within. window_ranged w (omega (arith, within, few)));
  apart = subst (AllPairs ◌≢◌) (sym (numbers_kept window (λ w. w.number) 1 n (λ k. refl))) (rising ◌≢◌ 1 n (λ i j up e. omega (arith, up, e)));
}

-- each texture
texture_ranged : (c t : ℕ) → IsWithin 1 3 t → TextureInRange 65536 (texture c t)
texture_ranged c t within = record {
  numbered = omega (arith, within);
  wide = omega arith;
  high = omega arith;
  whole = length-first_pixels 64 (grey c t) 4096;
  fits = subst (λ m. m ≤ 65536) (sym (length-first_pixels 64 (grey c t) 4096)) (omega arith);
}

textures_ranged : (c : ℕ) → TexturesInRange 65536 (map (texture c) (from_one 3))
textures_ranged c = record {
  each = all_made (TextureInRange 65536) (texture c) 3 (texture_ranged c);
  rising = subst (AllPairs ◌<◌) (sym (numbers_kept (texture c) (λ t. t.number) 1 3 (λ k. refl))) (rising ◌<◌ 1 3 (λ i j up. up));
}

-- each command
named_texture : (f : ℕ) → IsWithin 1 3 ((f - 1) % 3 + 1)
named_texture f = omega (arith, mod-lt (f - 1) {m = 3} (omega arith))

near_ranged : (f : ℕ) → IsWithin 1 20 f → TriangleInRange (near_triangle f)
near_ranged f within = ((omega (arith, ints), omega (arith, ints, within)), (omega (arith, ints), omega (arith, ints)), (omega (arith, ints), omega (arith, ints)))

far_ranged : TriangleInRange far_triangle
far_ranged = ((omega (arith, ints), omega (arith, ints)), (omega (arith, ints), omega (arith, ints)), (omega (arith, ints), omega (arith, ints)))

frame_ranged : (c f : ℕ) → IsWithin 1 20 f → All (CommandInRange (from_one 3)) (frame_commands c f)
frame_ranged c f within = All-from_recursion (CommandInRange (from_one 3)) (frame_commands c f) (tt, (is_counted 3 ((f - 1) % 3 + 1) (named_texture f), (far_ranged, (near_ranged f within, (tt, tt)))))

commands_each : (c : ℕ) → All (CommandInRange (from_one 3)) (script_commands c)
commands_each c = All-append (CommandInRange (from_one 3)) first_settings (flat_map (frame_commands c) (from_one 20)) (All-from_recursion (CommandInRange (from_one 3)) first_settings (tt, (tt, (tt, tt))))
    (all_flat (CommandInRange (from_one 3)) (frame_commands c) 1 20 (λ f low high. frame_ranged c f (low, omega (arith, high))))

none_dies : (c : ℕ) → All (λ command. command ≢ Command_is.Die) (script_commands c)
none_dies c = All-append (λ command. command ≢ Command_is.Die) first_settings (flat_map (frame_commands c) (from_one 20)) (All-from_recursion (λ command. command ≢ Command_is.Die) first_settings ((λ e. absurd (cc)), ((λ e. absurd (cc)), ((λ e. absurd (cc)), tt))))
    (all_flat (λ command. command ≢ Command_is.Die) (frame_commands c) 1 20 (λ f low high. All-from_recursion (λ command. command ≢ Command_is.Die) (frame_commands c f) ((λ e. absurd (cc)), ((λ e. absurd (cc)), ((λ e. absurd (cc)), ((λ e. absurd (cc)), ((λ e. absurd (cc)), tt)))))))

dies_last : (commands : List Command) → All (λ command. command ≢ Command_is.Die) commands → DiesLast commands
dies_last commands none k before die = none k Command_is.Die (omega (arith, before)) (get_or_from_slice_get commands k Command_is.Die Command_is.Die die)

-- each client
client_ranged : (n c : ℕ) → IsWithin 1 32 n → IsWithin 1 n c → ClientInRange (map window (from_one n)) 65536 (client c)
client_ranged n c few within = record {
  numbered = omega (arith, few, within);
  owns = owned_from 1 (c - 1) n c (omega (arith, within)) (omega (arith, within));
  textured = textures_ranged c;
  commanded = record { each = subst (λ numbers. All (CommandInRange numbers) (script_commands c)) (sym (numbers_kept (texture c) (λ t. t.number) 1 3 (λ k. refl))) (commands_each c); last = dies_last (script_commands c) (none_dies c) };
}

clients_ranged : (n : ℕ) → IsWithin 1 32 n → ClientsInRange (map window (from_one n)) 65536 (map client (from_one n))
clients_ranged n few = record {
  each = all_made (ClientInRange (map window (from_one n)) 65536) client n (λ c within. client_ranged n c few within);
  rising = subst (AllPairs ◌<◌) (sym (numbers_kept client (λ c. c.number) 1 n (λ k. refl))) (rising ◌<◌ 1 n (λ i j up. up));
}

-- a client has 103 commands
commands_counted : (a n : ℕ) → command_count (map client (range_with_len a n)) ≡ n * 103
commands_counted a zero = refl
commands_counted a (suc n) =
    let more : command_count (map client (range_with_len a (suc n))) ≡ 103 + command_count (map client (range_with_len (a + 1) n)) = sum_by-cons (λ c. length c.commands) (client a) (map client (range_with_len (a + 1) n)) in
    omega (arith, more, commands_counted (a + 1) n)

-- each change
window_changed : (n i : ℕ) → 0 < n → Contains (from_one n) (changed_window n i)
window_changed n i some = is_counted n (changed_window n i) (omega arith, omega (arith, mod-lt (i - 1) some))

change_of_ranged : (windows : List ℕ) (w i : ℕ) → Contains windows w → IsWithin 1 40 i → ChangeInRange windows (change_of w i)
change_of_ranged windows w i there within = by_turn (i % 4 == 1) (i % 4 == 2) (i % 4 == 3)
  where
    x : ℤ
    x = pos (53 * i % 320)

    y : ℤ
    y = pos (29 * i % 200)

    by_turn : (first second third : Bool) → ChangeInRange windows (if first then Change_is.Raise w else (if second then Change_is.Move w x y else (if third then Change_is.Lower w else Change_is.Resize w (200 + i) (150 + i))))
    by_turn true second third = there
    by_turn false true third = (there, (omega (arith, ints), omega (arith, ints, mod-lt (53 * i) {m = 320} (omega arith))), (omega (arith, ints), omega (arith, ints, mod-lt (29 * i) {m = 200} (omega arith))))
    by_turn false false true = there
    by_turn false false false = (there, omega (arith, within), omega (arith, within))

changes_ranged : (n : ℕ) → IsWithin 1 32 n → ChangesInRange (window_numbers (map window (from_one n))) (map (change n) (from_one 40))
changes_ranged n few = record {
  few = omega arith;
  each = subst (λ numbers. All (ChangeInRange numbers) (map (change n) (from_one 40))) (sym (numbers_kept window (λ w. w.number) 1 n (λ k. refl)))
      (all_made (ChangeInRange (from_one n)) (change n) 40 (λ i within. change_of_ranged (from_one n) (changed_window n i) i (window_changed n i (omega (arith, few))) within));
}

pub generator_in_range : (n : ℕ) → IsWithin 1 32 n → InRange (generator n)
unfolding generator
generator_in_range n few = record {
  card = record { wide = omega arith; high = omega arith; regions = omega arith; sized = (12, (omega arith, omega arith), refl) };
  windowed = windows_ranged n few;
  scripted = clients_ranged n few;
  few = subst (λ m. m ≤ 100000) (sym (commands_counted 1 n)) (omega (arith, few));
  changed = changes_ranged n few;
  scheduled = record { few = omega arith; each = λ k d below. absurd (omega (arith, below)); once = λ i j d up below. absurd (omega (arith, below)) };
}

-- the scene of these parts
pub of_parts : (n : ℕ) (ws : List Window) (cs : List ClientScript) (changes : List Change) (turns : List Item) → ws ≡ map window (from_one n) → cs ≡ map client (from_one n) → changes ≡ map (change n) (from_one 40) → turns ≡ []
    → record { width = 640; height = 480; root = record { r = 32; g = 48; b = 64 }; regions = 16; region_size = 4096; windows = ws; clients = cs; changes = changes; turns = turns } ≡ generator n
unfolding generator
of_parts n ws cs changes turns windows_are clients_are changes_are no_turns = rw (windows_are, clients_are, changes_are, no_turns) refl
