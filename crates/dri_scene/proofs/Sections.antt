-- Section by section, the printed lines lead to the scene.
use Rattle.std.proofs.Common.{◌≡◌, ◌≢◌, ℕ, zero, suc, ◌+◌, ◌/◌, ◌<◌, ◌≤◌, Bool, true, false, ◌||◌, ◌==◌, List, [], ◌∷◌, ◌++◌, map, length, get_or, Option, Some, None, Ok, ℤ, pos, refl, sym, ap, ◌∙◌, subst, codes, append_assoc, inl, inr, eq-eqb, arith}
use Rattle.std.specs.List.{All, AllPairs, Contains, list_all, list_any, flat_map}
use Rattle.std.specs.Fmt.{decimal, signed_decimal}
use Rattle.std.proofs.Math.Nat.{mul-div_cancel_left}
use Rattle.std.proofs.lemmas.Bool.{lt-leb, le-ltb, ne_eqb, false≢true}
use Rattle.std.proofs.lemmas.List.{append-nil, map-append, length-append}
use Rattle.std.proofs.lemmas.Bool.Decides.{eqb_tells}
use Rattle.std.proofs.lemmas.List.Elements.{All-head, All-tail, filter_map-append}
use Rattle.dri_base.specs.declared.command.Change.{Change}
use Rattle.dri_base.specs.declared.command.Command.{Command}
use Rattle.dri_base.specs.declared.command.Command.TheVariants as Command_is
use Rattle.dri_base.specs.declared.command.Item.{Item}
use Rattle.dri_base.specs.declared.command.Item.TheVariants as Item_is
use Rattle.dri_base.specs.declared.scene.ClientScript.{ClientScript}
use Rattle.dri_base.specs.declared.scene.Scene.{Scene}
use Rattle.dri_base.specs.declared.scene.Window.{Window}
use Rattle.dri_base.specs.declared.texture.TexFormat.{TexFormat}
use Rattle.dri_base.specs.declared.texture.TexFormat.TheVariants as Format_is
use Rattle.dri_base.specs.declared.texture.Texture.{Texture}
use Rattle.dri_base.specs.Ranges.{InRange, IsWithin, IsPlace, WindowInRange, window_numbers, TextureInRange, texture_numbers, heap_bytes, VertexInRange, IsVertexPlace, CommandInRange, DiesLast, ClientInRange, client_numbers, command_count, owner_of, ChangeInRange, ItemInRange, victim, victims}
use Rattle.std.proofs.lemmas.List.Sums.{sum_by-cons}
use Rattle.dri_base.proofs.NumberMarks.{twice}
use Rattle.dri_base.proofs.RangeLemmas.{owned_window}
use Rattle.dri_scene.specs.declared.form.Form.TheVariants as forms
use Rattle.dri_scene.specs.declared.line.Line.TheVariants as lines
use Rattle.dri_scene.specs.declared.place.Place.{Place}
use Rattle.dri_scene.specs.declared.place.Place.TheVariants as places
use Rattle.dri_scene.specs.declared.reading.Reading.{Reading}
use Rattle.dri_scene.specs.Places.{place_after, place_in_script, place_behind_clients, is_in_client}
use Rattle.dri_base.specs.declared.state.Setting.{Setting}
use Rattle.dri_base.specs.declared.state.Setting.TheVariants as Setting_is
use Rattle.dri_base.specs.declared.shape.Vertex.{Vertex}
use Rattle.dri_base.specs.declared.command.Change.TheVariants as Change_is
use Rattle.dri_base.specs.declared.state.Shade.{Shade}
use Rattle.dri_base.specs.declared.state.Shade.TheVariants as Shade_is
use Rattle.dri_base.specs.declared.state.DepthFunc.{DepthFunc}
use Rattle.dri_base.specs.declared.state.DepthFunc.TheVariants as Depth_is
use Rattle.dri_base.specs.declared.state.Blend.{Blend}
use Rattle.dri_base.specs.declared.state.Blend.TheVariants as Blend_is
use Rattle.dri_base.specs.declared.state.TexMode.{TexMode}
use Rattle.dri_base.specs.declared.state.TexMode.TheVariants as Mode_is
use Rattle.dri_base.specs.declared.state.Wrap.{Wrap}
use Rattle.dri_base.specs.declared.state.Wrap.TheVariants as Wrap_is
use Rattle.dri_base.specs.Scenes.{kills_in, named_by}
use Rattle.dri_scene.specs.Readings.{taken, after_words, scene_of, with_command, names_textures, with_client, with_end, is_owner, with_change, with_item, names_client, kills_again, opening, no_script, has_window, with_window, with_texture, with_screen, with_heap}
use Rattle.dri_words.specs.Lines.{is_passed_over}
use Rattle.dri_scene.specs.Shapes.{IsChangeRanged}
use Rattle.dri_scene.specs.Stored.{IsCorner, IsColour, IsStored, IsStoredTexture, IsStoredClient, IsStoredCommand}
use Rattle.dri_scene.specs.Texts.{scene_lines, scene_text, head_lines, screen_words, window_words, texture_words, command_words, setting_words, corner_words, change_words, item_words, client_lines, end_words, block_lines, shade_word, depth_func_word, switch_word, blend_word, tex_mode_word, wrap_word, mapped_word, format_word, hex}
use Rattle.dri_scene.proofs.Numbers.{found_among, is_found, not_found}
use Rattle.dri_words.proofs.Splitting.{is_word}
use Rattle.dri_words.proofs.Written.{first_above}
use Rattle.dri_words.proofs.PrintedNumbers.{decimal_word}
use Rattle.dri_scene.proofs.PrintedWords.{signed_word, colour_is_word, colour_alpha_is_word, image_is_word, image_back, image_size}
use Rattle.dri_base.proofs.RegionSizes.{region_size_within}
use Rattle.dri_scene.proofs.PrintedLines.{IsWritable, IsWritableCommand, written_command, command_read, client_read, end_read, change_read, item_read, server_read, turns_read, IsNamed, title_read, screen_read, heap_read, window_read, texture_read}
use Rattle.dri_scene.proofs.ReadBack.{IsPlain, Leads_to, leads_on, spelled, stepped}

-- a number is a word
few : (high n : ℕ) → high < 1000000 → n ≤ high → is_word (decimal n) ≡ true
few high n small is = decimal_word n (omega (arith, is, small))

place_word : (z : ℤ) → IsPlace z → is_word (signed_decimal z) ≡ true
place_word z is = signed_word z 1024 1024 (omega arith) (omega arith) (record { above = is.0; below = is.1 })

-- the head
abbrev pub headed : Scene → Reading
headed s = record opening { place = places.Windows; scene = record opening.scene { width = s.width; height = s.height; root = s.root; regions = s.regions; region_size = s.region_size } }

pub head_leads : (s : Scene) → InRange s → IsColour s.root → Leads_to opening (head_lines s) (headed s)
unfolding place_after taken
head_leads s range root =
    let card = range.card in
    let titled : Reading = record opening { place = places.Screen } in
    let sized : Reading = record (with_screen titled s.width s.height s.root) { place = places.Heap } in
    let screen : IsPlain (screen_words s) = record { printed = rw (few 1024 s.width (omega arith) card.wide.1, few 1024 s.height (omega arith) card.high.1, colour_is_word s.root) refl; kept = refl } in
    let heap : IsPlain (codes "heap" ∷ decimal s.regions ∷ decimal s.region_size ∷ []) = record { printed = rw (few 64 s.regions (omega arith) card.regions.1, few 65536 s.region_size (omega arith) (region_size_within s.region_size card.sized).1) refl; kept = refl } in (
      titled,
      record { printed = refl; kept = refl },
      stepped opening _ forms.Title lines.Title places.Screen opening title_read refl refl,
      refl,
      (
        sized,
        screen,
        stepped titled _ _ _ places.Heap (with_screen titled s.width s.height s.root) (screen_read s.width s.height s.root card.wide card.high root) refl refl,
        refl,
        (headed s, heap, stepped sized _ _ _ places.Windows (with_heap sized s.regions s.region_size) (heap_read s.regions s.region_size card.regions card.sized) refl refl, refl, refl),
      ),
    )

-- the windows so far
abbrev pub windowed : Scene → List Window → Reading
windowed s done = record (headed s) { scene = record (headed s).scene { windows = done } }

mapped_is_word : (b : Bool) → is_word (mapped_word b) ≡ true
mapped_is_word true = refl
mapped_is_word false = refl

window_plain : (w : Window) → WindowInRange w → IsPlain (window_words w)
window_plain w range = record {
  printed = rw (few 64 w.number (omega arith) range.numbered.1, place_word w.x range.left, place_word w.y range.top, few 1024 w.width (omega arith) range.wide.1, few 1024 w.height (omega arith) range.high.1, colour_is_word w.background, few 32 w.owner (omega arith) range.owned, mapped_is_word w.mapped) refl;
  kept = refl;
}

fresh_window : (done : List Window) (w : Window) (ws : List Window) → AllPairs ◌≢◌ (window_numbers (done ++ w ∷ ws)) → has_window w.number done ≡ false
fresh_window done w ws apart = not_found (λ v. v.number) w.number done (λ in'. twice (window_numbers done) (window_numbers ws) w.number in' (subst (AllPairs ◌≢◌) (map-append (λ v. v.number) done (w ∷ ws)) apart))

pub windows_lead : (s : Scene) (done ws : List Window) → AllPairs ◌≢◌ (window_numbers (done ++ ws)) → All WindowInRange ws → All (λ w. IsColour w.background) ws → Leads_to (windowed s done) (map window_words ws) (windowed s (done ++ ws))
unfolding place_after taken with_window
windows_lead s done [] apart range stored = ap (windowed s) (sym (append-nil done))
windows_lead s done (w ∷ ws) apart range stored =
    let here = All-head WindowInRange w ws range in
    let along = append_assoc done (w ∷ []) ws in
    let later = windows_lead s (done ++ w ∷ []) ws (subst (λ (x : List Window). AllPairs ◌≢◌ (window_numbers x)) (sym along) apart) (All-tail WindowInRange w ws range) (All-tail (λ v. IsColour v.background) w ws stored) in (
      windowed s (done ++ w ∷ []),
      window_plain w here,
      stepped (windowed s done) (window_words w) _ (lines.Window w) places.Windows (windowed s (done ++ w ∷ [])) (window_read w here (All-head (λ v. IsColour v.background) w ws stored)) refl (rw (fresh_window done w ws apart) refl),
      refl,
      subst (λ (x : List Window). Leads_to (windowed s (done ++ w ∷ [])) (map window_words ws) (windowed s x)) along later,
    )

-- a client's textures so far
abbrev pub with_textures : Reading → List Texture → ℕ → Reading
with_textures r ts last = record r { place = places.Textures; script = record r.script { textures = ts }; last_texture = last }

format_is_word : (f : TexFormat) → is_word (format_word f) ≡ true
format_is_word Format_is.L8 = refl
format_is_word Format_is.Rgb565 = refl

texture_plain : (heap : ℕ) (t : Texture) → TextureInRange heap t → IsPlain (texture_words t)
texture_plain heap t range = record {
  printed = rw (few 64 t.number (omega arith) range.numbered.1, format_is_word t.shape.format, few 256 t.shape.width (omega arith) range.wide.1, few 256 t.shape.height (omega arith) range.high.1, image_is_word t.bytes) refl;
  kept = refl;
}

-- the numbers that follow the first of rising ones are above it
all_above : (n : ℕ) (ns : List ℕ) → AllPairs ◌<◌ (n ∷ ns) → All (λ m. n < m) ns
all_above n ns rising = λ k d below. rising 0 (suc k) d (omega arith) (omega (arith, below))

rising_tail : (n : ℕ) (ns : List ℕ) → AllPairs ◌<◌ (n ∷ ns) → AllPairs ◌<◌ ns
rising_tail n ns rising = λ i j d up below. rising (suc i) (suc j) d (omega (arith, up)) (omega (arith, below))

-- where the textures lead
record TexturesLead (r : Reading) (done ts : List Texture) (last : ℕ) : Type 0 where
  number : ℕ
  leads : Leads_to (with_textures r done last) (map texture_words ts) (with_textures r (done ++ ts) number)

textures_lead : (r : Reading) (done ts : List Texture) (last : ℕ) → All (TextureInRange (heap_bytes r.scene)) ts → All IsStoredTexture ts → All (λ n. last < n) (texture_numbers ts) → AllPairs ◌<◌ (texture_numbers ts) → TexturesLead r done ts last
unfolding place_after taken with_texture
textures_lead r done [] last range stored above rising = record { number = last; leads = ap (λ (x : List Texture). with_textures r x last) (sym (append-nil done)) }
textures_lead r done (t ∷ ts) last range stored above rising =
    let heap = heap_bytes r.scene in
    let here = All-head (TextureInRange heap) t ts range in
    let bytes = All-head IsStoredTexture t ts stored in
    let higher = All-head (λ n. last < n) t.number (texture_numbers ts) above in
    let along = append_assoc done (t ∷ []) ts in
    let half : length (flat_map hex t.bytes) / 2 ≡ length t.bytes = ap (λ n. n / 2) (image_size t.bytes) ∙ mul-div_cancel_left (length t.bytes) (omega arith) in
    let fits : length (flat_map hex t.bytes) / 2 ≤ heap = subst (λ n. n ≤ heap) (sym half) here.fits in
    let next = with_textures r (done ++ t ∷ []) t.number in
    let later = textures_lead r (done ++ t ∷ []) ts t.number (All-tail (TextureInRange heap) t ts range) (All-tail IsStoredTexture t ts stored) (all_above t.number (texture_numbers ts) rising) (rising_tail t.number (texture_numbers ts) rising) in
    record {
      number = later.number;
      leads = (
        next,
        texture_plain heap t here,
        stepped (with_textures r done last) (texture_words t) _ _ places.Textures next (texture_read heap t here bytes) refl (rw (lt-leb t.number last higher, le-ltb heap (length (flat_map hex t.bytes) / 2) fits, image_back t.bytes bytes) refl),
        refl,
        subst (λ (x : List Texture). Leads_to next (map texture_words ts) (with_textures r x later.number)) along later.leads,
      );
    }

shade_is_word : (v : Shade) → is_word (shade_word v) ≡ true
shade_is_word Shade_is.Flat = refl
shade_is_word Shade_is.Smooth = refl

depth_func_is_word : (v : DepthFunc) → is_word (depth_func_word v) ≡ true
depth_func_is_word Depth_is.Never = refl
depth_func_is_word v = refl

switch_is_word : (v : Bool) → is_word (switch_word v) ≡ true
switch_is_word true = refl
switch_is_word false = refl

blend_is_word : (v : Blend) → is_word (blend_word v) ≡ true
blend_is_word Blend_is.Off = refl
blend_is_word v = refl

tex_mode_is_word : (v : TexMode) → is_word (tex_mode_word v) ≡ true
tex_mode_is_word Mode_is.Off = refl
tex_mode_is_word v = refl

wrap_is_word : (v : Wrap) → is_word (wrap_word v) ≡ true
wrap_is_word Wrap_is.Repeat = refl
wrap_is_word Wrap_is.Clamp = refl

-- the words of a setting
setting_printed : (s : Setting) → IsWritable s → list_all is_word (setting_words s) ≡ true
setting_printed (Setting_is.Shade v) ok = rw (shade_is_word v) refl
setting_printed (Setting_is.DepthFunc v) ok = rw (depth_func_is_word v) refl
setting_printed (Setting_is.DepthWrite v) ok = rw (switch_is_word v) refl
setting_printed (Setting_is.Blend v) ok = rw (blend_is_word v) refl
setting_printed (Setting_is.TexMode v) ok = rw (tex_mode_is_word v) refl
setting_printed (Setting_is.Wrap v) ok = rw (wrap_is_word v) refl
setting_printed (Setting_is.Bind None) ok = refl
setting_printed (Setting_is.Scissor None) ok = refl
setting_printed (Setting_is.Bind (Some t)) ok = rw (few 64 t (omega arith) ok.1) refl
setting_printed (Setting_is.Scissor (Some r)) ok = rw (few 2048 r.x1 (omega arith) ok.left, few 2048 r.y1 (omega arith) ok.top, few 2048 r.x2 (omega arith) ok.right, few 2048 r.y2 (omega arith) ok.bottom) refl

vertex_word : (z : ℤ) → IsVertexPlace z → is_word (signed_decimal z) ≡ true
vertex_word z is = signed_word z 32768 32767 (omega arith) (omega arith) (record { above = is.0; below = is.1 })

corner_printed : (v : Vertex) (ws : List (List ℕ)) → VertexInRange v → IsCorner v → list_all is_word ws ≡ true → list_all is_word (corner_words v ws) ≡ true
corner_printed v ws range stored all =
    rw (vertex_word v.x range.0, vertex_word v.y range.1, few 65535 v.z (omega arith) (omega (arith, stored.z)), colour_alpha_is_word v.colour, few 65535 v.s (omega arith) (omega (arith, stored.s)), few 65535 v.t (omega arith) (omega (arith, stored.t))) all

command_plain : (c : Command) → IsWritableCommand c → IsStoredCommand c → IsPlain (command_words c)
command_plain (Command_is.Set s) ok stored = record { printed = setting_printed s ok; kept = refl }
command_plain (Command_is.Clear colour depth) ok stored = record { printed = rw (colour_is_word colour, few 65535 depth (omega arith) (omega (arith, stored.1))) refl; kept = refl }
command_plain (Command_is.Triangle t) ok stored = record {
  printed = corner_printed t.a (corner_words t.b (corner_words t.c [])) ok.0 stored.0 (corner_printed t.b (corner_words t.c []) ok.1 stored.1 (corner_printed t.c [] ok.2 stored.2 refl));
  kept = refl;
}
command_plain Command_is.Swap ok stored = record { printed = refl; kept = refl }
command_plain Command_is.Yield ok stored = record { printed = refl; kept = refl }
command_plain Command_is.Die ok stored = record { printed = refl; kept = refl }

-- a client's commands so far
abbrev pub with_commands : Reading → Place → List Command → ℕ → Reading
with_commands r p cs n = record r { place = p; script = record r.script { commands = cs }; commands = n }

-- a texture that is there has a number in range
numbered : (heap : ℕ) (ts : List Texture) (t : ℕ) → All (TextureInRange heap) ts → Contains (texture_numbers ts) t → IsWithin 1 64 t
numbered heap [] t range in' = absurd (omega (arith, in'.1))
numbered heap (x ∷ xs) t range in' = found (λ j below at. numbered heap xs t (All-tail (TextureInRange heap) x xs range) (j, below, at)) in'.0 in'.1 in'.2 where
  found : ((j : ℕ) → j < length (texture_numbers xs) → get_or (texture_numbers xs) j t ≡ t → IsWithin 1 64 t) → (k : ℕ) → k < length (texture_numbers (x ∷ xs)) → get_or (texture_numbers (x ∷ xs)) k t ≡ t → IsWithin 1 64 t
  found later zero below at = subst (IsWithin 1 64) at (All-head (TextureInRange heap) x xs range).numbered
  found later (suc k) below at = later k (omega (arith, below)) at

numbered_at : (heap : ℕ) (ts : List Texture) (k d : ℕ) → All (TextureInRange heap) ts → k < length (texture_numbers ts) → IsWithin 1 64 (get_or (texture_numbers ts) k d)
numbered_at heap [] k d range below = absurd (omega (arith, below))
numbered_at heap (x ∷ xs) zero d range below = (All-head (TextureInRange heap) x xs range).numbered
numbered_at heap (x ∷ xs) (suc k) d range below = numbered_at heap xs k d (All-tail (TextureInRange heap) x xs range) (omega (arith, below))

writable : (heap : ℕ) (ts : List Texture) (c : Command) → All (TextureInRange heap) ts → CommandInRange (texture_numbers ts) c → IsWritableCommand c
writable heap ts (Command_is.Set (Setting_is.Bind (Some t))) range ok = numbered heap ts t range ok
writable heap ts (Command_is.Set (Setting_is.Scissor (Some r))) range ok = ok
writable heap ts (Command_is.Triangle t) range ok = ok
writable heap ts c range ok = tt

named : (ts : List Texture) (c : Command) → CommandInRange (texture_numbers ts) c → names_textures ts c ≡ true
named ts (Command_is.Set (Setting_is.Bind (Some t))) ok = is_found (λ x. x.number) t ts ok
named ts c ok = refl

-- where commands may stand
record IsOpen (p : Place) : Type 0 where
  command : (c : Command) → place_after p (forms.Command (written_command c)) ≡ place_in_script (forms.Command (written_command c))
  ends : place_after p forms.End ≡ Some places.Clients

open_textures : IsOpen places.Textures
unfolding place_after place_in_script
open_textures = record { command = λ c. refl; ends = refl }

open_commands : IsOpen places.Commands
unfolding place_after place_in_script
open_commands = record { command = λ c. refl; ends = refl }

dead_ends : place_after places.Dead forms.End ≡ Some places.Clients
unfolding place_after
dead_ends = refl

-- a command more
one_command : (heap : ℕ) (r : Reading) (p q : Place) (done : List Command) (c : Command) (n : ℕ) → IsOpen p → place_in_script (forms.Command (written_command c)) ≡ Some q → All (TextureInRange heap) r.script.textures → CommandInRange (texture_numbers r.script.textures) c → IsStoredCommand c → n < 100000
    → after_words (with_commands r p done n) (command_words c) ≡ Ok (with_commands r q (done ++ c ∷ []) (n + 1))
unfolding taken with_command
one_command heap r p q done c n open' leads range ok stored small =
    stepped (with_commands r p done n) (command_words c) _ (lines.Command c) q (with_commands r p (done ++ c ∷ []) (n + 1)) (command_read c (writable heap r.script.textures c range ok) stored) (open'.command c ∙ leads)
    (rw (named r.script.textures c ok, lt-leb 100000 n small) refl)

-- where the commands lead
record CommandsLead (r : Reading) (p : Place) (done cs : List Command) (n : ℕ) : Type 0 where
  place : Place
  ends : place_after place forms.End ≡ Some places.Clients
  leads : Leads_to (with_commands r p done n) (map command_words cs) (with_commands r place (done ++ cs) (n + length cs))

dies_later : (c : Command) (cs : List Command) → DiesLast (c ∷ cs) → DiesLast cs
dies_later c cs dies = λ k below. dies (suc k) (omega (arith, below))

commands_lead : (heap : ℕ) (r : Reading) (p : Place) (done cs : List Command) (n : ℕ) → IsOpen p → All (TextureInRange heap) r.script.textures → All (CommandInRange (texture_numbers r.script.textures)) cs → All IsStoredCommand cs → DiesLast cs → n + length cs ≤ 100000 → CommandsLead r p done cs n
unfolding place_in_script
commands_lead heap r p done [] n open' range ok stored dies small = record { place = p; ends = open'.ends; leads = ap (λ (x : List Command). with_commands r p x n) (sym (append-nil done)) ∙ ap (with_commands r p (done ++ [])) (omega arith) }
commands_lead heap r p done (Command_is.Die ∷ (d ∷ ds)) n open' range ok stored dies small = absurd (dies 0 (omega arith) refl)
commands_lead heap r p done (Command_is.Die ∷ []) n open' range ok stored dies small =
    let die = Command_is.Die in
    record {
      place = places.Dead;
      ends = dead_ends;
      leads = (with_commands r places.Dead (done ++ die ∷ []) (n + 1), record { printed = refl; kept = refl }, one_command heap r p places.Dead done die n open' refl range tt tt (omega (arith, small)), refl, refl);
    }
commands_lead heap r p done (c ∷ cs) n open' range ok stored dies small =
    let textures = texture_numbers r.script.textures in
    let here = All-head (CommandInRange textures) c cs ok in
    let kept' = All-head IsStoredCommand c cs stored in
    let later = commands_lead heap r places.Commands (done ++ c ∷ []) cs (n + 1) open_commands range (All-tail (CommandInRange textures) c cs ok) (All-tail IsStoredCommand c cs stored) (dies_later c cs dies) (omega (arith, small)) in
    let along : with_commands r later.place ((done ++ c ∷ []) ++ cs) ((n + 1) + length cs) ≡ with_commands r later.place (done ++ (c ∷ cs)) (n + length (c ∷ cs)) = ap (λ (x : List Command). with_commands r later.place x ((n + 1) + length cs)) (append_assoc done (c ∷ []) cs) ∙ ap (with_commands r later.place (done ++ (c ∷ cs))) (omega arith) in
    record {
      place = later.place;
      ends = later.ends;
      leads = (
        with_commands r places.Commands (done ++ c ∷ []) (n + 1),
        command_plain c (writable heap r.script.textures c range here) kept',
        one_command heap r p places.Commands done c n open' refl range here kept' (omega (arith, small)),
        refl,
        subst (Leads_to (with_commands r places.Commands (done ++ c ∷ []) (n + 1)) (map command_words cs)) along later.leads,
      );
    }

-- the clients so far, between their blocks
abbrev pub with_clients : Scene → Place → List ClientScript → ℕ → ℕ → ℕ → Reading
with_clients s p cs n client texture = record (windowed s s.windows) { place = p; scene = record (windowed s s.windows).scene { clients = cs }; commands = n; last_client = client; last_texture = texture }

-- a place between the clients' blocks
pub record IsBetweenBlocks (p : Place) : Type 0 where
  pub client : (c w : ℤ) → place_after p (forms.Client c w) ≡ Some places.Textures
  pub server : place_after p forms.Server ≡ Some places.Changes
  pub turns : place_after p forms.Turns ≡ Some places.Turns
  pub done : place_after p forms.Done ≡ Some places.End

pub before_clients : IsBetweenBlocks places.Windows
unfolding place_after place_behind_clients
before_clients = record { client = λ c w. refl; server = refl; turns = refl; done = refl }

pub behind_client : IsBetweenBlocks places.Clients
unfolding place_after place_behind_clients
behind_client = record { client = λ c w. refl; server = refl; turns = refl; done = refl }

-- an end that leads behind a client's block ends one
ends_client : (p : Place) → place_after p forms.End ≡ Some places.Clients → is_in_client p ≡ true
unfolding place_after place_in_script place_behind_clients
ends_client places.Textures at = refl
ends_client places.Commands at = refl
ends_client places.Dead at = refl
ends_client p at = absurd (cc)

client_plain : (c w : ℕ) → IsWithin 1 32 c → IsWithin 1 64 w → IsPlain (codes "client" ∷ decimal c ∷ decimal w ∷ [])
client_plain c w client window = record { printed = rw (few 32 c (omega arith) client.1, few 64 w (omega arith) window.1) refl; kept = refl }

end_plain : IsPlain end_words
end_plain = record { printed = refl; kept = refl }

owned : (o : Option ℕ) (n : ℕ) → o ≡ Some n → is_owner o n ≡ true
owned o n is = rw is (eq-eqb n n refl)

numbers_positive : (heap : ℕ) (ts : List Texture) → All (TextureInRange heap) ts → All (λ m. 0 < m) (texture_numbers ts)
numbers_positive heap ts range = λ k d below. let is = numbered_at heap ts k d range below in omega (arith, is.0)

-- where a client's block leads
record ClientLeads (s : Scene) (p : Place) (done : List ClientScript) (c : ClientScript) (n client texture : ℕ) : Type 0 where
  last : ℕ
  leads : Leads_to (with_clients s p done n client texture) (client_lines c) (with_clients s places.Clients (done ++ c ∷ []) (n + length c.commands) c.number last)

-- an end
ended : (r : Reading) → place_after r.place forms.End ≡ Some places.Clients → after_words r end_words ≡ Ok (record r { place = places.Clients; script = no_script; scene = record r.scene { clients = r.scene.clients ++ r.script ∷ [] } })
unfolding taken with_end
ended r at = stepped r end_words forms.End lines.End places.Clients (record r { script = no_script; scene = record r.scene { clients = r.scene.clients ++ r.script ∷ [] } }) end_read at (rw (ends_client r.place at) refl)

client_leads : (s : Scene) (p : Place) (done : List ClientScript) (c : ClientScript) (n client texture : ℕ) → IsBetweenBlocks p → All WindowInRange s.windows → ClientInRange s.windows (heap_bytes s) c → IsStoredClient c → client < c.number → n + length c.commands ≤ 100000 → ClientLeads s p done c n client texture
unfolding taken with_client
client_leads s p done c n client texture between windows range stored above small =
    let start = with_clients s p done n client texture in
    let script : ClientScript = record { number = c.number; window = c.window; textures = []; commands = [] } in
    let begun : Reading = record start { script = script; last_client = c.number; last_texture = 0 } in
    let opened : Reading = record begun { place = places.Textures } in
    let window = owned_window s.windows c.window c.number windows range.owns in
    let first = stepped start (codes "client" ∷ decimal c.number ∷ decimal c.window ∷ []) (forms.Client (pos c.number) (pos c.window)) (lines.Client c.number c.window) places.Textures begun (client_read c.number c.window range.numbered window) (between.client (pos c.number) (pos c.window))
    (rw (owned (owner_of s.windows c.window) c.number range.owns, lt-leb c.number client above) refl) in
    let positive : All (λ m. 0 < m) (texture_numbers c.textures) = numbers_positive (heap_bytes s) c.textures range.textured.each in
    let textures = textures_lead opened [] c.textures 0 range.textured.each stored.textures positive range.textured.rising in
    let textured = with_textures opened c.textures textures.number in
    let commands = commands_lead (heap_bytes s) textured places.Textures [] c.commands n open_textures range.textured.each range.commanded.each stored.commands range.commanded.last small in
    let commanded = with_commands textured commands.place c.commands (n + length c.commands) in
    let last : Leads_to commanded (end_words ∷ []) (with_clients s places.Clients (done ++ c ∷ []) (n + length c.commands) c.number textures.number) = (_, end_plain, ended commanded commands.ends, refl, refl) in
    record {
      last = textures.number;
      leads = (
        opened,
        client_plain c.number c.window range.numbered window,
        first,
        refl,
        leads_on opened textured _ (map texture_words c.textures) (map command_words c.commands ++ (end_words ∷ [])) textures.leads
            (leads_on textured commanded _ (map command_words c.commands) (end_words ∷ []) commands.leads last),
      );
    }

count_more : (c : ClientScript) (cs : List ClientScript) → command_count (c ∷ cs) ≡ length c.commands + command_count cs
count_more c cs = sum_by-cons (λ (x : ClientScript). length x.commands) c cs

-- where the clients' blocks lead
pub record ClientsLead (s : Scene) (p : Place) (done cs : List ClientScript) (n client texture : ℕ) : Type 0 where
  pub place : Place
  pub between : IsBetweenBlocks place
  pub last : ℕ
  pub last_texture : ℕ
  pub leads : Leads_to (with_clients s p done n client texture) (flat_map client_lines cs) (with_clients s place (done ++ cs) (n + command_count cs) last last_texture)

pub clients_lead : (s : Scene) (p : Place) (done cs : List ClientScript) (n client texture : ℕ) → IsBetweenBlocks p → All WindowInRange s.windows → All (ClientInRange s.windows (heap_bytes s)) cs → All IsStoredClient cs → All (λ m. client < m) (client_numbers cs) → AllPairs ◌<◌ (client_numbers cs) → n + command_count cs ≤ 100000 → ClientsLead s p done cs n client texture
clients_lead s p done [] n client texture between windows range stored above rising small = record {
  place = p;
  between = between;
  last = client;
  last_texture = texture;
  leads = ap (λ (x : List ClientScript). with_clients s p x n client texture) (sym (append-nil done)) ∙ ap (λ m. with_clients s p (done ++ []) m client texture) (omega arith);
}
clients_lead s p done (c ∷ cs) n client texture between windows range stored above rising small =
    let ok = ClientInRange s.windows (heap_bytes s) in
    let count = count_more c cs in
    let first = client_leads s p done c n client texture between windows (All-head ok c cs range) (All-head IsStoredClient c cs stored) (All-head (λ m. client < m) c.number (client_numbers cs) above) (omega (arith, small, count)) in
    let m = n + length c.commands in
    let later = clients_lead s places.Clients (done ++ c ∷ []) cs m c.number first.last behind_client windows (All-tail ok c cs range) (All-tail IsStoredClient c cs stored) (all_above c.number (client_numbers cs) rising) (rising_tail c.number (client_numbers cs) rising) (omega (arith, small, count)) in
    let along : with_clients s later.place ((done ++ c ∷ []) ++ cs) (m + command_count cs) later.last later.last_texture ≡ with_clients s later.place (done ++ (c ∷ cs)) (n + command_count (c ∷ cs)) later.last later.last_texture =
    ap (λ (x : List ClientScript). with_clients s later.place x (m + command_count cs) later.last later.last_texture) (append_assoc done (c ∷ []) cs) ∙ ap (λ k. with_clients s later.place (done ++ (c ∷ cs)) k later.last later.last_texture) (omega (arith, count)) in
    record {
      place = later.place;
      between = later.between;
      last = later.last;
      last_texture = later.last_texture;
      leads = leads_on _ _ _ (client_lines c) (flat_map client_lines cs) first.leads (subst (Leads_to (with_clients s places.Clients (done ++ c ∷ []) m c.number first.last) (flat_map client_lines cs)) along later.leads);
    }

-- the changes so far
abbrev pub with_changes : Reading → Place → List Change → Reading
with_changes r p cs = record r { place = p; scene = record r.scene { changes = cs } }

change_plain : (c : Change) → IsWithin 1 64 (named_by c) → IsChangeRanged c → IsPlain (change_words c)
change_plain (Change_is.Map w) there ok = record { printed = rw (few 64 w (omega arith) there.1) refl; kept = refl }
change_plain (Change_is.Unmap w) there ok = record { printed = rw (few 64 w (omega arith) there.1) refl; kept = refl }
change_plain (Change_is.Move w x y) there ok = record { printed = rw (few 64 w (omega arith) there.1, place_word x ok.0, place_word y ok.1) refl; kept = refl }
change_plain (Change_is.Resize w width height) there ok = record { printed = rw (few 64 w (omega arith) there.1, few 1024 width (omega arith) ok.0.1, few 1024 height (omega arith) ok.1.1) refl; kept = refl }
change_plain (Change_is.Raise w) there ok = record { printed = rw (few 64 w (omega arith) there.1) refl; kept = refl }
change_plain (Change_is.Lower w) there ok = record { printed = rw (few 64 w (omega arith) there.1) refl; kept = refl }

-- a window that is there has a number in range
window_within : (ws : List Window) (n k : ℕ) → All WindowInRange ws → k < length (window_numbers ws) → get_or (window_numbers ws) k n ≡ n → IsWithin 1 64 n
window_within [] n k range below at = absurd (omega (arith, below))
window_within (w ∷ ws) n zero range below at = subst (IsWithin 1 64) at (All-head WindowInRange w ws range).numbered
window_within (w ∷ ws) n (suc k) range below at = window_within ws n k (All-tail WindowInRange w ws range) (omega (arith, below)) at

-- what a change in range says
record IsGood (ws : List Window) (c : Change) : Type 0 where
  there : Contains (window_numbers ws) (named_by c)
  ranged : IsChangeRanged c

good : (ws : List Window) (c : Change) → ChangeInRange (window_numbers ws) c → IsGood ws c
good ws (Change_is.Map w) ok = record { there = ok; ranged = tt }
good ws (Change_is.Unmap w) ok = record { there = ok; ranged = tt }
good ws (Change_is.Move w x y) ok = record { there = ok.0; ranged = (ok.1, ok.2) }
good ws (Change_is.Resize w width height) ok = record { there = ok.0; ranged = (ok.1, ok.2) }
good ws (Change_is.Raise w) ok = record { there = ok; ranged = tt }
good ws (Change_is.Lower w) ok = record { there = ok; ranged = tt }

changes_lead : (r : Reading) (done cs : List Change) → All WindowInRange r.scene.windows → All (ChangeInRange (window_numbers r.scene.windows)) cs → length done + length cs ≤ 4096 → Leads_to (with_changes r places.Changes done) (map change_words cs) (with_changes r places.Changes (done ++ cs))
unfolding place_after taken with_change
changes_lead r done [] windows range small = ap (with_changes r places.Changes) (sym (append-nil done))
changes_lead r done (c ∷ cs) windows range small =
    let ok = good r.scene.windows c (All-head (ChangeInRange (window_numbers r.scene.windows)) c cs range) in
    let there = window_within r.scene.windows (named_by c) ok.there.0 windows ok.there.1 ok.there.2 in
    let next = with_changes r places.Changes (done ++ c ∷ []) in
    let along = append_assoc done (c ∷ []) cs in
    let later = changes_lead r (done ++ c ∷ []) cs windows (All-tail (ChangeInRange (window_numbers r.scene.windows)) c cs range) (simp length-append (omega (arith, small))) in (
      next,
      change_plain c there ok.ranged,
      stepped (with_changes r places.Changes done) (change_words c) _ (lines.Change c) places.Changes next (change_read c there ok.ranged) refl (rw (is_found (λ w. w.number) (named_by c) r.scene.windows ok.there, lt-leb 4096 (length done) (omega (arith, small))) refl),
      refl,
      subst (λ (x : List Change). Leads_to next (map change_words cs) (with_changes r places.Changes x)) along later,
    )

-- a place behind the server's block, or where it might have stood
pub record IsBeforeTurns (p : Place) : Type 0 where
  pub turns : place_after p forms.Turns ≡ Some places.Turns
  pub done : place_after p forms.Done ≡ Some places.End

schedule_next : IsBeforeTurns places.Schedule
unfolding place_after
schedule_next = record { turns = refl; done = refl }

server_plain : IsPlain (codes "server" ∷ [])
server_plain = record { printed = refl; kept = refl }

turns_plain : IsPlain (codes "turns" ∷ [])
turns_plain = record { printed = refl; kept = refl }

-- an end of the server's block or of the turns
block_ended : (r : Reading) (q : Place) → place_after r.place forms.End ≡ Some q → is_in_client r.place ≡ false → after_words r end_words ≡ Ok (record r { place = q })
unfolding taken with_end
block_ended r q at outside = stepped r end_words forms.End lines.End q r end_read at (rw outside refl)

-- where the server's block leads
pub record ServerLeads (r : Reading) (p : Place) (cs : List Change) : Type 0 where
  pub place : Place
  pub next : IsBeforeTurns place
  pub leads : Leads_to (with_changes r p []) (block_lines (codes "server") (map change_words cs)) (with_changes r place cs)

pub server_leads : (r : Reading) (p : Place) (cs : List Change) → IsBetweenBlocks p → All WindowInRange r.scene.windows → All (ChangeInRange (window_numbers r.scene.windows)) cs → length cs ≤ 4096 → ServerLeads r p cs
unfolding place_after taken
server_leads r p [] between windows range small = record { place = p; next = record { turns = between.turns; done = between.done }; leads = refl }
server_leads r p (c ∷ cs) between windows range small =
    let opened = with_changes r places.Changes [] in
    let full = with_changes r places.Changes (c ∷ cs) in
    let all : Leads_to opened (map change_words (c ∷ cs)) full = changes_lead r [] (c ∷ cs) windows range (omega (arith, small)) in
    let last : Leads_to full (end_words ∷ []) (with_changes r places.Schedule (c ∷ cs)) = (with_changes r places.Schedule (c ∷ cs), end_plain, block_ended full places.Schedule refl refl, refl, refl) in
    record {
      place = places.Schedule;
      next = schedule_next;
      leads = (
        opened,
        server_plain,
        stepped (with_changes r p []) (codes "server" ∷ []) forms.Server lines.Server places.Changes (with_changes r p []) server_read between.server refl,
        refl,
        leads_on opened full _ (map change_words (c ∷ cs)) (end_words ∷ []) all last,
      );
    }

-- the items so far
abbrev pub with_turns : Reading → Place → List Item → Reading
with_turns r p is = record r { place = p; scene = record r.scene { turns = is } }

-- a client that is there has a number in range
client_within : (cs : List ClientScript) (n k : ℕ) → All (λ c. IsWithin 1 32 c.number) cs → k < length (client_numbers cs) → get_or (client_numbers cs) k n ≡ n → IsWithin 1 32 n
client_within [] n k range below at = absurd (omega (arith, below))
client_within (c ∷ cs) n zero range below at = subst (IsWithin 1 32) at (All-head (λ x. IsWithin 1 32 x.number) c cs range)
client_within (c ∷ cs) n (suc k) range below at = client_within cs n k (All-tail (λ x. IsWithin 1 32 x.number) c cs range) (omega (arith, below)) at

-- what an item in range says
record IsGoodItem (cs : List ClientScript) (i : Item) : Type 0 where
  named : IsNamed i
  there : names_client cs i ≡ true

good_item : (cs : List ClientScript) (i : Item) → All (λ c. IsWithin 1 32 c.number) cs → ItemInRange (client_numbers cs) i → IsGoodItem cs i
good_item cs (Item_is.Turn actor) range (inl zero_is) = record { named = omega (arith, zero_is); there = rw (eq-eqb actor 0 zero_is) refl }
good_item cs (Item_is.Turn actor) range (inr in') = record { named = let is = client_within cs actor in'.0 range in'.1 in'.2 in omega (arith, is.1); there = rw (is_found (λ c. c.number) actor cs in') (or_true' (actor == 0)) } where
  or_true' : (b : Bool) → (b || true) ≡ true
  or_true' true = refl
  or_true' false = refl
good_item cs (Item_is.Kill client) range in' = record { named = client_within cs client in'.0 range in'.1 in'.2; there = is_found (λ c. c.number) client cs in' }

not_comment : (w : List ℕ) → 45 < get_or w 0 0 → is_passed_over (w ++ []) ≡ false
not_comment [] first = absurd (omega (arith, first))
not_comment (c ∷ cs) first = ne_eqb c 35 (λ e. omega (arith, e, first))

turn_plain : (n : ℕ) → n ≤ 32 → IsPlain (decimal n ∷ [])
turn_plain n small = record { printed = rw (few 32 n (omega arith) small) refl; kept = not_comment (decimal n) (first_above n (omega (arith, small))) }

item_plain : (i : Item) → IsNamed i → IsPlain (item_words i)
item_plain (Item_is.Turn zero) ok = record { printed = refl; kept = refl }
item_plain (Item_is.Turn (suc c)) ok = rw (ne_eqb (suc c) 0 (λ e. omega (arith, e))) (turn_plain (suc c) ok)
item_plain (Item_is.Kill c) ok = record { printed = rw (few 32 c (omega arith) ok.1) refl; kept = refl }

-- a client that an item kills is a victim
is_victim : (items : List Item) (c : ℕ) → kills_in items c ≡ true → list_any (λ n. n == c) (victims items) ≡ true
is_victim [] c is = absurd (false≢true is)
is_victim (Item_is.Turn actor ∷ items) c is = is_victim items c is
is_victim (Item_is.Kill client ∷ items) c is = elim (eqb_tells client c) as (λ _. list_any (λ n. n == c) (victims (Item_is.Kill client ∷ items)) ≡ true) [
  | inl same ↦ rw same.0 refl
  | inr other ↦ rw other.0 (is_victim items c (rw other.0 at is))
]

not_again : (done : List Item) (i : Item) (is : List Item) → AllPairs ◌≢◌ (victims (done ++ i ∷ is)) → kills_again done i ≡ false
not_again done (Item_is.Turn actor) is apart = refl
not_again done (Item_is.Kill client) is apart = told (kills_in done client) refl where
  told : (b : Bool) → kills_in done client ≡ b → kills_in done client ≡ false
  told false here = here
  told true here = absurd (twice (victims done) (victims is) client (found_among (victims done) client (is_victim done client here)) (subst (AllPairs ◌≢◌) (filter_map-append victim done (Item_is.Kill client ∷ is)) apart))

items_lead : (r : Reading) (done is : List Item) → All (λ c. IsWithin 1 32 c.number) r.scene.clients → All (ItemInRange (client_numbers r.scene.clients)) is → AllPairs ◌≢◌ (victims (done ++ is)) → length done + length is ≤ 1000000 → Leads_to (with_turns r places.Turns done) (map item_words is) (with_turns r places.Turns (done ++ is))
unfolding place_after taken with_item
items_lead r done [] clients range apart small = ap (with_turns r places.Turns) (sym (append-nil done))
items_lead r done (i ∷ is) clients range apart small =
    let ok = good_item r.scene.clients i clients (All-head (ItemInRange (client_numbers r.scene.clients)) i is range) in
    let next = with_turns r places.Turns (done ++ i ∷ []) in
    let along = append_assoc done (i ∷ []) is in
    let later = items_lead r (done ++ i ∷ []) is clients (All-tail (ItemInRange (client_numbers r.scene.clients)) i is range) (subst (λ (x : List Item). AllPairs ◌≢◌ (victims x)) (sym along) apart) (simp length-append (omega (arith, small))) in (
      next,
      item_plain i ok.named,
      stepped (with_turns r places.Turns done) (item_words i) _ (lines.Item i) places.Turns next (item_read i ok.named) refl (rw (ok.there, not_again done i is apart, lt-leb 1000000 (length done) (omega (arith, small))) refl),
      refl,
      subst (λ (x : List Item). Leads_to next (map item_words is) (with_turns r places.Turns x)) along later,
    )

-- where the turns lead
pub record TurnsLead (r : Reading) (p : Place) (is : List Item) : Type 0 where
  pub place : Place
  pub done : place_after place forms.Done ≡ Some places.End
  pub leads : Leads_to (with_turns r p []) (block_lines (codes "turns") (map item_words is)) (with_turns r place is)

pub turns_lead : (r : Reading) (p : Place) (is : List Item) → IsBeforeTurns p → All (λ c. IsWithin 1 32 c.number) r.scene.clients → All (ItemInRange (client_numbers r.scene.clients)) is → AllPairs ◌≢◌ (victims is) → length is ≤ 1000000 → TurnsLead r p is
unfolding place_after taken
turns_lead r p [] before clients range apart small = record { place = p; done = before.done; leads = refl }
turns_lead r p (i ∷ is) before clients range apart small =
    let opened = with_turns r places.Turns [] in
    let full = with_turns r places.Turns (i ∷ is) in
    let all : Leads_to opened (map item_words (i ∷ is)) full = items_lead r [] (i ∷ is) clients range apart (omega (arith, small)) in
    let last : Leads_to full (end_words ∷ []) (with_turns r places.Done (i ∷ is)) = (with_turns r places.Done (i ∷ is), end_plain, block_ended full places.Done refl refl, refl, refl) in
    record {
      place = places.Done;
      done = refl;
      leads = (
        opened,
        turns_plain,
        stepped (with_turns r p []) (codes "turns" ∷ []) forms.Turns lines.Turns places.Turns (with_turns r p []) turns_read before.turns refl,
        refl,
        leads_on opened full _ (map item_words (i ∷ is)) (end_words ∷ []) all last,
      );
    }

each_numbered : (s : Scene) (cs : List ClientScript) → All (ClientInRange s.windows (heap_bytes s)) cs → All (λ c. IsWithin 1 32 c.number) cs
each_numbered s cs range = λ k d below. (range k d below).numbered

positive_at : (cs : List ClientScript) → All (λ c. IsWithin 1 32 c.number) cs → (k d : ℕ) → k < length (client_numbers cs) → 0 < get_or (client_numbers cs) k d
positive_at [] range k d below = absurd (omega (arith, below))
positive_at (c ∷ cs) range zero d below = let is = All-head (λ x. IsWithin 1 32 x.number) c cs range in omega (arith, is.0)
positive_at (c ∷ cs) range (suc k) d below = positive_at cs (All-tail (λ x. IsWithin 1 32 x.number) c cs range) k d (omega (arith, below))

clients_positive : (cs : List ClientScript) → All (λ c. IsWithin 1 32 c.number) cs → All (λ m. 0 < m) (client_numbers cs)
clients_positive cs range = λ k d below. positive_at cs range k d below

-- all sections, in order
sections : (head windows clients server turns last : List (List (List ℕ))) → head ++ (windows ++ (clients ++ (server ++ (turns ++ last)))) ≡ (head ++ (windows ++ (clients ++ (server ++ turns)))) ++ last
sections head windows clients server turns last =
    ap (λ t. head ++ t) (ap (λ t. windows ++ t) (ap (λ t. clients ++ t) (sym (append_assoc server turns last)) ∙ sym (append_assoc clients (server ++ turns) last)) ∙ sym (append_assoc windows (clients ++ (server ++ turns)) last))
    ∙ sym (append_assoc head (windows ++ (clients ++ (server ++ turns))) last)

-- the text of a scene in range reads back as the scene
pub reads_back : (s : Scene) → InRange s → IsStored s → scene_of (scene_text s) ≡ Ok s
unfolding scene_lines
reads_back s range stored =
    let numbers = each_numbered s s.clients range.scripted.each in
    let clients = clients_lead s places.Windows [] s.clients 0 0 0 before_clients range.windowed.each range.scripted.each stored.clients (clients_positive s.clients numbers) range.scripted.rising (omega (arith, range.few)) in
    let behind : Reading = with_clients s clients.place s.clients (0 + command_count s.clients) clients.last clients.last_texture in
    let server = server_leads behind clients.place s.changes clients.between range.windowed.each range.changed.each range.changed.few in
    let served : Reading = with_changes behind server.place s.changes in
    let turns = turns_lead served server.place s.turns server.next numbers range.scheduled.each range.scheduled.once range.scheduled.few in
    let last : Reading = with_turns served turns.place s.turns in
    let turned = leads_on behind served last (block_lines (codes "server") (map change_words s.changes)) (block_lines (codes "turns") (map item_words s.turns)) server.leads turns.leads in
    let blocks = leads_on (windowed s s.windows) behind last (flat_map client_lines s.clients) _ clients.leads turned in
    let windows = leads_on (headed s) (windowed s s.windows) last (map window_words s.windows) _ (windows_lead s [] s.windows range.windowed.apart range.windowed.each stored.windows) blocks in
    let all = leads_on opening (headed s) last (head_lines s) _ (head_leads s range stored.root) windows in
    spelled s last (head_lines s ++ (map window_words s.windows ++ (flat_map client_lines s.clients ++ (block_lines (codes "server") (map change_words s.changes) ++ block_lines (codes "turns") (map item_words s.turns))))) (sections (head_lines s) (map window_words s.windows) (flat_map client_lines s.clients) (block_lines (codes "server") (map change_words s.changes)) (block_lines (codes "turns") (map item_words s.turns)) ((codes "done" ∷ []) ∷ [])) all turns.done refl
