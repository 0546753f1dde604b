-- Each line that is allowed keeps a reading sound.
use Rattle.std.proofs.Common.{◌≡◌, ◌≢◌, ◌<◌, ◌≤◌, ◌⊎◌, inl, inr, ℕ, zero, suc, ◌+◌, ◌*◌, ◌/◌, List, [], ◌∷◌, ◌++◌, length, true, false, not, ◌==◌, Option, Some, None, Ok, refl, sym, ap, ◌∙◌, subst, arith, ℤ, nat_le, nat_lt}
use Rattle.std.specs.List.{All, AllPairs, list_any}
use Rattle.std.proofs.lemmas.Bool.{false≢true, leb-false, ltb-false, eqb-true, not-false}
use Rattle.std.proofs.lemmas.Bool.Decides.{eqb_tells}
use Rattle.std.proofs.lemmas.List.{length-append, append-nil}
use Rattle.std.proofs.lemmas.List.Elements.{All-push, All-head, All-tail, filter_map-append}
use Rattle.std.proofs.lemmas.List.Sums.{sum_by_push}
use Rattle.dri_base.specs.declared.colour.Rgb.{Rgb}
use Rattle.dri_base.specs.declared.command.Change.{Change}
use Rattle.dri_base.specs.declared.command.Change.TheVariants as Change_is
use Rattle.dri_base.specs.declared.command.Command.{Command}
use Rattle.dri_base.specs.declared.command.Command.TheVariants as Command_is
use Rattle.dri_base.specs.declared.command.Item.{Item}
use Rattle.dri_base.specs.declared.command.Item.TheVariants as Item_is
use Rattle.dri_base.specs.declared.scene.ClientScript.{ClientScript}
use Rattle.dri_base.specs.declared.scene.Window.{Window}
use Rattle.dri_base.specs.declared.texture.TexShape.{TexShape}
use Rattle.dri_base.specs.declared.texture.Texture.{Texture}
use Rattle.dri_base.specs.Ranges.{InRange, IsWithin, IsSide, IsRegionSize, CardInRange, WindowInRange, TextureInRange, CommandInRange, SettingInRange, CommandsInRange, DiesLast, ClientInRange, ClientsInRange, ChangeInRange, ChangesInRange, ItemInRange, TurnsInRange, heap_bytes, client_numbers, command_count, owner_of, window_numbers, texture_numbers, victim, victims}
use Rattle.dri_base.proofs.NumberMarks.{apart_more}
use Rattle.dri_scene.specs.declared.form.CommandForm.{CommandForm}
use Rattle.dri_scene.specs.declared.form.CommandForm.TheVariants as commands
use Rattle.dri_scene.specs.declared.form.Form.{Form}
use Rattle.dri_scene.specs.declared.form.Form.TheVariants as forms
use Rattle.dri_scene.specs.declared.form.WindowForm.{WindowForm}
use Rattle.dri_scene.specs.declared.form.TextureForm.{TextureForm}
use Rattle.dri_scene.specs.declared.form.ChangeForm.{ChangeForm}
use Rattle.dri_scene.specs.declared.form.ItemForm.{ItemForm}
use Rattle.dri_base.specs.declared.state.Setting.{Setting}
use Rattle.dri_base.specs.declared.state.Setting.TheVariants as Setting_is
use Rattle.std.proofs.Math.Nat.{mul-div_cancel_left}
use Rattle.std.proofs.lemmas.Option.{same_Some}
use Rattle.dri_scene.specs.declared.place.Place.{Place}
use Rattle.dri_scene.specs.declared.place.Place.TheVariants as places
use Rattle.dri_scene.specs.declared.reading.Reading.{Reading}
use Rattle.dri_scene.specs.Places.{place_after, place_behind_clients, place_in_script, is_in_client, is_end}
use Rattle.dri_scene.specs.Readings.{with_window, has_window, with_client, owns, is_owner, with_texture, image_bytes, with_command, names_textures, with_change, with_item, names_client, kills_again, with_end, with_screen, with_heap, no_script, opening, taken}
use Rattle.dri_scene.specs.Shapes.{IsLineOf, IsCommandOf, IsSettingRanged, IsChangeRanged, IsTextureRanged}
use Rattle.dri_scene.proofs.Numbers.{is_listed, not_among, apart_push, rising_push, below_more, most_push, passed, ok_same}
use Rattle.dri_words.specs.declared.reason.Reason.TheVariants as reasons
use Rattle.dri_scene.specs.declared.line.Line.{Line}
use Rattle.dri_scene.specs.declared.line.Line.TheVariants as lines
use Rattle.dri_base.specs.Scenes.{kills_in, named_by, texel_bytes}
use Rattle.dri_scene.specs.Soundness.{IsEarly, IsMiddle, HeadAt, IsBlock, BlockAt, IsSoFar, IsSound}

-- the place says nothing of what was read
so_far_at : (q : Place) (r : Reading) → IsSoFar r → IsSoFar (record r { place = q })
so_far_at q r before = record { windows = before.windows; clients = before.clients; most = before.most; counted = before.counted; few = before.few; changes = before.changes; turns = before.turns }

block_of : (q : Place) (r : Reading) → IsBlock r → IsBlock (record r { place = q })
block_of q r block = record { client = block.client; above = block.above; last = block.last; textures = block.textures }

-- where a window's line is allowed, and where it leads
window_at : (p q : Place) (f : WindowForm) → place_after p (forms.Window f) ≡ Some q → (p ≡ places.Windows) × (q ≡ places.Windows)
unfolding place_after place_behind_clients place_in_script
window_at places.Windows q f at = (refl, cc)
window_at p q f at = absurd (cc)

no_clients : (ws : List Window) (heap : ℕ) → ClientsInRange ws heap []
no_clients ws heap = record { each = λ k d below. absurd (omega (arith, below)); rising = λ i j d up below. absurd (omega (arith, below)) }

no_changes : (ns : List ℕ) → ChangesInRange ns []
no_changes ns = record { few = omega arith; each = λ k d below. absurd (omega (arith, below)) }

no_turns : (ns : List ℕ) → TurnsInRange ns []
no_turns ns = record { few = omega arith; each = λ k d below. absurd (omega (arith, below)); once = λ i j d up below. absurd (omega (arith, below)) }

-- a window more
pub windowed : (r : Reading) (w : Window) (next : Reading) → r.place ≡ places.Windows → IsSound r → WindowInRange w → with_window r w ≡ Ok next → IsSound (record next { place = places.Windows })
unfolding with_window
windowed r w next at sound range is =
    let s = r.scene in
    let ws = s.windows ++ w ∷ [] in
    let pushed : Reading = record r { scene = record s { windows = ws } } in
    let ok = passed (has_window w.number s.windows) reasons.Twice (Ok pushed) next is in
    let head : HeadAt places.Windows s = subst (λ p. HeadAt p s) at sound.head in
    let early = head.0 in
    subst (λ (n : Reading). IsSound (record n { place = places.Windows })) (ok_same pushed next ok.1) (record {
      so_far = record {
        windows = record { each = All-push WindowInRange s.windows w sound.so_far.windows.each range; apart = apart_push (λ v. v.number) s.windows w sound.so_far.windows.apart ok.0 };
        clients = subst (ClientsInRange ws (heap_bytes s)) (sym early.clients) (no_clients ws (heap_bytes s));
        most = sound.so_far.most;
        counted = sound.so_far.counted;
        few = sound.so_far.few;
        changes = subst (ChangesInRange (window_numbers ws)) (sym early.changes) (no_changes (window_numbers ws));
        turns = sound.so_far.turns;
      };
      head = (record { clients = early.clients; changes = early.changes; turns = early.turns }, record { wide = head.1.wide; high = head.1.high; regions = head.1.regions; sized = head.1.sized });
      block = subst (λ p. BlockAt p r) at sound.block;
    })

-- the place where a client's line is allowed
record IsBefore (q : Place) (r : Reading) : Type 0 where
  leads : q ≡ places.Textures
  middle : IsMiddle r.scene
  none : r.script.commands ≡ []

client_at : (p q : Place) (number window : ℤ) (r : Reading) → place_after p (forms.Client number window) ≡ Some q → HeadAt p r.scene → BlockAt p r → IsBefore q r
unfolding place_after place_behind_clients place_in_script
client_at places.Windows q number window r at head block = record { leads = cc; middle = record { card = head.1; changes = head.0.changes; turns = head.0.turns }; none = block }
client_at places.Clients q number window r at head block = record { leads = cc; middle = head; none = block }
client_at p q number window r at head block = absurd (cc)

-- the window is there and has this owner
owner_is : (o : Option ℕ) (n : ℕ) → is_owner o n ≡ true → o ≡ Some n
owner_is None n is = absurd (false≢true is)
owner_is (Some m) n is = ap Some (eqb-true m n is)

-- a client's block begins
pub begun : (r : Reading) (number window : ℕ) (next : Reading) → IsMiddle r.scene → r.script.commands ≡ [] → IsSoFar r → IsWithin 1 32 number → with_client r number window ≡ Ok next → IsSound (record next { place = places.Textures })
unfolding with_client
begun r number window next middle none before range is =
    let first = passed (not (owns r.scene.windows window number)) reasons.Unknown _ next is in
    let second = passed (nat_le number r.last_client) reasons.Order _ next first.1 in
    let begins : Reading = record r { script = record { number = number; window = window; textures = []; commands = [] }; last_client = number; last_texture = 0 } in
    let above : r.last_client < number = leb-false number r.last_client second.0 in
    let below = below_more r.last_client number (client_numbers r.scene.clients) above before.most in
    subst (λ (n : Reading). IsSound (record n { place = places.Textures })) (ok_same begins next second.1) (record {
      so_far = record {
        windows = before.windows;
        clients = before.clients;
        most = λ k d in'. let less = below k d in' in omega (arith, less);
        counted = ap (λ cs. command_count r.scene.clients + length cs) (sym none) ∙ before.counted;
        few = before.few;
        changes = before.changes;
        turns = before.turns;
      };
      head = middle;
      block = (
        record {
          client = record {
            numbered = range;
            owns = owner_is (owner_of r.scene.windows window) number (not-false _ first.0);
            textured = record { each = λ k d in'. absurd (omega (arith, in')); rising = λ i j d up in'. absurd (omega (arith, in')) };
            commanded = record { each = λ k d in'. absurd (omega (arith, in')); last = λ k in'. absurd (omega (arith, in')) };
          };
          above = below;
          last = refl;
          textures = λ k d in'. absurd (omega (arith, in'));
        },
        refl,
      );
    })

-- the place where a texture's line is allowed
record IsWithTextures (q : Place) (r : Reading) : Type 0 where
  leads : q ≡ places.Textures
  middle : IsMiddle r.scene
  block : IsBlock r
  none : r.script.commands ≡ []

texture_at : (p q : Place) (form : TextureForm) (r : Reading) → place_after p (forms.Texture form) ≡ Some q → HeadAt p r.scene → BlockAt p r → IsWithTextures q r
unfolding place_after place_behind_clients place_in_script
texture_at places.Textures q form r at head block = record { leads = cc; middle = head; block = block.0; none = block.1 }
texture_at p q form r at head block = absurd (cc)

-- two digits make a byte
image_length : (digits : List ℕ) (n : ℕ) → length digits ≡ 2 * n → length (image_bytes digits) ≡ n
image_length [] n is = omega (arith, is)
image_length (high ∷ []) n is = absurd (omega (arith, is))
image_length (high ∷ low ∷ more) zero is = absurd (omega (arith, is))
image_length (high ∷ low ∷ more) (suc n) is = ap suc (image_length more n (omega (arith, is)))

-- a texture more
pub textured : (r : Reading) (number : ℕ) (shape : TexShape) (digits : List ℕ) (next : Reading) → IsMiddle r.scene → IsBlock r → r.script.commands ≡ [] → IsSoFar r → IsTextureRanged number shape digits → with_texture r number shape digits ≡ Ok next → IsSound (record next { place = places.Textures })
unfolding with_texture
textured r number shape digits next middle block none before range is =
    let first = passed (nat_le number r.last_texture) reasons.Order _ next is in
    let second = passed (nat_lt (heap_bytes r.scene) (length digits / 2)) reasons.Heap _ next first.1 in
    let texture : Texture = record { number = number; shape = shape; bytes = image_bytes digits } in
    let ts = r.script.textures ++ texture ∷ [] in
    let more : Reading = record r { script = record r.script { textures = ts }; last_texture = number } in
    let size = texel_bytes shape.format * (shape.width * shape.height) in
    let whole : length (image_bytes digits) ≡ size = image_length digits size range.whole in
    let half : length digits / 2 ≡ size = ap (λ n. n / 2) range.whole ∙ mul-div_cancel_left size (omega arith) in
    let room : size ≤ heap_bytes r.scene = subst (λ n. n ≤ heap_bytes r.scene) half (ltb-false (heap_bytes r.scene) (length digits / 2) second.0) in
    let above = below_more r.last_texture number (texture_numbers r.script.textures) (leb-false number r.last_texture first.0) block.textures in
    subst (λ (n : Reading). IsSound (record n { place = places.Textures })) (ok_same more next second.1) (record {
      so_far = record { windows = before.windows; clients = before.clients; most = before.most; counted = before.counted; few = before.few; changes = before.changes; turns = before.turns };
      head = middle;
      block = (
        record {
          client = record {
            numbered = block.client.numbered;
            owns = block.client.owns;
            textured = record {
              each = All-push (TextureInRange (heap_bytes r.scene)) r.script.textures texture block.client.textured.each (record { numbered = range.numbered; wide = range.wide; high = range.high; whole = whole; fits = subst (λ n. n ≤ heap_bytes r.scene) (sym whole) room });
              rising = rising_push (λ t. t.number) r.script.textures texture block.client.textured.rising above;
            };
            commanded = subst (CommandsInRange (texture_numbers ts)) (sym none) (record { each = λ k d in'. absurd (omega (arith, in')); last = λ k in'. absurd (omega (arith, in')) });
          };
          above = block.above;
          last = block.last;
          textures = most_push (λ t. t.number) r.script.textures texture above;
        },
        none,
      );
    })

-- the place where a command's line is allowed
pub record IsInBlock (q : Place) (form : CommandForm) (r : Reading) : Type 0 where
  pub leads : place_in_script (forms.Command form) ≡ Some q
  pub middle : IsMiddle r.scene
  pub block : IsBlock r
  pub alive : All (λ c. c ≢ Command_is.Die) r.script.commands

command_at : (p q : Place) (form : CommandForm) (r : Reading) → place_after p (forms.Command form) ≡ Some q → HeadAt p r.scene → BlockAt p r → IsInBlock q form r
unfolding place_after place_behind_clients
command_at places.Textures q form r at head block = record { leads = at; middle = head; block = block.0; alive = subst (All (λ c. c ≢ Command_is.Die)) (sym block.1) (λ k d in'. absurd (omega (arith, in'))) }
command_at places.Commands q form r at head block = record { leads = at; middle = head; block = block.0; alive = block.1 }
command_at p q form r at head block = absurd (cc)

-- a die leads to the end, another command to more
command_leads : (q : Place) (form : CommandForm) (c : Command) → place_in_script (forms.Command form) ≡ Some q → IsCommandOf form c → (q ≡ places.Dead) ⊎ ((q ≡ places.Commands) × (c ≢ Command_is.Die))
unfolding place_in_script
command_leads q commands.Die c at of = inl (cc)
command_leads q form Command_is.Die at of = absurd of
command_leads q form c at of = inr (cc, λ is. absurd (cc))

-- a setting whose texture is there
setting_ranged : (ts : List Texture) (s : Setting) → names_textures ts (Command_is.Set s) ≡ true → IsSettingRanged s → SettingInRange (texture_numbers ts) s
setting_ranged ts (Setting_is.Bind (Some t)) named range = is_listed (λ p. p.number) t ts named
setting_ranged ts (Setting_is.Scissor (Some s)) named range = range
setting_ranged ts s named range = tt

-- a command whose texture is there
command_ranged : (ts : List Texture) (form : CommandForm) (c : Command) → names_textures ts c ≡ true → IsCommandOf form c → CommandInRange (texture_numbers ts) c
command_ranged ts (commands.Set form) (Command_is.Set s) named of = setting_ranged ts s named of
command_ranged ts (commands.Clear old z) (Command_is.Clear colour depth) named of = tt
command_ranged ts (commands.Triangle a b c) (Command_is.Triangle t) named of = of
command_ranged ts commands.Swap Command_is.Swap named of = tt
command_ranged ts commands.Yield Command_is.Yield named of = tt
command_ranged ts commands.Die Command_is.Die named of = tt
command_ranged ts form c named of = absurd of

-- commands without a die, and one more
dies_last : (cs : List Command) (c : Command) → All (λ b. b ≢ Command_is.Die) cs → DiesLast (cs ++ c ∷ [])
dies_last [] c alive k below = absurd (omega (arith, below))
dies_last (b ∷ cs) c alive zero below = λ is. All-head (λ a. a ≢ Command_is.Die) b cs alive (same_Some b Command_is.Die is)
dies_last (b ∷ cs) c alive (suc k) below = dies_last cs c (All-tail (λ a. a ≢ Command_is.Die) b cs alive) k (omega (arith, below))

-- a command more
pub commanded : (r : Reading) (q : Place) (form : CommandForm) (c : Command) (next : Reading) → IsInBlock q form r → IsSoFar r → IsCommandOf form c → with_command r c ≡ Ok next → IsSound (record next { place = q })
unfolding with_command
commanded r q form c next at before of is =
    let first = passed (not (names_textures r.script.textures c)) reasons.Unknown _ next is in
    let second = passed (nat_le 100000 r.commands) reasons.Limit _ next first.1 in
    let cs = r.script.commands ++ c ∷ [] in
    let more : Reading = record r { script = record r.script { commands = cs }; commands = r.commands + 1 } in
    let fits = leb-false 100000 r.commands second.0 in
    let counted : command_count r.scene.clients + length cs ≡ r.commands + 1 = simp length-append (omega (arith, before.counted)) in
    let so_far : IsSoFar more = record { windows = before.windows; clients = before.clients; most = before.most; counted = counted; few = omega (arith, fits); changes = before.changes; turns = before.turns } in
    let block : IsBlock more = record {
      client = record {
        numbered = at.block.client.numbered;
        owns = at.block.client.owns;
        textured = at.block.client.textured;
        commanded = record {
          each = All-push (CommandInRange (texture_numbers r.script.textures)) r.script.commands c at.block.client.commanded.each (command_ranged r.script.textures form c (not-false _ first.0) of);
          last = dies_last r.script.commands c at.alive;
        };
      };
      above = at.block.above;
      last = at.block.last;
      textures = at.block.textures;
    } in
    subst (λ (n : Reading). IsSound (record n { place = q })) (ok_same more next second.1)
    (elim (command_leads q form c at.leads of) as (λ _. IsSound (record more { place = q })) [
      | inl dead ↦ subst (λ p. IsSound (record more { place = p })) (sym dead) (record { so_far = so_far_at places.Dead more so_far; head = at.middle; block = block_of places.Dead more block })
      | inr alive ↦ subst (λ p. IsSound (record more { place = p })) (sym alive.0) (record { so_far = so_far_at places.Commands more so_far; head = at.middle; block = (block_of places.Commands more block, All-push (λ a. a ≢ Command_is.Die) r.script.commands c at.alive alive.1) })
    ])

-- the places where an end is allowed: of a client's block, of the server's, and of the turns
data EndsAt (p q : Place) (r : Reading) : Type 0 where
  of_client : q ≡ places.Clients → is_in_client p ≡ true → IsMiddle r.scene → IsBlock r → EndsAt p q r
  of_changes : q ≡ places.Schedule → is_in_client p ≡ false → CardInRange r.scene → r.script.commands ≡ [] → EndsAt p q r
  of_turns : q ≡ places.Done → is_in_client p ≡ false → CardInRange r.scene → r.script.commands ≡ [] → EndsAt p q r

end_at : (p q : Place) (r : Reading) → place_after p forms.End ≡ Some q → HeadAt p r.scene → BlockAt p r → EndsAt p q r
unfolding place_after place_behind_clients place_in_script
end_at places.Textures q r at head block = of_client (cc) refl head block.0
end_at places.Commands q r at head block = of_client (cc) refl head block.0
end_at places.Dead q r at head block = of_client (cc) refl head block
end_at places.Changes q r at head block = of_changes (cc) refl head block
end_at places.Turns q r at head block = of_turns (cc) refl head block
end_at p q r at head block = absurd (cc)

-- a client's block joins the scene
joined : (r : Reading) → IsMiddle r.scene → IsBlock r → IsSoFar r → IsSound (record r { place = places.Clients; script = no_script; scene = record r.scene { clients = r.scene.clients ++ r.script ∷ [] } })
joined r middle block before =
    let cs = r.scene.clients ++ r.script ∷ [] in
    let most = most_push (λ c. c.number) r.scene.clients r.script block.above in
    record {
      so_far = record {
        windows = before.windows;
        clients = record {
          each = All-push (ClientInRange r.scene.windows (heap_bytes r.scene)) r.scene.clients r.script before.clients.each block.client;
          rising = rising_push (λ c. c.number) r.scene.clients r.script before.clients.rising block.above;
        };
        most = subst (λ m. All (λ n. n ≤ m) (client_numbers cs)) (sym block.last) most;
        counted = omega (arith, sum_by_push (λ (c : ClientScript). length c.commands) r.scene.clients r.script, before.counted);
        few = before.few;
        changes = before.changes;
        turns = subst (TurnsInRange (client_numbers cs)) (sym middle.turns) (no_turns (client_numbers cs));
      };
      head = record { card = record { wide = middle.card.wide; high = middle.card.high; regions = middle.card.regions; sized = middle.card.sized }; changes = middle.changes; turns = middle.turns };
      block = refl;
    }

-- a block is whole
pub ended : (r : Reading) (q : Place) → place_after r.place forms.End ≡ Some q → IsSound r → IsSound (record (with_end r) { place = q })
unfolding with_end
ended r q at sound = elim (end_at r.place q r at sound.head sound.block) as (λ _. IsSound (record (with_end r) { place = q })) [
  | of_client leads here middle block ↦ rw (leads, here) (joined r middle block sound.so_far)
  | of_changes leads here card none ↦ rw (leads, here) (record { so_far = so_far_at places.Schedule r sound.so_far; head = card; block = none })
  | of_turns leads here card none ↦ rw (leads, here) (record { so_far = so_far_at places.Done r sound.so_far; head = card; block = none })
]

-- the places where a change's and an item's line are allowed
change_at : (p q : Place) (form : ChangeForm) → place_after p (forms.Change form) ≡ Some q → (p ≡ places.Changes) × (q ≡ places.Changes)
unfolding place_after place_behind_clients place_in_script
change_at places.Changes q form at = (refl, cc)
change_at p q form at = absurd (cc)

item_at : (p q : Place) (form : ItemForm) → place_after p (forms.Item form) ≡ Some q → (p ≡ places.Turns) × (q ≡ places.Turns)
unfolding place_after place_behind_clients place_in_script
item_at places.Turns q form at = (refl, cc)
item_at p q form at = absurd (cc)

-- a change whose window is there
change_ranged : (ws : List Window) (c : Change) → has_window (named_by c) ws ≡ true → IsChangeRanged c → ChangeInRange (window_numbers ws) c
change_ranged ws (Change_is.Map w) named range = is_listed (λ v. v.number) w ws named
change_ranged ws (Change_is.Unmap w) named range = is_listed (λ v. v.number) w ws named
change_ranged ws (Change_is.Move w x y) named range = (is_listed (λ v. v.number) w ws named, range.0, range.1)
change_ranged ws (Change_is.Resize w width height) named range = (is_listed (λ v. v.number) w ws named, range.0, range.1)
change_ranged ws (Change_is.Raise w) named range = is_listed (λ v. v.number) w ws named
change_ranged ws (Change_is.Lower w) named range = is_listed (λ v. v.number) w ws named

-- a change more
pub changed : (r : Reading) (c : Change) (next : Reading) → r.place ≡ places.Changes → IsSound r → IsChangeRanged c → with_change r c ≡ Ok next → IsSound (record next { place = places.Changes })
unfolding with_change
changed r c next at sound range is =
    let s = r.scene in
    let before = sound.so_far in
    let first = passed (not (has_window (named_by c) s.windows)) reasons.Unknown _ next is in
    let second = passed (nat_le 4096 (length s.changes)) reasons.Limit _ next first.1 in
    let cs = s.changes ++ c ∷ [] in
    let more : Reading = record r { scene = record s { changes = cs } } in
    let fits = leb-false 4096 (length s.changes) second.0 in
    let card : CardInRange s = subst (λ p. HeadAt p s) at sound.head in
    subst (λ (n : Reading). IsSound (record n { place = places.Changes })) (ok_same more next second.1) (record {
      so_far = record {
        windows = before.windows;
        clients = before.clients;
        most = before.most;
        counted = before.counted;
        few = before.few;
        changes = record { few = simp length-append (omega (arith, fits)); each = All-push (ChangeInRange (window_numbers s.windows)) s.changes c before.changes.each (change_ranged s.windows c (not-false _ first.0) range) };
        turns = before.turns;
      };
      head = record { wide = card.wide; high = card.high; regions = card.regions; sized = card.sized };
      block = subst (λ p. BlockAt p r) at sound.block;
    })

-- an item whose client is there
item_ranged : (cs : List ClientScript) (i : Item) → names_client cs i ≡ true → ItemInRange (client_numbers cs) i
item_ranged cs (Item_is.Turn actor) named = elim (eqb_tells actor 0) as (λ _. ItemInRange (client_numbers cs) (Item_is.Turn actor)) [
  | inl same ↦ inl same.1
  | inr other ↦ inr (is_listed (λ c. c.number) actor cs (rw other.0 at named))
]
item_ranged cs (Item_is.Kill client) named = is_listed (λ c. c.number) client cs named

-- a client that no item kills is no victim
no_victim : (items : List Item) (c : ℕ) → kills_in items c ≡ false → list_any (λ n. n == c) (victims items) ≡ false
no_victim [] c none = refl
no_victim (Item_is.Turn actor ∷ items) c none = no_victim items c none
no_victim (Item_is.Kill client ∷ items) c none = elim (eqb_tells client c) as (λ _. list_any (λ n. n == c) (victims (Item_is.Kill client ∷ items)) ≡ false) [
  | inl same ↦ absurd (false≢true (sym (rw same.0 at none)))
  | inr other ↦ rw other.0 (no_victim items c (rw other.0 at none))
]

-- the victims with one more item
once_more : (items : List Item) (i : Item) → kills_again items i ≡ false → AllPairs ◌≢◌ (victims items) → AllPairs ◌≢◌ (victims (items ++ i ∷ []))
once_more items (Item_is.Turn actor) none once = subst (AllPairs ◌≢◌) (sym (filter_map-append victim items (Item_is.Turn actor ∷ []) ∙ append-nil (victims items))) once
once_more items (Item_is.Kill client) none once =
    subst (AllPairs ◌≢◌) (sym (filter_map-append victim items (Item_is.Kill client ∷ []))) (apart_more (victims items) client once (not_among (victims items) client (no_victim items client none)))

-- an item more
pub scheduled : (r : Reading) (i : Item) (next : Reading) → r.place ≡ places.Turns → IsSound r → with_item r i ≡ Ok next → IsSound (record next { place = places.Turns })
unfolding with_item
scheduled r i next at sound is =
    let s = r.scene in
    let before = sound.so_far in
    let first = passed (not (names_client s.clients i)) reasons.Unknown _ next is in
    let second = passed (kills_again s.turns i) reasons.Twice _ next first.1 in
    let third = passed (nat_le 1000000 (length s.turns)) reasons.Limit _ next second.1 in
    let items = s.turns ++ i ∷ [] in
    let more : Reading = record r { scene = record s { turns = items } } in
    let fits = leb-false 1000000 (length s.turns) third.0 in
    let card : CardInRange s = subst (λ p. HeadAt p s) at sound.head in
    subst (λ (n : Reading). IsSound (record n { place = places.Turns })) (ok_same more next third.1) (record {
      so_far = record {
        windows = before.windows;
        clients = before.clients;
        most = before.most;
        counted = before.counted;
        few = before.few;
        changes = before.changes;
        turns = record { few = simp length-append (omega (arith, fits)); each = All-push (ItemInRange (client_numbers s.clients)) s.turns i before.turns.each (item_ranged s.clients i (not-false _ first.0)); once = once_more s.turns i second.0 before.turns.once };
      };
      head = record { wide = card.wide; high = card.high; regions = card.regions; sized = card.sized };
      block = subst (λ p. BlockAt p r) at sound.block;
    })

-- the other lines only lead on
server_at : (p q : Place) (r : Reading) → place_after p forms.Server ≡ Some q → HeadAt p r.scene → BlockAt p r → (q ≡ places.Changes) × CardInRange r.scene × (r.script.commands ≡ [])
unfolding place_after place_behind_clients place_in_script
server_at places.Windows q r at head block = (cc, head.1, block)
server_at places.Clients q r at head block = (cc, head.card, block)
server_at p q r at head block = absurd (cc)

turns_at : (p q : Place) (r : Reading) → place_after p forms.Turns ≡ Some q → HeadAt p r.scene → BlockAt p r → (q ≡ places.Turns) × CardInRange r.scene × (r.script.commands ≡ [])
unfolding place_after place_behind_clients place_in_script
turns_at places.Windows q r at head block = (cc, head.1, block)
turns_at places.Clients q r at head block = (cc, head.card, block)
turns_at places.Schedule q r at head block = (cc, head, block)
turns_at p q r at head block = absurd (cc)

done_at : (p q : Place) (r : Reading) → place_after p forms.Done ≡ Some q → HeadAt p r.scene → BlockAt p r → (q ≡ places.End) × CardInRange r.scene × (r.script.commands ≡ [])
unfolding place_after place_behind_clients place_in_script
done_at places.Windows q r at head block = (cc, head.1, block)
done_at places.Clients q r at head block = (cc, head.card, block)
done_at places.Schedule q r at head block = (cc, head, block)
done_at places.Done q r at head block = (cc, head, block)
done_at p q r at head block = absurd (cc)

title_at : (p q : Place) (r : Reading) → place_after p forms.Title ≡ Some q → HeadAt p r.scene → BlockAt p r → (q ≡ places.Screen) × IsEarly r.scene × (r.script.commands ≡ [])
unfolding place_after place_behind_clients place_in_script
title_at places.Title q r at head block = (cc, head, block)
title_at p q r at head block = absurd (cc)

screen_at : (p q : Place) (w h : ℤ) (root : Rgb) (r : Reading) → place_after p (forms.Screen w h root) ≡ Some q → HeadAt p r.scene → BlockAt p r → (q ≡ places.Heap) × IsEarly r.scene × (r.script.commands ≡ [])
unfolding place_after place_behind_clients place_in_script
screen_at places.Screen q w h root r at head block = (cc, head, block)
screen_at p q w h root r at head block = absurd (cc)

heap_at : (p q : Place) (n z : ℤ) (r : Reading) → place_after p (forms.Heap n z) ≡ Some q → HeadAt p r.scene → BlockAt p r → (q ≡ places.Windows) × IsEarly r.scene × IsSide r.scene.width × IsSide r.scene.height × (r.script.commands ≡ [])
unfolding place_after place_behind_clients place_in_script
heap_at places.Heap q n z r at head block = (cc, head.0, head.1, head.2, block)
heap_at p q n z r at head block = absurd (cc)

-- a line behind the windows that only leads on
onward : (r : Reading) (p q : Place) → IsSoFar r → q ≡ p → HeadAt p r.scene → BlockAt p r → IsSound (record r { place = q })
onward r p q before leads head block = subst (λ (x : Place). IsSound (record r { place = x })) (sym leads) (record { so_far = so_far_at p r before; head = head; block = block_at p r block }) where
  block_at : (p : Place) (r : Reading) → BlockAt p r → BlockAt p (record r { place = p })
  block_at places.Textures r block = (block_of places.Textures r block.0, block.1)
  block_at places.Commands r block = (block_of places.Commands r block.0, block.1)
  block_at places.Dead r block = block_of places.Dead r block
  block_at p r block = block

-- the screen's numbers
screened : (r : Reading) (w h : ℕ) (root : Rgb) → IsEarly r.scene → IsSoFar r → r.script.commands ≡ [] → IsSide w → IsSide h → IsSound (record (with_screen r w h root) { place = places.Heap })
screened r w h root early before none wide high = record {
  so_far = record { windows = before.windows; clients = before.clients; most = before.most; counted = before.counted; few = before.few; changes = before.changes; turns = before.turns };
  head = (record { clients = early.clients; changes = early.changes; turns = early.turns }, wide, high);
  block = none;
}

-- the heap's numbers
heaped : (r : Reading) (n z : ℕ) → IsEarly r.scene → IsSoFar r → r.script.commands ≡ [] → IsSide r.scene.width → IsSide r.scene.height → IsWithin 1 64 n → IsRegionSize z → IsSound (record (with_heap r n z) { place = places.Windows })
heaped r n z early before none wide high count size = record {
  so_far = record { windows = before.windows; clients = subst (ClientsInRange r.scene.windows (n * z)) (sym early.clients) (no_clients r.scene.windows (n * z)); most = before.most; counted = before.counted; few = before.few; changes = before.changes; turns = before.turns };
  head = (record { clients = early.clients; changes = early.changes; turns = early.turns }, record { wide = wide; high = high; regions = count; sized = size });
  block = none;
}

-- a line that is allowed keeps a reading sound
pub step : (r : Reading) (form : Form) (q : Place) (line : Line) (next : Reading) → IsSound r → place_after r.place form ≡ Some q → IsLineOf form line → taken r line ≡ Ok next → IsSound (record next { place = q })
unfolding taken
step r forms.Title q lines.Title next sound at of is =
    let t = title_at r.place q r at sound.head sound.block in
    subst (λ (n : Reading). IsSound (record n { place = q })) (ok_same r next is) (onward r places.Screen q sound.so_far t.0 t.1 t.2)
step r (forms.Screen w h root) q (lines.Screen width height colour) next sound at of is =
    let t = screen_at r.place q w h root r at sound.head sound.block in
    subst (λ (n : Reading). IsSound (record n { place = q })) (ok_same (with_screen r width height colour) next is) (subst (λ (x : Place). IsSound (record (with_screen r width height colour) { place = x })) (sym t.0) (screened r width height colour t.1 sound.so_far t.2 of.0 of.1))
step r (forms.Heap n z) q (lines.Heap regions size) next sound at of is =
    let t = heap_at r.place q n z r at sound.head sound.block in
    subst (λ (n : Reading). IsSound (record n { place = q })) (ok_same (with_heap r regions size) next is) (subst (λ (x : Place). IsSound (record (with_heap r regions size) { place = x })) (sym t.0) (heaped r regions size t.1 sound.so_far t.4 t.2 t.3 of.0 of.1))
step r (forms.Window form) q (lines.Window window) next sound at of is =
    let t = window_at r.place q form at in
    subst (λ (x : Place). IsSound (record next { place = x })) (sym t.1) (windowed r window next t.0 sound of is)
step r (forms.Client c w) q (lines.Client number window) next sound at of is =
    let t = client_at r.place q c w r at sound.head sound.block in
    subst (λ (x : Place). IsSound (record next { place = x })) (sym t.leads) (begun r number window next t.middle t.none sound.so_far of is)
step r (forms.Texture form) q (lines.Texture number shape image) next sound at of is =
    let t = texture_at r.place q form r at sound.head sound.block in
    subst (λ (x : Place). IsSound (record next { place = x })) (sym t.leads) (textured r number shape image next t.middle t.block t.none sound.so_far of is)
step r (forms.Command form) q (lines.Command command) next sound at of is = commanded r q form command next (command_at r.place q form r at sound.head sound.block) sound.so_far of is
step r forms.Server q lines.Server next sound at of is =
    let t = server_at r.place q r at sound.head sound.block in
    subst (λ (n : Reading). IsSound (record n { place = q })) (ok_same r next is) (onward r places.Changes q sound.so_far t.0 t.1 t.2)
step r (forms.Change form) q (lines.Change change) next sound at of is =
    let t = change_at r.place q form at in
    subst (λ (x : Place). IsSound (record next { place = x })) (sym t.1) (changed r change next t.0 sound of is)
step r forms.Turns q lines.Turns next sound at of is =
    let t = turns_at r.place q r at sound.head sound.block in
    subst (λ (n : Reading). IsSound (record n { place = q })) (ok_same r next is) (onward r places.Turns q sound.so_far t.0 t.1 t.2)
step r (forms.Item form) q (lines.Item item) next sound at of is =
    let t = item_at r.place q form at in
    subst (λ (x : Place). IsSound (record next { place = x })) (sym t.1) (scheduled r item next t.0 sound is)
step r forms.End q lines.End next sound at of is = subst (λ (n : Reading). IsSound (record n { place = q })) (ok_same (with_end r) next is) (ended r q at sound)
step r forms.Done q lines.Done next sound at of is =
    let t = done_at r.place q r at sound.head sound.block in
    subst (λ (n : Reading). IsSound (record n { place = q })) (ok_same r next is) (onward r places.End q sound.so_far t.0 t.1 t.2)
step r form q line next sound at of is = absurd of

-- a whole scene is in range
pub whole : (r : Reading) → is_end r.place ≡ true → IsSound r → InRange r.scene
whole r here sound =
    let at = end_place r.place here in
    let card : CardInRange r.scene = subst (λ p. HeadAt p r.scene) at sound.head in
    let none : r.script.commands ≡ [] = subst (λ p. BlockAt p r) at sound.block in
    let counted = ap (λ cs. command_count r.scene.clients + length cs) (sym none) ∙ sound.so_far.counted in
    record {
      card = card;
      windowed = sound.so_far.windows;
      scripted = sound.so_far.clients;
      few = omega (arith, counted, sound.so_far.few);
      changed = sound.so_far.changes;
      scheduled = sound.so_far.turns;
    }
  where
    end_place : (p : Place) → is_end p ≡ true → p ≡ places.End
    end_place places.End here = refl
    end_place p here = absurd (cc)

-- nothing was read yet
pub opens : IsSound opening
opens = record {
  so_far = record {
    windows = record { each = λ k d below. absurd (omega (arith, below)); apart = λ i j d up below. absurd (omega (arith, below)) };
    clients = no_clients [] 0;
    most = λ k d below. absurd (omega (arith, below));
    counted = refl;
    few = omega arith;
    changes = no_changes [];
    turns = no_turns [];
  };
  head = record { clients = refl; changes = refl; turns = refl };
  block = refl;
}

pub opens_at : (r : Reading) → r ≡ opening → IsSound r
opens_at r is = subst IsSound (sym is) opens
