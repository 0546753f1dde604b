-- A faithful value stays so with one entry more, where the holdings become what the entry makes of the world.
use Rattle.std.proofs.Common.{◌≡◌, ℕ, ◌+◌, List, [], ◌∷◌, ◌++◌, Option, Some, None, refl, ◌∙◌, ap, length, slice_get}
use Rattle.dri_base.specs.declared.journal.Entry.{Entry}
use Rattle.dri_base.specs.declared.journal.Entry.TheVariants.{Light, Kernel, Stale, Leave, Info, Change, Gone}
use Rattle.dri_base.specs.declared.scene.Scene.{Scene}
use Rattle.dri_core.specs.Effects.{after_leave, taken_in, told}
use Rattle.dri_core.specs.EntryTable.{LegalEntry, after_entry}
use Rattle.dri_core.specs.Phases.{Ask, Dead, In}
use Rattle.dri_base.specs.declared.command.Change.{Change as ChangeOf}
use Rattle.dri_base.specs.declared.scene.Window.{Window}
use Rattle.dri_card.specs.Contents.{Contents, Holds, Shows, memory_of}
use Rattle.dri_clips.specs.Boards.{Screen}
use Rattle.dri_clips.specs.SceneBoards.{IsBoardOf}
use Rattle.dri_core.specs.Restacks.{back_restacked, counter_after, front_restacked, next_moved, next_stack, stamps_after}
use Rattle.dri_model.specs.Stacks.{moved_by, painted, stack_after, without_owner}
use Rattle.dri_core.specs.Runs.{after}
use Rattle.dri_core.specs.Worlds.{World}
use Rattle.dri_core.proofs.Laws.{after-push, HoldRun-push}
use Rattle.dri_shared.specs.Holdings.{IsCardOf, IsFaithful, IsRestackedOn, IsWorld, carried_on}
use Rattle.dri_shared.specs.declared.holdings.Holdings.{Holdings}
use Rattle.dri_shared.proofs.Places.{places_stay}

-- one entry more
pub faithful : (s : Scene) (j k : List Entry) (h h' : Holdings) (e : Entry) → IsFaithful s j h → LegalEntry s (after s j) e → k ≡ j ++ e ∷ []
    → IsWorld s h' (after_entry s (after s j) e) → IsFaithful s k h'
faithful s j k h h' e good legal more world = rw more (record {
  scene = good.scene;
  run = HoldRun-push s j e good.run legal;
  world = rw after-push world;
})

module _ (s : Scene) (h : Holdings) (w : World) (c : ℕ) (is : IsWorld s h w) where
  pub light : IsWorld s (record h { holder = Some c }) (after_entry s w (Light c))
  light = record {
    card = is.card;
    board = is.board;
    regions = is.regions;
    places = places_stay w.client c (record (w.client c) { phase = In }) h.places is.places refl;
    owner = is.owner;
    holder = refl;
    left = is.left;
    made = is.made;
  }

  pub kernel : (found : ℕ) → IsWorld s (record h { holder = Some c; owner = c + 1 }) (after_entry s w (Kernel c found))
  kernel found = record {
    card = is.card;
    board = is.board;
    regions = is.regions;
    places = places_stay w.client c (taken_in s w c) h.places is.places refl;
    owner = refl;
    holder = refl;
    left = is.left;
    made = is.made;
  }

  pub stale : IsWorld s h (after_entry s w (Stale c))
  stale = record {
    card = is.card;
    board = is.board;
    regions = is.regions;
    places = places_stay w.client c (record (w.client c) { phase = Ask }) h.places is.places refl;
    owner = is.owner;
    holder = is.holder;
    left = is.left;
    made = is.made;
  }

  pub leave : IsWorld s (record h { holder = None; left = c + 1 }) (after_entry s w (Leave c))
  leave = record {
    card = is.card;
    board = is.board;
    regions = is.regions;
    places = places_stay w.client c (record (w.client c) { phase = after_leave s c (w.client c) }) h.places is.places refl;
    owner = is.owner;
    holder = refl;
    left = refl;
    made = is.made;
  }

  pub info : IsWorld s (record h { left = 1 }) (after_entry s w (Info c))
  info = record {
    card = is.card;
    board = is.board;
    regions = is.regions;
    places = places_stay w.client c (told s w c) h.places is.places refl;
    owner = is.owner;
    holder = is.holder;
    left = refl;
    made = is.made;
  }

-- the board and the card after a new stack, in which a window may be moved
restacks : (s : Scene) (w : World) (old new : List Window) (was moved : Option ℕ) (board board' : Screen) (card card' : Contents) →
    IsBoardOf s w.stack w.stamps w.counter board → IsCardOf s w.front w.back w.registers w.memory card → old ≡ new → was ≡ moved → IsRestackedOn old was board board' card card' →
    IsBoardOf s new (stamps_after s w new) (counter_after s w new) board' × IsCardOf s (front_restacked s w moved new) (back_restacked s w moved new) w.registers w.memory card'
restacks s w old new was moved board board' card card' b c same still is = (
  record {
    width = is.windows.width ∙ b.width;
    height = is.windows.height ∙ b.height;
    root = is.windows.root ∙ b.root;
    windows = is.windows.windows ∙ same;
    given = is.windows.stamps ∙ rw (b.width, b.height, b.windows, b.last, b.given, same) refl;
    last = is.windows.counter ∙ rw (b.width, b.height, b.windows, b.last, same) refl;
  },
  record {
    sides = is.sides s.width s.height c.sides;
    shown = shown (is.shown w.front c.shown);
    held = held (is.held w.back c.held);
    loaded = ap {A = Contents} (λ v. v.registers) is.others ∙ c.loaded;
    bytes = ap {A = Contents} (λ v. length v.memory) is.others ∙ c.bytes;
    uploads = ap {A = Contents} (λ v. memory_of v) is.others ∙ c.uploads;
  },
)
  where
    shown : Shows card' (carried_on board old was w.front (painted board.root was board.stack old w.front)) → Shows card' (front_restacked s w moved new)
    shown h = rw (← b.width, ← b.height, ← b.root, ← b.windows, ← same, ← still) h

    held : Holds card' (carried_on board old was w.back w.back) → Holds card' (back_restacked s w moved new)
    held h = rw (← b.width, ← b.height, ← b.windows, ← same, ← still) h

module _ (s : Scene) (h : Holdings) (w : World) (is : IsWorld s h w) where
  pub changed_windows : (change : ChangeOf) (board : Screen) (card : Contents) → slice_get s.changes w.made ≡ Some change →
      IsRestackedOn (stack_after change h.board.stack) (moved_by change h.board.stack) h.board board h.card card →
      IsWorld s (record h { card = card; board = board; made = h.made + 1; left = 1 }) (after_entry s w (Change (h.made + 1)))
  changed_windows change board card there made =
      let next : stack_after change h.board.stack ≡ next_stack s w = rw (is.board.windows, there) refl in
      let goes : moved_by change h.board.stack ≡ next_moved s w = rw (is.board.windows, there) refl in
      let both = restacks s w (stack_after change h.board.stack) (next_stack s w) (moved_by change h.board.stack) (next_moved s w) h.board board h.card card is.board is.card next goes made in
      record {
        card = both.1;
        board = both.0;
        regions = is.regions;
        places = is.places;
        owner = is.owner;
        holder = is.holder;
        left = refl;
        made = ap (λ n. n + 1) is.made;
      }

module _ (s : Scene) (h : Holdings) (w : World) (c : ℕ) (is : IsWorld s h w) where
  pub gone : (board : Screen) (card : Contents) → IsRestackedOn (without_owner c h.board.stack) None h.board board h.card card →
      IsWorld s (record h { card = card; board = board; holder = None; left = 0 }) (after_entry s w (Gone c))
  gone board card made =
      let both = restacks s w (without_owner c h.board.stack) (without_owner c w.stack) None None h.board board h.card card is.board is.card (ap (λ ws. without_owner c ws) is.board.windows) refl made in
      record {
        card = both.1;
        board = both.0;
        regions = is.regions;
        places = places_stay w.client c (record (w.client c) { phase = Dead }) h.places is.places refl;
        owner = is.owner;
        holder = refl;
        left = refl;
        made = is.made;
      }
