-- What a deed does at a place is what its entry does there, and it is told with the clip of that moment.
use Rattle.std.proofs.Common.{◌≡◌, ◌<◌, ◌-ℤ◌, ℕ, ℤ, pos, List, [], ◌∷◌, Bool, true, false, ◌||◌, if◌then◌else◌, Option, Some, None, is_some, refl, ◌∙◌, sym, ap, subst, arith}
use Rattle.std.specs.List.{list_any}
use Rattle.std.specs.Prelude.{slice_get}
use Rattle.std.proofs.lemmas.Bool.{true≢false}
use Rattle.std.proofs.lemmas.Bool.Decides.{nat_tests}
use Rattle.dri_base.specs.Planes.{in_rect}
use Rattle.dri_base.specs.Ranges.{InRange}
use Rattle.dri_base.specs.Scenes.{command_at, window_of}
use Rattle.dri_base.specs.declared.command.Command.{Command}
use Rattle.dri_base.specs.declared.command.Command.TheVariants as Command_is
use Rattle.dri_base.specs.declared.journal.Entry.{Entry}
use Rattle.dri_base.specs.declared.journal.Entry.TheVariants as Entry_is
use Rattle.dri_base.specs.declared.scene.Scene.{Scene}
use Rattle.dri_base.specs.declared.scene.Window.{Window}
use Rattle.dri_base.specs.Rectangles.{in_rects}
use Rattle.dri_clips.specs.Boards.{shows}
use Rattle.dri_clips.specs.Paints.{ArePaints, IsCarried, paint_at}
use Rattle.dri_clips.specs.declared.touched.Carry.{Carry}
use Rattle.dri_clips.specs.declared.touched.Paint.{Paint}
use Rattle.dri_clips.specs.declared.touched.Touched.{Touched}
use Rattle.dri_core.proofs.Laws.{after-push}
use Rattle.dri_core.specs.EntryTable.{LegalEntry}
use Rattle.dri_core.specs.Restacks.{next_moved, next_stack}
use Rattle.dri_core.specs.Runs.{HoldRun, after, client_of}
use Rattle.dri_core.specs.Worlds.{World, clips_in}
use Rattle.dri_history.specs.Follows.{HasClipNow, HasWay, IsChanged, IsDrawn, IsWay, comes_to, deed_kind, touched_kind}
use Rattle.dri_history.specs.Touches.{HasClip, IsClipAt, command_kind, kind_at, stack_kind}
use Rattle.dri_history.specs.declared.touch.Clip.{Clip}
use Rattle.dri_history.specs.declared.touch.Kind.{Kind}
use Rattle.dri_history.specs.declared.touch.Kind.TheVariants as Kind_is
use Rattle.dri_history.specs.declared.touching.Way.{Way}
use Rattle.dri_journal.specs.Deeds.{Does, deed_by}
use Rattle.dri_journal.specs.Replays.{ReplayState, world_of}
use Rattle.dri_journal.specs.declared.deed.Deed.{Deed}
use Rattle.dri_journal.specs.declared.deed.Deed.TheVariants as Deed_is
use Rattle.dri_model.proofs.Moves.{carry_is}
use Rattle.dri_model.specs.Stacks.{carried_from, is_displaced, pixel_in, repaint, same_top, top, without_owner}
use Rattle.dri_replay.proofs.Lifted.{clips_same, refused_stays, with_entry}
use Rattle.dri_replay.specs.Makings.{clips_now}

-- a paint has the place exactly where a colour is painted there
pub paint_any : (ps : List Paint) (x y : ℕ) → is_some (paint_at ps x y) ≡ list_any (λ (p : Paint). is_some (pixel_in (in_rect p.rect) (pos x) (pos y))) ps
paint_any [] x y = refl
paint_any (p ∷ ps) x y = by (in_rect p.rect x y) (paint_any ps x y)
  where
    by : (b : Bool) → is_some (paint_at ps x y) ≡ list_any (λ (q : Paint). is_some (pixel_in (in_rect q.rect) (pos x) (pos y))) ps →
        is_some (if b then Some p.colour else paint_at ps x y) ≡ (is_some {T = ℕ × ℕ} (if b then Some (x, y) else None) || list_any (λ (q : Paint). is_some (pixel_in (in_rect q.rect) (pos x) (pos y))) ps)
    by true rest = refl
    by false rest = rest

-- what is carried there is told, else what is painted
pub kind_carried : (touched : Touched) (x y : ℕ) (b : Bool) → b ≡ comes_to touched.carry x y → b ≡ true → touched_kind touched x y ≡ Some Kind_is.Carry
kind_carried touched x y b is so = rw (sym is ∙ so) refl

pub kind_painted : (touched : Touched) (x y : ℕ) (b d : Bool) → b ≡ comes_to touched.carry x y → b ≡ false → d ≡ list_any (λ (p : Paint). is_some (pixel_in (in_rect p.rect) (pos x) (pos y))) touched.paints → d ≡ true → touched_kind touched x y ≡ Some Kind_is.Paint
kind_painted touched x y b d is so paints has = rw (sym is ∙ so, paint_any touched.paints x y ∙ sym paints ∙ has) refl

pub kind_none : (touched : Touched) (x y : ℕ) (b d : Bool) → b ≡ comes_to touched.carry x y → b ≡ false → d ≡ list_any (λ (p : Paint). is_some (pixel_in (in_rect p.rect) (pos x) (pos y))) touched.paints → d ≡ false → touched_kind touched x y ≡ None
kind_none touched x y b d is so paints has = rw (sym is ∙ so, paint_any touched.paints x y ∙ sym paints ∙ has) refl

-- a drawing is told as a deed of its kind
module _ (v : ReplayState) (c x y : ℕ) where
  pub clear_way : (colour : _) (depth : ℕ) (r : Option Way) → IsDrawn v c Kind_is.Clear x y r → IsWay v c (Deed_is.Clear colour depth) x y r
  clear_way colour depth None none = rw none refl
  clear_way colour depth (Some way) is = (rw is.0 (ap Some (sym is.1)), subst (λ k. HasWay v c k x y way.clip) (sym is.1) is.2)

  pub triangle_way : (t : _) (r : Option Way) → IsDrawn v c Kind_is.Triangle x y r → IsWay v c (Deed_is.Triangle t) x y r
  triangle_way t None none = rw none refl
  triangle_way t (Some way) is = (rw is.0 (ap Some (sym is.1)), subst (λ k. HasWay v c k x y way.clip) (sym is.1) is.2)

  pub swap_way : (r : Option Way) → IsDrawn v c Kind_is.Swap x y r → IsWay v c Deed_is.Swap x y r
  swap_way None none = rw none refl
  swap_way (Some way) is = (rw is.0 (ap Some (sym is.1)), subst (λ k. HasWay v c k x y way.clip) (sym is.1) is.2)

  pub touched_way : (touched : Touched) (r : Option Way) → IsChanged touched x y r → IsWay v c (Deed_is.Touched touched) x y r
  touched_way touched None none = none
  touched_way touched (Some way) is = (is.0, is.1 v c)

-- what comes to the place is what is carried there
comes_is : (width height : ℕ) (old new : List Window) (moved : Option ℕ) (carry : Option Carry) → IsCarried width height old new moved carry → (x y : ℕ) → comes_to carry x y ≡ is_some (carried_from width height old new moved x y)
comes_is width height old new moved None is x y = rw (is x y) refl
comes_is width height old new None (Some carry) is x y = absurd is
comes_is width height old new (Some n) (Some carry) is x y =
    subst (λ (d : ℤ × ℤ). is_some (pixel_in (in_rects carry.rects) (pos x -ℤ d.0) (pos y -ℤ d.1)) ≡ is_some (carried_from width height old new (Some n) x y)) (sym is.way)
    (ap is_some (carry_is width height old new n (in_rects carry.rects) is.pixels x y))

-- where the stack stays and nothing is moved, nothing is done
same_top_self : (o : Option Window) → same_top o o ≡ true
same_top_self None = refl
same_top_self (Some w) = grind (arith, nat_tests)

nothing_displaced : (old new : List Window) (o : Option Window) → is_displaced None old new o ≡ false
nothing_displaced old new None = refl
nothing_displaced old new (Some w) = refl

nothing_done : (s : Scene) (w : World) (x y : ℕ) → stack_kind s w None w.stack x y ≡ None
nothing_done s w x y = rw (same_top_self (top w.stack x y), nothing_displaced w.stack w.stack (top w.stack x y)) refl

-- what a new stack carries and paints is what it does
stack_is : (s : Scene) (w : World) (moved : Option ℕ) (new : List Window) (touched : Touched) → IsCarried s.width s.height w.stack new moved touched.carry → ArePaints s.width s.height s.root w.stack new moved touched.paints →
    (x y : ℕ) → x < s.width → y < s.height → touched_kind touched x y ≡ stack_kind s w moved new x y
stack_is s w moved new touched along are x y lx ly =
    λ k. if comes_is s.width s.height w.stack new moved touched.carry along x y k then Some Kind_is.Carry else if is_some (are.right x y lx ly k) then Some Kind_is.Paint else None

module _ (s : Scene) (j : List Entry) (good : InRange s) (run : HoldRun s j) (x y : ℕ) (lx : x < s.width) (ly : y < s.height) where
  ran : (c i : ℕ) (legal : LegalEntry s (after s j) (Entry_is.Run c i)) (o : Option Command) → deed_kind (with_entry s j (Entry_is.Run c i)) c (deed_by o) x y ≡ (if clips_in s (after s j) c x y then command_kind o else None)
  ran c i legal o = by o
    where
      same : clips_now (with_entry s j (Entry_is.Run c i)) c x y ≡ clips_in s (after s j) c x y
      same = clips_same s j good run c i legal x y

      nowhere : (b : Bool) → ◌≡◌ {A = Option Kind} None (if b then None else None)
      nowhere true = refl
      nowhere false = refl

      by : (o : Option Command) → deed_kind (with_entry s j (Entry_is.Run c i)) c (deed_by o) x y ≡ (if clips_in s (after s j) c x y then command_kind o else None)
      by (Some (Command_is.Clear colour depth)) = λ k. if same k then Some Kind_is.Clear else None
      by (Some (Command_is.Triangle t)) = λ k. if same k then Some Kind_is.Triangle else None
      by (Some Command_is.Swap) = λ k. if same k then Some Kind_is.Swap else None
      by (Some Command_is.Yield) = nowhere (clips_in s (after s j) c x y)
      by (Some Command_is.Die) = nowhere (clips_in s (after s j) c x y)
      by (Some (Command_is.Set setting)) = nowhere (clips_in s (after s j) c x y)
      by None = nowhere (clips_in s (after s j) c x y)

  changed : (i : ℕ) (deed : Deed) → Does s (after s j) (Entry_is.Change i) deed → deed_kind (with_entry s j (Entry_is.Change i)) 0 deed x y ≡ kind_at s (after s j) (Entry_is.Change i) x y
  changed i (Deed_is.Touched touched) does = stack_is s (after s j) (next_moved s (after s j)) (next_stack s (after s j)) touched does.1.carry does.1.paints x y lx ly
  changed i Deed_is.Nothing does =
      let stays = refused_stays (after s j).stack (slice_get s.changes (after s j).made) does in
      sym (nothing_done s (after s j) x y) ∙ (λ k. stack_kind s (after s j) (sym stays.0 k) (sym stays.1 k) x y)
  changed i (Deed_is.Clear colour depth) does = absurd does
  changed i (Deed_is.Triangle t) does = absurd does
  changed i Deed_is.Swap does = absurd does

  gone : (c : ℕ) (deed : Deed) → Does s (after s j) (Entry_is.Gone c) deed → deed_kind (with_entry s j (Entry_is.Gone c)) c deed x y ≡ kind_at s (after s j) (Entry_is.Gone c) x y
  gone c (Deed_is.Touched touched) does = stack_is s (after s j) None (without_owner c (after s j).stack) touched does.1.carry does.1.paints x y lx ly
  gone c Deed_is.Nothing does = absurd (true≢false (sym does))
  gone c (Deed_is.Clear colour depth) does = absurd does
  gone c (Deed_is.Triangle t) does = absurd does
  gone c Deed_is.Swap does = absurd does

  nothing : (e : Entry) (n : ℕ) (deed : Deed) → deed ≡ Deed_is.Nothing → deed_kind (with_entry s j e) n deed x y ≡ None
  nothing e n deed does = ap (λ d. deed_kind (with_entry s j e) n d x y) does

  pub kind_lifted : (e : Entry) (deed : Deed) → LegalEntry s (after s j) e → Does s (after s j) e deed → deed_kind (with_entry s j e) (client_of e) deed x y ≡ kind_at s (after s j) e x y
  kind_lifted (Entry_is.Run c i) deed legal does = ap (λ d. deed_kind (with_entry s j (Entry_is.Run c i)) c d x y) does ∙ ran c i legal (command_at s c i)
  kind_lifted (Entry_is.Change i) deed legal does = changed i deed does
  kind_lifted (Entry_is.Gone c) deed legal does = gone c deed does
  kind_lifted (Entry_is.Light c) deed legal does = nothing (Entry_is.Light c) c deed does
  kind_lifted (Entry_is.Kernel c found) deed legal does = nothing (Entry_is.Kernel c found) c deed does
  kind_lifted (Entry_is.Stale c) deed legal does = nothing (Entry_is.Stale c) c deed does
  kind_lifted (Entry_is.Emit c groups) deed legal does = nothing (Entry_is.Emit c groups) c deed does
  kind_lifted (Entry_is.Place c t first count) deed legal does = nothing (Entry_is.Place c t first count) c deed does
  kind_lifted (Entry_is.Leave c) deed legal does = nothing (Entry_is.Leave c) c deed does
  kind_lifted (Entry_is.Info c) deed legal does = nothing (Entry_is.Info c) c deed does

  -- the clip of the moment before the run
  clip_before : (c i : ℕ) (clip : Option Clip) → HasClipNow (with_entry s j (Entry_is.Run c i)) c x y clip → HasClip s (after s j) (Entry_is.Run c i) x y clip
  clip_before c i None is = absurd is
  clip_before c i (Some clip) is =
      let now : IsClipAt s (world_of (with_entry s j (Entry_is.Run c i))) c x y clip = is in
      record {
        stamp = now.stamp ∙ ap (λ (u : World). u.stamps (window_of s c)) (after-push s j (Entry_is.Run c i));
        rects = now.rects;
        list = record {
          order = now.list.order;
          proper = now.list.proper;
          apart = now.list.apart;
          has = λ a b. now.list.has a b ∙ ap (λ (u : World). shows s.width s.height u.stack (window_of s c) a b) (after-push s j (Entry_is.Run c i));
        };
        rect = now.rect;
      }

  -- a run neither carries nor paints, and a new stack doesn't draw
  no_carry : (o : Option Command) (b : Bool) → (if b then command_kind o else None) ≡ Some Kind_is.Carry → ⊥
  no_carry o false is = cc
  no_carry (Some (Command_is.Clear colour depth)) true is = cc
  no_carry (Some (Command_is.Triangle t)) true is = cc
  no_carry (Some Command_is.Swap) true is = cc
  no_carry (Some Command_is.Yield) true is = cc
  no_carry (Some Command_is.Die) true is = cc
  no_carry (Some (Command_is.Set setting)) true is = cc
  no_carry None true is = cc

  no_paint : (o : Option Command) (b : Bool) → (if b then command_kind o else None) ≡ Some Kind_is.Paint → ⊥
  no_paint o false is = cc
  no_paint (Some (Command_is.Clear colour depth)) true is = cc
  no_paint (Some (Command_is.Triangle t)) true is = cc
  no_paint (Some Command_is.Swap) true is = cc
  no_paint (Some Command_is.Yield) true is = cc
  no_paint (Some Command_is.Die) true is = cc
  no_paint (Some (Command_is.Set setting)) true is = cc
  no_paint None true is = cc

  not_drawn : (b d : Bool) (kind : Kind) (c : ℕ) (v : ReplayState) (clip : Option Clip) → (if b then Some Kind_is.Carry else if d then Some Kind_is.Paint else None) ≡ Some kind → HasWay v c kind x y clip → clip ≡ None
  not_drawn true d kind c v clip is way = subst (λ k. HasWay v c k x y clip) (sym (same_kind is)) way
    where
      same_kind : Some Kind_is.Carry ≡ Some kind → Kind_is.Carry ≡ kind
      same_kind e = cc
  not_drawn false true kind c v clip is way = subst (λ k. HasWay v c k x y clip) (sym (same_kind is)) way
    where
      same_kind : Some Kind_is.Paint ≡ Some kind → Kind_is.Paint ≡ kind
      same_kind e = cc
  not_drawn false false kind c v clip is way = absurd (none is)
    where
      none : ◌≡◌ {A = Option Kind} None (Some kind) → ⊥
      none e = cc

  none_some : (kind : Kind) → ◌≡◌ {A = Option Kind} None (Some kind) → ⊥
  none_some kind e = cc

  -- it is told with its clip
  pub clip_lifted : (e : Entry) (kind : Kind) (clip : Option Clip) → kind_at s (after s j) e x y ≡ Some kind → HasWay (with_entry s j e) (client_of e) kind x y clip → HasClip s (after s j) e x y clip
  clip_lifted (Entry_is.Run c i) Kind_is.Clear clip is way = clip_before c i clip way
  clip_lifted (Entry_is.Run c i) Kind_is.Triangle clip is way = clip_before c i clip way
  clip_lifted (Entry_is.Run c i) Kind_is.Swap clip is way = clip_before c i clip way
  clip_lifted (Entry_is.Run c i) Kind_is.Carry clip is way = absurd (no_carry (command_at s c i) (clips_in s (after s j) c x y) is)
  clip_lifted (Entry_is.Run c i) Kind_is.Paint clip is way = absurd (no_paint (command_at s c i) (clips_in s (after s j) c x y) is)
  clip_lifted (Entry_is.Change i) kind clip is way = let w = after s j in
      not_drawn (is_some (carried_from s.width s.height w.stack (next_stack s w) (next_moved s w) x y)) (is_some (repaint s.width s.height s.root w.stack (next_stack s w) (next_moved s w) x y)) kind 0 (with_entry s j (Entry_is.Change i)) clip is way
  clip_lifted (Entry_is.Gone c) kind clip is way = let w = after s j in
      not_drawn (is_some (carried_from s.width s.height w.stack (without_owner c w.stack) None x y)) (is_some (repaint s.width s.height s.root w.stack (without_owner c w.stack) None x y)) kind c (with_entry s j (Entry_is.Gone c)) clip is way
  clip_lifted (Entry_is.Light c) kind clip is way = absurd (none_some kind is)
  clip_lifted (Entry_is.Kernel c found) kind clip is way = absurd (none_some kind is)
  clip_lifted (Entry_is.Stale c) kind clip is way = absurd (none_some kind is)
  clip_lifted (Entry_is.Emit c groups) kind clip is way = absurd (none_some kind is)
  clip_lifted (Entry_is.Place c t first count) kind clip is way = absurd (none_some kind is)
  clip_lifted (Entry_is.Leave c) kind clip is way = absurd (none_some kind is)
  clip_lifted (Entry_is.Info c) kind clip is way = absurd (none_some kind is)
