-- The journals of the scenes that were worked by hand, and how their ends are read.
use Rattle.std.specs.Prelude.{ℕ, Bool, List, [], ◌∷◌, ◌++◌, map, take, Option, Some, pos}
use Rattle.std.specs.List.{range_with_len}
use Rattle.dri_base.specs.declared.colour.Rgb.{Rgb}
use Rattle.dri_base.specs.declared.journal.Entry.TheVariants.{Light, Kernel, Stale, Emit, Place, Leave, Info, Change, Run, Gone}
use Rattle.dri_base.specs.declared.journal.Entry.{Entry}
use Rattle.dri_base.specs.declared.journal.Event.{Event}
use Rattle.dri_base.specs.declared.scene.Scene.{Scene}
use Rattle.dri_core.specs.CoreRuns.{after_events}
use Rattle.dri_core.specs.Cores.{opening_core, word_number}
use Rattle.dri_base.specs.declared.command.Command.{Command}
use Rattle.dri_base.specs.declared.state.DepthFunc.{DepthFunc}
use Rattle.dri_base.specs.declared.state.Setting.TheVariants as Setting_is
use Rattle.dri_core.specs.ExampleParts.{rgb, script}
use Rattle.dri_core.specs.Solo.{solo_frame}
use Rattle.dri_meaning.specs.ExampleScenes.{moved_about, two_images, probed}
use Rattle.dri_model.specs.Stacks.{Refusal, refusal}
use Rattle.dri_base.specs.declared.command.Change.{Change as WindowChange}
use Rattle.dri_meaning.specs.Reports.{tally, is_whole}
use Rattle.dri_core.specs.Runs.{after}

-- the rows of front after a journal
abbrev pub picture : Scene → List Entry → List (List Rgb)
picture s journal = map (λ y. map (λ x. (after s journal).front x y) (range_with_len 0 s.width)) (range_with_len 0 s.height)

-- the lock word after events
abbrev pub word_after_all : Scene → List Event → ℕ
word_after_all s events = word_number (after_events s (opening_core s) events).word

-- a client's first hold: its stamp is old, so it leaves, asks, and comes again
abbrev pub first_hold : ℕ → ℕ → List Entry
first_hold c found = Kernel c found ∷ Stale c ∷ Leave c ∷ Info c ∷ Kernel c 1 ∷ []

-- one hold more, with its registers emitted before the triangle
abbrev pub one_triangle_journal : List Entry
one_triangle_journal = first_hold 1 1 ++ Run 1 1 ∷ Emit 1 127 ∷ Run 1 2 ∷ Run 1 3 ∷ Leave 1 ∷ []

-- the second hold is light
abbrev pub two_frames_journal : List Entry
two_frames_journal = first_hold 1 1 ++ Run 1 1 ∷ Run 1 2 ∷ Leave 1 ∷ Light 1 ∷ Run 1 3 ∷ Run 1 4 ∷ Leave 1 ∷ []

-- the client dies in its second hold
abbrev pub dies_journal : List Entry
dies_journal = take 9 two_frames_journal ++ Gone 1 ∷ []

-- up to the changes, with or without windows at one place
abbrev pub until_changes : List Entry
until_changes = first_hold 1 1 ++ Run 1 1 ∷ Run 1 2 ∷ Leave 1 ∷ Change 1 ∷ Change 2 ∷ []

-- the stamp is old after the changes
abbrev pub covered_journal : List Entry
covered_journal = until_changes ++ first_hold 1 1 ++ Run 1 3 ∷ Leave 1 ∷ []

-- the stamp stood
abbrev pub beside_journal : List Entry
beside_journal = until_changes ++ Kernel 1 1 ∷ Run 1 3 ∷ Leave 1 ∷ []

-- up to the first triangle of client 1
abbrev pub first_triangle : List Entry
first_triangle = first_hold 1 1 ++ Run 1 1 ∷ Emit 1 127 ∷ Run 1 2 ∷ []

-- the whole run of client 2, after a hold that left word 0
abbrev pub second_client : List Entry
second_client = first_hold 2 0 ++ Run 2 1 ∷ Run 2 2 ∷ Leave 2 ∷ []

-- client 1 ends, and leaves by the kernel
abbrev pub waiting_one_journal : List Entry
waiting_one_journal = first_triangle ++ Run 1 3 ∷ Run 1 4 ∷ Leave 1 ∷ second_client

-- client 1 is gone
abbrev pub killed_journal : List Entry
killed_journal = first_triangle ++ Gone 1 ∷ second_client

-- each client's texture takes the place of the other's
abbrev pub one_region_journal : List Entry
one_region_journal =
    (first_hold 1 1 ++ Run 1 1 ∷ Run 1 2 ∷ Run 1 3 ∷ Place 1 1 0 1 ∷ Emit 1 127 ∷ Run 1 4 ∷ Run 1 5 ∷ Leave 1 ∷ []) ++
    (first_hold 2 2 ++ Run 2 1 ∷ Run 2 2 ∷ Run 2 3 ∷ Place 2 1 0 1 ∷ Emit 2 127 ∷ Run 2 4 ∷ Run 2 5 ∷ Leave 2 ∷ []) ++
    Kernel 1 3 ∷ Run 1 6 ∷ Place 1 1 0 1 ∷ Emit 1 127 ∷ Run 1 7 ∷ Run 1 8 ∷ Leave 1 ∷ []

-- the second small texture is placed where there is room: with no age
abbrev pub two_small_journal : List Entry
two_small_journal =
    first_hold 1 1 ++ Run 1 1 ∷ Run 1 2 ∷ Run 1 3 ∷ Place 1 1 0 1 ∷ Emit 1 127 ∷ Run 1 4 ∷ Run 1 5 ∷ Place 1 2 0 1 ∷ Emit 1 32 ∷ Run 1 6 ∷
    Run 1 7 ∷ Emit 1 32 ∷ Run 1 8 ∷ Run 1 9 ∷ Leave 1 ∷ []

-- each texture takes the place of the other
abbrev pub small_and_large_journal : List Entry
small_and_large_journal =
    first_hold 1 1 ++ Run 1 1 ∷ Run 1 2 ∷ Run 1 3 ∷ Place 1 1 0 1 ∷ Emit 1 127 ∷ Run 1 4 ∷ Run 1 5 ∷ Place 1 2 0 1 ∷ Emit 1 32 ∷ Run 1 6 ∷
    Run 1 7 ∷ Place 1 1 0 1 ∷ Emit 1 32 ∷ Run 1 8 ∷ Run 1 9 ∷ Leave 1 ∷ []

-- the third texture frees the region that the others share
abbrev pub three_halves_journal : List Entry
three_halves_journal =
    first_hold 1 1 ++ Run 1 1 ∷ Run 1 2 ∷ Run 1 3 ∷ Place 1 1 0 1 ∷ Emit 1 127 ∷ Run 1 4 ∷ Run 1 5 ∷ Place 1 2 0 1 ∷ Emit 1 32 ∷ Run 1 6 ∷
    Run 1 7 ∷ Place 1 3 0 1 ∷ Emit 1 32 ∷ Run 1 8 ∷ Run 1 9 ∷ Leave 1 ∷ []

-- the fourth begins a second region, and the fifth goes into the first one again
abbrev pub five_small_journal : List Entry
five_small_journal =
    first_hold 1 1 ++ Run 1 1 ∷ Run 1 2 ∷ Run 1 3 ∷ Place 1 1 0 1 ∷ Emit 1 127 ∷ Run 1 4 ∷ Run 1 5 ∷ Place 1 2 0 1 ∷ Emit 1 32 ∷ Run 1 6 ∷
    Run 1 7 ∷ Place 1 3 0 1 ∷ Emit 1 32 ∷ Run 1 8 ∷ Run 1 9 ∷ Place 1 4 1 1 ∷ Emit 1 32 ∷ Run 1 10 ∷ Run 1 11 ∷ Place 1 5 0 1 ∷ Emit 1 32 ∷
    Run 1 12 ∷ Run 1 13 ∷ Leave 1 ∷ []

-- all groups at once, before the one triangle
abbrev pub cut_out_journal : List Entry
cut_out_journal = first_hold 1 1 ++ Run 1 1 ∷ Run 1 2 ∷ Emit 1 127 ∷ Run 1 3 ∷ Run 1 4 ∷ Leave 1 ∷ []

-- and the group of blending alone, before the second
abbrev pub blended_twice_journal : List Entry
blended_twice_journal =
    first_hold 1 1 ++ Run 1 1 ∷ Run 1 2 ∷ Emit 1 127 ∷ Run 1 3 ∷ Run 1 4 ∷ Emit 1 4 ∷ Run 1 5 ∷ Run 1 6 ∷ Leave 1 ∷ []

-- the colours of the pictures
abbrev pub red : Rgb
red = rgb 0xff 0 0

-- green
abbrev pub green : Rgb
green = rgb 0 0xff 0

-- blue
abbrev pub blue : Rgb
blue = rgb 0 0 0xff

-- black is 0, white 255
abbrev pub grey : ℕ → Rgb
grey v = rgb v v v

-- how a journal ends, by the check's count: frames, those that stood, and whether nothing is left to do
abbrev pub summary : Scene → List Entry → ℕ × ℕ × Bool
summary s journal = ((tally s journal).frames, (tally s journal).stood, is_whole s journal)

-- one frame, and then the changes
abbrev pub partly_covered_journal : List Entry
partly_covered_journal = first_hold 1 1 ++ Run 1 1 ∷ Run 1 2 ∷ Leave 1 ∷ Change 1 ∷ Change 2 ∷ []

-- so many changes
abbrev pub seven_changes : List Entry
seven_changes = Change 1 ∷ Change 2 ∷ Change 3 ∷ Change 4 ∷ Change 5 ∷ Change 6 ∷ Change 7 ∷ []

-- four greys in a row
abbrev pub row : ℕ → ℕ → ℕ → ℕ → List Rgb
row a b c d = grey a ∷ grey b ∷ grey c ∷ grey d ∷ []

-- why these changes are refused after so many changes, if they are
abbrev pub refusals_after : ℕ → List WindowChange → List (Option Refusal)
refusals_after n changes = map (λ change. refusal change (after moved_about (take n seven_changes)).stack) changes

-- nothing is emitted in the last hold
abbrev pub taken_again_journal : List Entry
taken_again_journal = first_hold 1 1 ++ Run 1 1 ∷ Emit 1 127 ∷ Run 1 2 ∷ Run 1 3 ∷ Leave 1 ∷ Change 1 ∷ Kernel 1 1 ∷ Run 1 4 ∷ Run 1 5 ∷ Leave 1 ∷ []

-- the server comes before the client that was stopped
abbrev pub stopped_journal : List Entry
stopped_journal = first_triangle ++ Run 1 3 ∷ Run 1 4 ∷ Leave 1 ∷ Change 1 ∷ Gone 2 ∷ []

-- the first texture stays while the second is placed
abbrev pub two_regions_journal : List Entry
two_regions_journal = first_hold 1 1 ++ Run 1 1 ∷ Run 1 2 ∷ Run 1 3 ∷ Place 1 1 0 1 ∷ Emit 1 127 ∷ Run 1 4 ∷ Run 1 5 ∷ Place 1 2 1 1 ∷ Emit 1 32 ∷
    Run 1 6 ∷ Run 1 7 ∷ Emit 1 32 ∷ Run 1 8 ∷ Run 1 9 ∷ Leave 1 ∷ []

-- the first three pixels of a window's row, in the first frame of these commands drawn alone
abbrev pub alone : List Command → ℕ → List (Option Rgb)
alone commands row = map (λ x. solo_frame (script 1 two_images commands) 1 (pos x) (pos row)) (range_with_len 0 3)

-- what the clear of these frames leaves
abbrev pub ground : Option Rgb
ground = Some (rgb 16 32 48)

-- the colour of the triangle's third corner
abbrev pub third : Option Rgb
third = Some (rgb 101 200 250)

-- three pixels of one colour
abbrev pub all_three : Option Rgb → List (Option Rgb)
all_three colour = colour ∷ colour ∷ colour ∷ []

-- three greys
abbrev pub greys : ℕ → ℕ → ℕ → List (Option Rgb)
greys a b c = Some (grey a) ∷ Some (grey b) ∷ Some (grey c) ∷ []

-- where a depth function lets the triangle be drawn over depth 24: of depth 8, 24 and 40
abbrev pub where_drawn : DepthFunc → List (Option Rgb)
where_drawn func = alone (probed (Setting_is.DepthFunc func ∷ [])) 0
