-- A world: all that the actors share and keep, but for the lock word, the queue and who is dying.
use Rattle.std.specs.Prelude.{Bool, List, None, Option, false, if◌then◌else◌, ℕ, ◌==◌}
use Rattle.dri_base.specs.States.{default_state}
use Rattle.dri_base.specs.declared.colour.Pixel.{Pixel}
use Rattle.dri_base.specs.declared.colour.Rgb.{Rgb}
use Rattle.dri_base.specs.declared.scene.Scene.{Scene}
use Rattle.dri_base.specs.declared.scene.Window.{Window}
use Rattle.dri_base.specs.declared.state.Registers.{Registers}
use Rattle.dri_core.specs.Privates.{Private, opening_part}
use Rattle.dri_base.specs.Scenes.{commands_of, window_of}
use Rattle.dri_core.specs.Solo.{blank}
use Rattle.dri_model.specs.Heaps.{Heap}
use Rattle.dri_model.specs.Stacks.{clips, ground_colour, top}
use Rattle.dri_model.specs.Words.{registers_for}

-- what the actors share and keep
pub record World : Type 0 where
  -- the client that holds, if one does
  pub holder : Option ℕ
  -- the context that the last hold left
  pub left : ℕ
  -- the context that last took the card over
  pub owner : ℕ
  -- the regions of texture memory, with their ages
  pub heap : Heap
  -- from top to bottom
  pub stack : List Window
  -- the shared stamps, by window number
  pub stamps : ℕ → ℕ
  -- the last stamp that was given
  pub counter : ℕ
  -- the number of changes made
  pub made : ℕ
  -- the private parts, by client number
  pub client : ℕ → Private
  -- the card's registers
  pub registers : Registers
  -- the card's texture memory, by byte
  pub memory : ℕ → ℕ
  -- what is shown, by column and row of the screen
  pub front : ℕ → ℕ → Rgb
  -- what is drawn, with its depth
  pub back : ℕ → ℕ → Pixel

-- the private parts, with this one for client c
abbrev pub put : (ℕ → Private) → ℕ → Private → ℕ → Private
put f c p k = if k == c then p else f k

-- the world at the opening
abbrev pub opening : Scene → World
opening s = record {
  holder = None;
  left = 1;
  owner = 0;
  heap = record { global = 0; used = λ k. false; shared = λ k. false; age = λ k. 0 };
  stack = s.windows;
  stamps = λ n. 1;
  counter = 1;
  made = 0;
  client = λ c. opening_part (commands_of s c);
  registers = registers_for default_state None;
  memory = λ a. 0;
  front = λ x y. ground_colour s.root (top s.windows x y);
  back = λ x y. blank;
}

-- the current clips of client c's window
abbrev pub clips_in : Scene → World → ℕ → ℕ → ℕ → Bool
clips_in s w c = clips s.width s.height w.stack (window_of s c)
