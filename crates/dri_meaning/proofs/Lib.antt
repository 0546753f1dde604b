-- the frames of a journal, open, ended, run and stood
pub mod OpenFrames
pub mod EndedFrames
pub mod RanFrames
pub mod StoodSince
pub mod StoodFrames
-- whole journals
pub mod Wholes
-- what is drawn alone
mod PixelRules
mod SoloPixels
pub mod Painting
pub mod ScriptRanges
