-- What is told of all ends of a scene: each picture, and each journal with the number of its picture.
use Rattle.std.specs.Prelude.{◌≡◌, ℕ, ◌+◌, List, [], ◌∷◌, ◌++◌, length, codes, Bool, true, false}
use Rattle.std.specs.Fmt.{decimal}
use Rattle.std.specs.List.{flat_map}
use Rattle.dri_base.specs.declared.scene.Scene.{Scene}
use Rattle.dri_explore.specs.Ends.{AreEnds, HasMore}
use Rattle.dri_explore.specs.declared.ends.End.{End}
use Rattle.dri_explore.specs.declared.ends.Ends.{Ends}
use Rattle.dri_journal.specs.Journals.{journal_text}
use Rattle.dri_ppm.specs.Ppm.{ppm}
use Rattle.dri_words.specs.Lines.{line_bytes}
use Rattle.dri_lab_run.specs.declared.status.LabStatus.{LabStatus}
use Rattle.dri_lab_run.specs.declared.status.LabStatus.TheVariants as lab

-- an end's block: the number of its picture, counted from 1, and its journal
abbrev pub end_block : End → List ℕ
end_block e = line_bytes (codes "picture" ∷ decimal (e.picture + 1) ∷ []) ++ journal_text e.journal

-- a run was cut, or none was
abbrev pub cut_word : Bool → List ℕ
cut_word true = codes "cut"
cut_word false = codes "whole"

-- how many journals and pictures there are, and whether a run was cut
abbrev pub last_line : ℕ → ℕ → Bool → List ℕ
last_line ends pictures cut = line_bytes (codes "journals" ∷ decimal ends ∷ codes "pictures" ∷ decimal pictures ∷ cut_word cut ∷ [])

-- the picture gains the images of all pictures that runs of at most so many events end with, and the notes a block for each end, and the last line
pub record GivesAll (most : ℕ) (s : Scene) (image text : List ℕ) : Type 0 where
  pub found : Ends
  pub are : AreEnds s most found
  pub picture : image ≡ flat_map (ppm s.width s.height) found.pictures
  pub notes : text ≡ flat_map end_block found.ends ++ last_line (length found.ends) (length found.pictures) found.cut

-- more than 10,000 runs of one number of events leave different journals or cores
abbrev pub RefusesAll : ℕ → Scene → LabStatus → Type 0
RefusesAll most s lab.TooMany = HasMore s most 10000
RefusesAll most s _ = ⊥
