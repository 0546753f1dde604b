-- The number and the line of each status. What the program's top calls end with too has the program's number and line.
use Rattle.std.specs.Prelude.{ℕ, List, ◌++◌, codes}
use Rattle.std.specs.Fmt.{decimal}
use Rattle.dri_run.specs.Notices as program
use Rattle.dri_run.specs.declared.status.Status.{Status}
use Rattle.dri_run.specs.declared.status.Status.TheVariants as answers
use Rattle.dri_lab_run.specs.declared.status.LabStatus.{LabStatus}
use Rattle.dri_lab_run.specs.declared.status.LabStatus.TheVariants as lab

-- the number that the program ends with
abbrev pub code_of : LabStatus → ℕ
code_of (lab.Common status) = program.code_of status
code_of (lab.NoEntry entries) = 8
code_of (lab.NoPlace width height) = 9
code_of lab.TooMany = 10

-- the program's line, but for other words
abbrev pub common_line : Status → List ℕ
common_line answers.Usage = codes "dri: usage: after E | pixel X Y | events | all N\n"
common_line status = program.line_of status

-- the line that is written to the notes
abbrev pub line_of : LabStatus → List ℕ
line_of (lab.Common status) = common_line status
line_of (lab.NoEntry entries) = codes "dri: no such entry: the journal has " ++ (decimal entries ++ codes "\n")
line_of (lab.NoPlace width height) = codes "dri: no such place: the screen is " ++ (decimal width ++ (codes " by " ++ (decimal height ++ codes "\n")))
line_of lab.TooMany = codes "dri: too many runs\n"
