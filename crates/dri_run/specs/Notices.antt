-- The number and the line of each status.
use Rattle.std.specs.Prelude.{ℕ, List, [], ◌++◌, codes}
use Rattle.std.specs.Fmt.{decimal}
use Rattle.dri_words.specs.declared.reason.Reason.{Reason}
use Rattle.dri_words.specs.declared.reason.Reason.TheVariants as reasons
use Rattle.dri_run.specs.declared.status.Status.{Status}
use Rattle.dri_run.specs.declared.status.Status.TheVariants as answers

-- the number that the program ends with
abbrev pub code_of : Status → ℕ
code_of answers.Done = 0
code_of answers.Usage = 1
code_of (answers.Refused line reason) = 2
code_of answers.TooLong = 3
code_of answers.ReadFault = 4
code_of answers.WriteFault = 5
code_of (answers.NotARun entry) = 6
code_of answers.OutOfMemory = 7

-- the word for a reason
abbrev pub reason_word : Reason → List ℕ
reason_word reasons.Shape = codes "shape"
reason_word reasons.Range = codes "range"
reason_word reasons.Unknown = codes "unknown"
reason_word reasons.Twice = codes "twice"
reason_word reasons.Order = codes "order"
reason_word reasons.Limit = codes "limit"
reason_word reasons.Heap = codes "heap"
reason_word reasons.Ended = codes "ended"
reason_word reasons.Frame = codes "frame"

-- the line that is written to the notes
abbrev pub line_of : Status → List ℕ
line_of answers.Done = []
line_of answers.Usage = codes "dri: usage: turns | run | solo C K | check | make N | sarea | flip | ring N | many | card16\n"
line_of (answers.Refused line reason) = codes "dri: line " ++ (decimal line ++ (codes ": " ++ (reason_word reason ++ codes "\n")))
line_of answers.TooLong = codes "dri: too long\n"
line_of answers.ReadFault = codes "dri: read failed\n"
line_of answers.WriteFault = codes "dri: write failed\n"
line_of (answers.NotARun entry) = codes "dri: not a run: entry " ++ (decimal entry ++ codes "\n")
line_of answers.OutOfMemory = codes "dri: out of memory\n"
