-- What is proved of the report (document 01, A small lexicon): how much of the input it looks at. proofs/Theorems.antt proves it.
-- Assumes nothing.
use Rattle.std.specs.Prelude.{ℕ, ◌<◌, ◌≡◌, List, take, get_or}
use Rattle.report.specs.Report.{report}

-- A report needs no more than the first 132,076 bytes of its input: two images of at most 65,535 bytes after their lengths, n, and 1,001
-- frames. With more than 1,000 frames it is refused by 11 or a lower number, however many follow.
abbrev pub CutReportsTheSame : Type 0
CutReportsTheSame = (input : List ℕ) → ((i : ℕ) → get_or input i 0 < 256) → report (take 132076 input) ≡ report input
