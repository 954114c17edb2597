-- One line of a file, read for a host that merges: "20 for a medium, a letter or a line that is not there; 3 to 6 of that line with its place".
--   line_stands f l    = line l of the file, from 1, is there and is no header line
--   one_line ok i f l  = 20 unless ok and the line stands, then 3 to 6 of it as a line of file i
--   point_verdict b f l, relation_verdict f l = the verdict on a line of R or S, by its letter, and on one of X
use Rattle.std.specs.Prelude.{ℕ, ◌-◌, Bool, true, ◌&&◌, leb}
use Rattle.rules.specs.Plan.{Plan, Verdict, file_r, file_s, file_x, ◌before◌, run}
use Rattle.rules.specs.Sheet.{Sheet, most_lines}
use Rattle.rules.specs.Lines.{kind_of, is_data}
use Rattle.rules.specs.Form.{line_fits}
use Rattle.rules.specs.Questions.{rule20}

unfoldable pub line_stands : Sheet → ℕ → Bool
line_stands f l = (leb 1 l && leb l most_lines) && (leb l f.count && is_data f (l - 1))

unfoldable pub one_line : Bool → ℕ → Sheet → ℕ → Plan
one_line ok i f l = rule20 (ok && line_stands f l) before line_fits i f (l - 1)

-- R or S
abbrev pub of_points : ℕ → Bool
of_points i = leb file_r i && leb i file_s

unfoldable pub point_verdict : ℕ → Sheet → ℕ → Verdict
point_verdict b f l = run (one_line (of_points (kind_of b)) (kind_of b) f l)

unfoldable pub relation_verdict : Sheet → ℕ → Verdict
relation_verdict f l = run (one_line true file_x f l)
