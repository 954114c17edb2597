-- "The spread table gets two lent slices": what it answers, and what stands in them afterwards.
--   highest_of x t n     = the record's highest covered channel; 0 where the record is absent
--   turns put n d       = d after put 0, then put 1, .. then put (n - 1)
--   place g i d         = d with g (i + 1) at place i, the place of channel i + 1
--   byte_place g i d     = the same of a byte slice, where a place is two bytes, low byte first
--   rule21              = "either spread slice is shorter than the record's highest channel"
--   spread              = the answer
--   slice put part      = what a slice holds afterwards, into which each turn puts that part of a channel's answer
--   spread_lines, spread_components = what the two slices hold afterwards
--   spread_bytes         = what the first holds where it is a byte slice
use Rattle.std.specs.Prelude.{ℕ, zero, suc, ◌+◌, ◌*◌, ◌/◌, ◌%◌, ◌&&◌, List, leb, set}
use Rattle.rules.specs.Places.{pick, greatest}
use Rattle.rules.specs.Plan.{Verdict, fine, refused, Plan, №, need, ◌before◌, run}
use Rattle.rules.specs.Sheet.{Sheet}
use Rattle.rules.specs.Lines.{is_data}
use Rattle.rules.specs.Relations.{reach_at}
use Rattle.rules.specs.Reaches.{of_record}
use Rattle.rules.specs.Check.{Answer, accepted, refusal, trace, channel, highest, header_line, no_trace, formed, rules, answer}
use Rattle.rules.specs.Questions.{record_asked, rule20}
use Rattle.rules.specs.Lookup.{found}

unfoldable pub highest_of : Sheet → List ℕ → ℕ → ℕ
highest_of x t n =
    greatest x.count (λ k. let q = reach_at x k in pick (is_data x k && of_record t n q) q.upto 0)

-- the R line and the component of an answer; 0 and 0 where there is no trace
unfoldable pub line_of : Answer → ℕ
line_of (trace l m d) = l
line_of (accepted a b c d e) = 0
line_of (refusal w) = 0
line_of (channel c) = 0
line_of (highest c) = 0
line_of (header_line l) = 0
line_of no_trace = 0
line_of formed = 0

unfoldable pub component_of : Answer → ℕ
component_of (trace l m d) = m
component_of (accepted a b c d e) = 0
component_of (refusal w) = 0
component_of (channel c) = 0
component_of (highest c) = 0
component_of (header_line l) = 0
component_of no_trace = 0
component_of formed = 0

unfoldable pub turns : (ℕ → List ℕ → List ℕ) → ℕ → List ℕ → List ℕ
turns put zero d = d
turns put (suc n) d = put n (turns put n d)

abbrev pub place : (ℕ → ℕ) → ℕ → List ℕ → List ℕ
place g i d = set d i (g (i + 1))

abbrev pub byte_place : (ℕ → ℕ) → ℕ → List ℕ → List ℕ
byte_place g i d = set (set d (2 * i) (g (i + 1) % 256)) (2 * i + 1) (g (i + 1) / 256)

unfoldable pub rule21 : ℕ → ℕ → ℕ → Plan
rule21 h a b = need (leb h a && leb h b) (№ 21 0 0 0)

-- the verdict, for slices of a and b places
unfoldable pub spread_verdict : Sheet → Sheet → Sheet → List ℕ → ℕ → ℕ → ℕ → Verdict
spread_verdict r s x t n a b =
    run (rule20 (record_asked x.layout t n) before rules r s x before rule21 (highest_of x t n) a b)

unfoldable pub spread : Sheet → Sheet → Sheet → List ℕ → ℕ → ℕ → ℕ → Answer
spread r s x t n a b = let h = highest (highest_of x t n) in answer (spread_verdict r s x t n a b) h

-- a refusal writes nothing
unfoldable pub unless_refused : Verdict → List ℕ → List ℕ → List ℕ
unless_refused fine new old = new
unless_refused (refused w) new old = old

abbrev pub Put : Type 0
Put = (ℕ → ℕ) → ℕ → List ℕ → List ℕ

unfoldable pub slice : Put → (Answer → ℕ) → Sheet → Sheet → Sheet → List ℕ → ℕ → ℕ → ℕ → List ℕ → List ℕ
slice put part r s x t n a b d =
    let new = turns (put (λ c. part (found r x t n c))) (highest_of x t n) d in
    unless_refused (spread_verdict r s x t n a b) new d

abbrev pub spread_lines : Sheet → Sheet → Sheet → List ℕ → ℕ → ℕ → ℕ → List ℕ → List ℕ
spread_lines = slice place line_of

abbrev pub spread_components : Sheet → Sheet → Sheet → List ℕ → ℕ → ℕ → ℕ → List ℕ → List ℕ
spread_components = slice place component_of

abbrev pub spread_bytes : Sheet → Sheet → Sheet → List ℕ → ℕ → ℕ → ℕ → List ℕ → List ℕ
spread_bytes = slice byte_place line_of
