-- 20: "a question out of range".
--   record_asked L t n   = a tape and a record that can be asked for
--   channel_asked L c    = a channel
--   line_asked j         = an R line
--   component_asked m    = a component
--   rule20 ok           = the refusal of that number, unless the question is in range
use Rattle.std.specs.Prelude.{ℕ, ◌+◌, ◌-◌, Bool, ◌&&◌, List, eqb, leb, length, get_or}
use Rattle.rules.specs.Places.{every}
use Rattle.rules.specs.Plan.{Plan, №, need}
use Rattle.rules.specs.Kinds.{starts_non_blank, fits}
use Rattle.rules.specs.Layout.{Layout}
use Rattle.rules.specs.Sheet.{most_lines}
use Rattle.rules.specs.Disc.{printable}

unfoldable pub record_asked : Layout → List ℕ → ℕ → Bool
record_asked L t n =
    eqb (length t) (L.tape.last + 1 - L.tape.first)
    && (every (length t) (λ i. printable (get_or t i 0)) && (fits starts_non_blank t && leb n L.most_record))

unfoldable pub channel_asked : Layout → ℕ → Bool
channel_asked L c = leb 1 c && leb c L.most_channel

unfoldable pub line_asked : ℕ → Bool
line_asked j = leb 1 j && leb j most_lines

unfoldable pub component_asked : ℕ → Bool
component_asked m = leb 1 m && leb m 9

unfoldable pub rule20 : Bool → Plan
rule20 ok = need ok (№ 20 0 0 0)
