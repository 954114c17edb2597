-- The keys of lines, in the medium's own bytes, by which names are in order.
--   no_line, line_at f k    = columns that hold nothing; line k in its own bytes, or those
--   is_point_line L l       = a receiver or a shot; takes_line t L l = a line that has a key of that kind, by its characters
--   name_key bs third      = a name's two numbers, and a third
--   key_of t L l           = the key of a line: a point by name, number and index; a receiver by name, index and number; a relation line
--                           by record and tape
--   shot_key L l           = the key by which a relation line's shot stands among points
--   receiver_key L l n     = the key by which its receiver number n stands among receivers
use Rattle.std.specs.Prelude.{ℕ, ◌+◌, ◌*◌, Bool, not, ◌&&◌, List, ltb, take, drop, replicate}
use Rattle.rules.specs.Places.{pick}
use Rattle.rules.specs.Layout.{Layout, at}
use Rattle.rules.specs.Sheet.{Sheet}
use Rattle.rules.specs.Lines.{is_header, is_marker}
use Rattle.fields.specs.Packed.{packed}
use Rattle.fields.specs.Figures.{figures, low_index}
use Rattle.form.specs.Known.{owned}
use Rattle.keys.specs.declared.By.{By}
use Rattle.keys.specs.declared.By.TheVariants.{Points, Receivers, Records}
use Rattle.keys.specs.declared.Key.{Key}

abbrev pub no_line : List ℕ
no_line = replicate 80 0

unfoldable pub line_at : Sheet → ℕ → List ℕ
line_at f k = pick (ltb k f.count) (owned f k) no_line

unfoldable pub is_point_line : Layout → List ℕ → Bool
is_point_line L l = not (is_header l) && not (is_marker L l)

unfoldable pub takes_line : By → Layout → List ℕ → Bool
takes_line Points L l = is_point_line L l
takes_line Receivers L l = is_point_line L l
takes_line Records L l = not (is_header l)

abbrev pub name_key : List ℕ → ℕ → Key
name_key bs third = record { first = packed (take 8 bs); second = packed (drop 8 bs); third = third }

unfoldable pub key_of : By → Layout → List ℕ → Key
key_of Points L l = name_key (at l L.name) (256 * figures (at l L.point) + low_index (at l L.index))
key_of Receivers L l = name_key (at l L.name) (4294967296 * low_index (at l L.index) + figures (at l L.point))
key_of Records L l = record { first = figures (at l L.number); second = 0; third = packed (at l L.tape) }

unfoldable pub shot_key : Layout → List ℕ → Key
shot_key L l = name_key (at l L.source) (256 * figures (at l L.shot) + low_index (at l L.shot_index))

unfoldable pub receiver_key : Layout → List ℕ → ℕ → Key
receiver_key L l n = name_key (at l L.receiver) (4294967296 * low_index (at l L.receiver_index) + n)
