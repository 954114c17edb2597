-- What a slice holds, channel by channel, by how a place of it is put: the place of channel c is c - 1.
--   taken put p v m d     = d, but that each of its first m places whose channel c passes p is put v c
--   between a e c         = channel c is from a on and before e
--   here x t n k c        = line k of X is of that tape and record, and carries channel c
--   here_up_to x t n k c    = one of the first k lines is so
--   line_in r x k c        = the R line that relation line k leads channel c to
--   line_at, component_at   = the R line and the component that channel c of a record leads to; 0 where there is no trace
--   lines_by, components_by = a slice after the channels of relation line k
--   filled_lines, filled_components = after all channels up to the record's highest
use Rattle.std.specs.Prelude.{ℕ, zero, suc, ◌+◌, Bool, ◌&&◌, List, leb, ltb}
use Rattle.rules.specs.Places.{pick, some}
use Rattle.rules.specs.Sheet.{Sheet}
use Rattle.rules.specs.Lines.{is_data}
use Rattle.rules.specs.Relations.{reach_at}
use Rattle.rules.specs.Cover.{carries, leads, component}
use Rattle.rules.specs.Reaches.{reaches_of, of_record, search}
use Rattle.rules.specs.Order.{receiver_line}
use Rattle.rules.specs.Lookup.{found}
use Rattle.rules.specs.Spread.{line_of, highest_of, turns, place, Put}

unfoldable pub taken : Put → (ℕ → Bool) → (ℕ → ℕ) → ℕ → List ℕ → List ℕ
taken put p v zero d = d
taken put p v (suc m) d = let l = taken put p v m d in pick (p (m + 1)) (put v m l) l

abbrev pub between : ℕ → ℕ → ℕ → Bool
between a e c = leb a c && ltb c e

abbrev pub here : Sheet → List ℕ → ℕ → ℕ → ℕ → Bool
here x t n k c = is_data x k && (of_record t n (reach_at x k) && carries (reach_at x k) c)

abbrev pub here_up_to : Sheet → List ℕ → ℕ → ℕ → ℕ → Bool
here_up_to x t n k c = some k (λ j. here x t n j c)

abbrev pub line_in : Sheet → Sheet → ℕ → ℕ → ℕ
line_in r x k c = let q = reach_at x k in receiver_line r q (leads q c) + 1

abbrev pub line_at : Sheet → Sheet → List ℕ → ℕ → ℕ → ℕ
line_at r x t n c = line_of (found r x t n c)

unfoldable pub component_at : Sheet → List ℕ → ℕ → ℕ → ℕ
component_at x t n c =
    let k = search (reaches_of x) t n (λ q. carries q c) in
    pick (ltb k x.count) (component (reach_at x k) c) 0

abbrev pub lines_by : Put → Sheet → Sheet → ℕ → ℕ → List ℕ → List ℕ
lines_by put r x k = taken put (carries (reach_at x k)) (line_in r x k)

abbrev pub components_by : Sheet → ℕ → ℕ → List ℕ → List ℕ
components_by x k = taken place (carries (reach_at x k)) (component (reach_at x k))

abbrev pub filled_lines : Put → Sheet → Sheet → List ℕ → ℕ → List ℕ → List ℕ
filled_lines put r x t n = turns (put (line_at r x t n)) (highest_of x t n)

abbrev pub filled_components : Sheet → List ℕ → ℕ → List ℕ → List ℕ
filled_components x t n = turns (place (component_at x t n)) (highest_of x t n)
