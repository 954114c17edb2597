-- "What one relation line covers": its channels, its receivers, and how one leads to the other.
--   traces q         = how many channels: T - F + 1
--   carries q c      = channel c is one of them
--   lowest q, highest q = the least and the greatest of its receiver numbers, whichever way they are counted
--   receivers q      = how many receivers: the difference of the two, and 1
--   receiver_on q d   = the number of the receiver that is d on from the first, upwards or downwards
--   on_to q n         = how far on receiver number n is
--   covers q n       = receiver number n is one of them
--   leads q c        = the receiver number that channel c leads to
--   component q c    = the component that it leads to
--   channel_of q n m  = the channel of receiver number n and component m
--   meet p q         = both cover one receiver
use Rattle.std.specs.Prelude.{ℕ, ◌+◌, ◌-◌, ◌*◌, ◌/◌, ◌%◌, min, max, Bool, ◌&&◌, eqb, leb}
use Rattle.rules.specs.Places.{pick, some}
use Rattle.rules.specs.Names.{same_name}
use Rattle.rules.specs.Relations.{Reach}

unfoldable pub traces : Reach → ℕ
traces q = q.upto + 1 - q.from

unfoldable pub carries : Reach → ℕ → Bool
carries q c = leb q.from c && leb c q.upto

abbrev pub lowest : Reach → ℕ
lowest q = min q.from_receiver q.to_receiver

abbrev pub highest : Reach → ℕ
highest q = max q.from_receiver q.to_receiver

unfoldable pub receivers : Reach → ℕ
receivers q = highest q - lowest q + 1

unfoldable pub receiver_on : Reach → ℕ → ℕ
receiver_on q d = pick (leb q.from_receiver q.to_receiver) (q.from_receiver + d) (q.from_receiver - d)

unfoldable pub on_to : Reach → ℕ → ℕ
on_to q n = pick (leb q.from_receiver q.to_receiver) (n - q.from_receiver) (q.from_receiver - n)

unfoldable pub covers : Reach → ℕ → Bool
covers q n = leb (lowest q) n && leb n (highest q)

unfoldable pub leads : Reach → ℕ → ℕ
leads q c = receiver_on q ((c - q.from) / q.step)

unfoldable pub component : Reach → ℕ → ℕ
component q c = (c - q.from) % q.step + 1

unfoldable pub channel_of : Reach → ℕ → ℕ → ℕ
channel_of q n m = q.from + on_to q n * q.step + (m - 1)

unfoldable pub meet : Reach → Reach → Bool
meet p q =
    same_name p.receiver q.receiver
    && (eqb p.receiver_index q.receiver_index && some (receivers p) (λ d. covers q (receiver_on p d)))
