-- The receivers of R in their order, at the first places of an array.
--   sortable   = they can be put in order
--   all_room   = so many lines have room in an array of 9,999
--   rows_first = the places that the order counts, by themselves, are rows
use Prim.Native.Nat.{ℕ, ◌≤◌}
use native.Mathlib.Omega.{arith}
use mathlib.Core.List.{List}
use lib.Dec.{lit≤}
use lib.ListN.{length, take, replicate, length-replicate}
use Rattle.rules.specs.Sheet.{Sheet, most_lines}
use Rattle.keys.specs.Held.{KnownReceivers}
use Rattle.keys.specs.Keyed.{takes_at, key_at}
use Rattle.keys.specs.declared.By.TheVariants.{Receivers}
use Rattle.keys.proofs.Fit.{key_small}
use Rattle.order.specs.Listed.{InOrder, Sortable}
use Rattle.order.proofs.Taken.{order_taken}
use Rattle.receivers.specs.Rows.{Rows}

pub sortable : (r : Sheet) (o p : List ℕ) → KnownReceivers r → most_lines ≤ length o → most_lines ≤ length p → Sortable Receivers r o p
sortable r o p w h n =
    let few = w.0.few in (
      record { second = λ k. (key_small 1 r w.0 k Receivers).0; third = λ k. (key_small 1 r w.0 k Receivers).1 },
      (w.0.few, (omega arith, omega arith)),
    )

pub rows_first : (r : Sheet) (o : List ℕ) (m : ℕ) → InOrder Receivers r o m → (m ≤ length o) × Rows r (take m o)
rows_first r o m w = (w.room, order_taken (takes_at Receivers r) (key_at Receivers r) o m r.count w)

-- an array of the most lines
pub all_room : most_lines ≤ length {A = ℕ} (replicate 9999 0)
unfolding most_lines
all_room = rw (length-replicate {A = ℕ} 9999 0) (lit≤ tt)
