-- One relation line of an accepted set: in which rows its receivers stand, and what its channels take.
use Prim.Native.Nat.{ℕ, ◌+◌, ◌-◌, ◌≤◌, ◌<◌}
use native.Mathlib.Omega.{arith}
use mathlib.Core.Path.{◌≡◌, refl, ap, ◌∙◌}
use mathlib.Core.Bool.{Bool, ◌&&◌}
use mathlib.Core.List.{List}
use lib.Dec.{leb, ltb}
use lib.ListN.{length}
use borrow.Author.Tests.{leb-true, le-leb, ltb-true, lt-ltb}
use Rattle.rules.specs.Sheet.{Sheet}
use Rattle.rules.specs.Relations.{Reach, reach_at}
use Rattle.rules.specs.Cover.{lowest, highest, receivers, carries, leads, component}
use Rattle.rules.specs.Order.{receiver_line}
use Rattle.rules.specs.Spread.{Put}
use Rattle.rules.proofs.Tests.{agree}
use Rattle.rules.specs.MeetsCover.{Carries, Reached}
use Rattle.rules.proofs.Cover.{reached}
use Rattle.form.proofs.Known.{upto_small}
use Rattle.keys.specs.Held.{RelationLine}
use Rattle.order.specs.Sorted.{nth}
use Rattle.records.specs.Coded.{coded_reach}
use Rattle.records.specs.declared.relation.Reach.{Reach as ReachValues}
use Rattle.receivers.specs.Rows.{Rows, first_row}
use Rattle.receivers.proofs.There.{stand, row_line_lem}
use Rattle.spread.specs.Asked.{Accepted}
use Rattle.spread.specs.RowLine.{row_line, Led}
use Rattle.spread.specs.Taken.{taken, between, line_in}
use Rattle.spread.specs.Puts.{Apart}
use Rattle.spread.proofs.Taken.{taken_as}
use Rattle.spread.proofs.Asked.{known_receivers, sound_line, all_there}

-- what the code knows of a reach
pub record Ranges (q : ReachValues) : Type 0 where
  pub first : 1 ≤ q.from
  pub channels : q.from ≤ q.upto
  pub most : q.upto < 100000000
  pub one : 1 ≤ q.step
  pub few : q.step ≤ 9

-- what the walk over the channels of line k, those before `end`, rests on: m places and n, a row for each channel, and what it takes
pub record Walk (r x : Sheet) (k : ℕ) (q : ReachValues) (o : List ℕ) (e end m n : ℕ) : Type 0 where
  pub coded : q ≡ coded_reach (reach_at x k)
  pub known : Ranges q
  pub last : end ≡ q.upto + 1
  pub lines : end ≤ m + 1
  pub components : end ≤ n + 1
  pub led : (c : ℕ) → q.from ≤ c → c < end → Led q o e c
  pub line : (c : ℕ) → q.from ≤ c → c < end → row_line o e (reach_at x k) c ≡ line_in r x k c
  pub small : (c : ℕ) → q.from ≤ c → c < end → component (reach_at x k) c ≤ 9

-- a number between two others, counted from the lower
from_lowest : (lo hi n : ℕ) → lo ≤ n → n ≤ hi → (n - lo < hi - lo + 1) × (lo + (n - lo) ≡ n)
from_lowest lo hi n a b = (omega arith, omega arith)

module _ (r x : Sheet) (ok : Accepted r x) (k : ℕ) (h : RelationLine x k) (q : ReachValues) (e : q ≡ coded_reach (reach_at x k)) where
  abbrev p : Reach
  p = reach_at x k

  pub ranges : Ranges q
  ranges =
      let w = sound_line r x ok k h in
      let u = upto_small 3 x ok.relations k h.0 in
      rw e (record { first = w.first; channels = w.channels; most = u; one = w.one; few = w.few })

  same_channels : (c : ℕ) → between q.from (q.upto + 1) c ≡ carries p c
  unfolding carries
  same_channels c =
      rw e
      (ap (λ (t : Bool). leb p.from c && t)
      (agree (ltb c (p.upto + 1)) (leb c p.upto)
      (λ t. let g = ltb-true c (p.upto + 1) t in le-leb c p.upto (omega arith))
      (λ t. let g = leb-true c p.upto t in lt-ltb c (p.upto + 1) (omega arith))))

  -- a slice after all its channels
  pub all_put : (put : Put) → Apart put → (v : ℕ → ℕ) (n c : ℕ) → c ≡ q.upto + 1 → (d l : List ℕ)
      → l ≡ taken put (between q.from c) v n d → l ≡ taken put (carries p) v n d
  all_put put w v n c z d l g =
      g ∙ ap (λ (m : ℕ). taken put (between q.from m) v n d) z
      ∙ taken_as put w (between q.from (q.upto + 1)) (carries p) v v n d (λ i _. same_channels (i + 1)) (λ i _ t. refl)

  -- a channel that it carries
  module _ (c : ℕ) (a : q.from ≤ c) (b : c < q.upto + 1) where
    carried : Carries p c
    carried = rw e at (let z : (q.from ≤ c) × (c ≤ q.upto) = (a, omega arith) in z)

    arrives : Reached p (leads p c) (component p c)
    arrives = reached x.layout.most_channel p (sound_line r x ok k h) c carried

    pub component_small : component p c ≤ 9
    component_small = let m = arrives.1.1 in let w = (sound_line r x ok k h).few in omega arith

    -- its receiver
    module _ (o : List ℕ) (v : Rows r o) (row : ℕ) (er : row ≡ first_row r o x k) where
      far : (leads p c - lowest p < receivers p) × (lowest p + (leads p c - lowest p) ≡ leads p c)
      unfolding receivers
      far = from_lowest (lowest p) (highest p) (leads p c) arrives.0.0 arrives.0.1

      inside : row + (leads p c - lowest p) < length o
      inside =
          rw er
          (stand r o (known_receivers r x ok) v x k ok.relations ok.alike h (all_there r x ok k h) (leads p c - lowest p) far.0).0

      led : Led q o row c
      led =
          let w = ranges in
          let t = w.most in
          record {
            reach = p;
            coded = e;
            begun = a;
            small = omega arith;
            one = w.one;
            above = arrives.0.0;
            inside = inside;
            few = let y = ok.receivers.few in let z = v.own (row + (leads p c - lowest p)) inside in omega arith;
          }

      pub row_is : row_line o row p c ≡ line_in r x k c
      row_is =
          ap (λ (i : ℕ). i + 1)
          (ap (λ (i : ℕ). nth o (i + (leads p c - lowest p))) er
          ∙ row_line_lem r o (known_receivers r x ok) v x k ok.relations ok.alike h (all_there r x ok k h) (leads p c - lowest p) far.0
          ∙ ap (receiver_line r p) far.1)

  pub walk : (o : List ℕ) → Rows r o → (row : ℕ) → row ≡ first_row r o x k → (m n : ℕ) → p.upto ≤ m → p.upto ≤ n
      → Walk r x k q o row (q.upto + 1) m n
  walk o v row er m n g h =
      let u = ap (λ (q : ReachValues). q.upto) e in
      record {
        coded = e;
        known = ranges;
        last = refl;
        lines = omega arith;
        components = omega arith;
        led = λ c a b. led c a b o v row er;
        line = λ c a b. row_is c a b o v row er;
        small = component_small;
      }
