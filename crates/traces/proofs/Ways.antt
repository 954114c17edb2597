-- The way back, by what the code finds in a line of R and a line of X.
use Prim.Native.Nat.{ℕ, ◌-◌, ◌≤◌, ◌<◌}
use native.Mathlib.Omega.{arith}
use mathlib.Core.Path.{◌≡◌, refl, sym, ap, ◌∙◌}
use mathlib.Core.Bool.{Bool, true, false, ◌&&◌}
use mathlib.Core.List.{List}
use lib.Dec.{leb}
use borrow.Author.Tests.{le-leb, lt-leb, lt-ltb, leb-true}
use Rattle.std.specs.Prelude.{None}
use Rattle.shots.specs.Places.{line_in}
use Rattle.traces.proofs.Sets.{none_there}
use Rattle.rules.specs.Places.{pick}
use Rattle.rules.specs.Text.{cols}
use Rattle.rules.specs.Numbers.{size, whole}
use Rattle.rules.specs.Layout.{sps93, at}
use Rattle.rules.specs.Sheet.{Sheet}
use Rattle.rules.specs.Lines.{is_point}
use Rattle.rules.specs.Points.{point, point_at, number_of}
use Rattle.rules.specs.Relations.{reach_at}
use Rattle.rules.specs.Cover.{covers, channel_of}
use Rattle.rules.specs.Reaches.{reaches_of, search}
use Rattle.rules.specs.Check.{channel, no_trace}
use Rattle.rules.specs.Lookup.{reaches, found_back}
use Rattle.rules.proofs.Tests.{clash, agree, and_is}
use Rattle.rules.proofs.Cover.{covers_is, carried}
use Rattle.rules.proofs.Order.{at_is}
use Rattle.rules.proofs.Traces.{leads_is}
use Rattle.lines.specs.Reading.{sheet_of}
use Rattle.lines.specs.declared.Reading.{Reading}
use Rattle.lines.proofs.Sheets.{layout_is}
use Rattle.lines.proofs.Tests.{untrue}
use Rattle.form.specs.Known.{owned, Known}
use Rattle.form.proofs.Known.{point_number, upto_small}
use Rattle.records.specs.Coded.{coded_reach}
use Rattle.records.specs.declared.relation.Reach.{Reach as Numbers}
use Rattle.keys.specs.Held.{RelationLine}
use Rattle.keys.specs.Compare.{same_key}
use Rattle.keys.specs.Keys.{receiver_key}
use Rattle.keys.specs.Keyed.{takes_at, key_at}
use Rattle.keys.specs.declared.By.TheVariants.{Receivers}
use Rattle.keys.specs.declared.Key.{Key}
use Rattle.keys.proofs.Lines.{takes_receiver}
use Rattle.keys.proofs.Points.{receiver_is}
use Rattle.spread.specs.Asked.{Accepted}
use Rattle.spread.proofs.Asked.{sound_line}
use Rattle.traces.specs.Steps.{ReceiverLine}

-- the number of the receiver in line i
pub number_read : (how : Reading) (r : List ℕ) (i : ℕ) (l : List ℕ) (n : ℕ) → l ≡ (sheet_of how r).row i → n ≡ size (whole (cols l 18 25))
    → n ≡ (point_at (sheet_of how r) i).number
unfolding point_at point number_of at sps93
number_read how r i l n e f = f ∙ (rw (layout_is how r, e))

-- relation line k and the receiver in line i
module _ (r x : Sheet) (i k m : ℕ) (wr : ReceiverLine r i) (wx : Known 3 x)
    (alike : r.rank ≡ x.rank) (h : RelationLine x k) (n : ℕ) (en : n ≡ (point_at r i).number) where
  abbrev reached : Bool
  reached = reaches (point_at r i) m (reach_at x k)

  pub number_small : n < 4294967296
  number_small = let a = point_number 1 r wr.0 i wr.1.0 in omega arith

  pub by_key : (b : Bool) → b ≡ covers (reach_at x k) n → b ≡ true → 1 ≤ m → (s : ℕ) → s ≡ (reach_at x k).step → m ≤ s → (y : Key)
      → y ≡ receiver_key x.layout (owned x k) n → (d : Bool) → d ≡ same_key (key_at Receivers r i) y → d ≡ reached
  by_key b e z o s es u y ey d ed =
      ed ∙ ap (same_key (key_at Receivers r i)) ey
      ∙ receiver_is 1 r wr.0 (λ z. omega arith) i wr.1.0 wr.1.1 x wx alike k h.0 h.1 n number_small
      ∙ agree _ _
      (λ t.
      let w = (at_is (reach_at x k).receiver n (reach_at x k).receiver_index (point_at r i)).0 t in
      let c = (covers_is (reach_at x k) (point_at r i).number).0 (ap (covers (reach_at x k)) (sym en) ∙ sym e ∙ z) in
      (leads_is (point_at r i) m (reach_at x k)).1 (sym w.0, (sym w.1.1, (c, (o, omega arith)))))
      (λ t.
      let w = (leads_is (point_at r i) m (reach_at x k)).0 t in
      (at_is (reach_at x k).receiver n (reach_at x k).receiver_index (point_at r i)).1 (sym w.0, (sym en, sym w.1.0)))

  -- u is whether the component is one of the increment's, and v whether the line covers the number too
  module _ (u v : Bool) (eu : u ≡ (leb 1 m && leb m (reach_at x k).step)) (ev : v ≡ (u && covers (reach_at x k) n)) where
    pub out_of_reach : v ≡ false → v ≡ reached
    out_of_reach z =
        z
        ∙ sym (untrue _
        (λ t.
        let w = ((leads_is (point_at r i) m (reach_at x k)).0 t).1.1 in
        let c : covers (reach_at x k) n ≡ true = ap (covers (reach_at x k)) en ∙ (covers_is (reach_at x k) (point_at r i).number).1 w.0 in
        let l = le-leb 1 m w.1.0 in
        let h = le-leb m (reach_at x k).step w.1.1 in
        clash (sym z ∙ ev ∙ (rw (eu, l, h, c) refl))))

    pub in_reach : v ≡ true → (y : Key) → y ≡ receiver_key x.layout (owned x k) n → (d : Bool) → d ≡ same_key (key_at Receivers r i) y → d ≡ reached
    in_reach z =
        let w = (and_is u (covers (reach_at x k) n)).0 (sym ev ∙ z) in
        let p = (and_is (leb 1 m) (leb m (reach_at x k).step)).0 (sym eu ∙ w.0) in
        by_key (covers (reach_at x k) n) refl w.1 (leb-true 1 m p.0) (reach_at x k).step refl (leb-true m (reach_at x k).step p.1)

-- the channel of a line that reaches the receiver
module _ (r x : Sheet) (ok : Accepted r x) (i k m : ℕ) (wr : ReceiverLine r i) (h : RelationLine x k)
    (t : reaches (point_at r i) m (reach_at x k) ≡ true) (q : Numbers) (f : q ≡ coded_reach (reach_at x k)) (n : ℕ) (en : n ≡ (point_at r i).number) where
  pub may_return : (n < 4294967296) × ((q.step < 256) × ((1 ≤ m) × (m < 4294967296)))
  may_return =
      let v = ((leads_is (point_at r i) m (reach_at x k)).0 t).1.1 in
      let b = point_number 1 r wr.0 i wr.1.0 in
      let d = (sound_line r x ok k h).few in
      let o = v.1.0 in
      let u = v.1.1 in
      rw f (omega arith, (omega arith, (o, omega arith)))

  pub channel_small : channel_of (reach_at x k) (point_at r i).number m < 4294967296
  channel_small =
      let v = ((leads_is (point_at r i) m (reach_at x k)).0 t).1.1 in
      let a = (carried _ (reach_at x k) (sound_line r x ok k h) (point_at r i).number m v).1 in
      let b = upto_small 3 x ok.relations k h.0 in
      omega arith

  pub channel_is : (c : ℕ) → c ≡ channel_of (reach_at x k) n m → c ≡ channel_of (reach_at x k) (point_at r i).number m
  channel_is c e = e ∙ ap (λ (n : ℕ). channel_of (reach_at x k) n m) en

-- found, or not
module _ (r x : Sheet) (t : List ℕ) (n j m : ℕ) where
  pub beyond_file : r.count < j → no_trace ≡ found_back r x t n j m
  unfolding found_back pick
  beyond_file l = rw (le-leb 1 j (omega arith), lt-leb j r.count l)

  module _ (o : 1 ≤ j) (l : j ≤ r.count) (i : ℕ) (z : i ≡ j - 1) (b : Bool) (q : b ≡ takes_at Receivers r i) where
    point_is : is_point r (j - 1) ≡ b
    point_is = ap (is_point r) (sym z) ∙ sym (takes_receiver r i (omega arith)) ∙ sym q

    pub no_point : b ≡ false → no_trace ≡ found_back r x t n j m
    unfolding found_back pick
    no_point y = rw (le-leb 1 j o, le-leb j r.count l, point_is, y)

    module _ (y : b ≡ true) where
      pub receiver_line_lem : Known 1 r → ReceiverLine r i
      receiver_line_lem w = (w, (omega arith, ap (is_point r) z ∙ point_is ∙ y))

      pub none_reaches : None ≡ line_in x.count (search (reaches_of x) t n (reaches (point_at r i) m)) → no_trace ≡ found_back r x t n j m
      unfolding found_back pick
      none_reaches e = rw (le-leb 1 j o, le-leb j r.count l, point_is, y, ← z, none_there x.count _ e)

      pub one_reaches : (k : ℕ) → k ≡ search (reaches_of x) t n (reaches (point_at r i) m) → k < x.count
          → channel (channel_of (reach_at x k) (point_at r i).number m) ≡ found_back r x t n j m
      unfolding found_back pick
      one_reaches k e g = rw (le-leb 1 j o, le-leb j r.count l, point_is, y, ← z, ← e, lt-ltb k x.count g)
