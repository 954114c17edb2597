-- A question after the set's own refusals.
use Prim.Native.Nat.{ℕ, ◌+◌, ◌≤◌, ◌<◌}
use native.Mathlib.Omega.{arith}
use mathlib.Core.Path.{◌≡◌, refl, sym, ap, ap₂, ◌∙◌}
use mathlib.Core.Bool.{Bool, true, false, ◌&&◌}
use mathlib.Core.List.{List}
use lib.Dec.{ltb}
use borrow.Author.Tests.{lt-ltb}
use Rattle.std.specs.Prelude.{Some, None}
use Rattle.shots.specs.Places.{line_in}
use Rattle.rules.specs.Places.{pick}
use Rattle.rules.specs.Plan.{Refusal, fine, refused, №, ◌before◌, run}
use Rattle.rules.specs.Layout.{sps93}
use Rattle.rules.specs.Sheet.{Sheet, most_lines}
use Rattle.rules.specs.Points.{point_at, is_killed}
use Rattle.rules.specs.Relations.{reach_at}
use Rattle.rules.specs.Cover.{carries, leads, component}
use Rattle.rules.specs.Order.{line_of_point, receiver_line}
use Rattle.rules.specs.Reaches.{reaches_of, search}
use Rattle.rules.specs.Form.{form}
use Rattle.rules.specs.Check.{Answer as PaperAnswer, leads_to_killed, refusal, trace, no_trace, rules, verdict, answer}
use Rattle.rules.specs.Questions.{record_asked, channel_asked, rule20}
use Rattle.rules.specs.Lookup.{found}
use Rattle.rules.proofs.Least.{least_below}
use Rattle.rules.proofs.Breach.{run_met}
use Rattle.rules.proofs.Meets.{form_is}
use Rattle.rules.proofs.Meets.{verdict_meets}
use Rattle.rules.specs.MeetsCover.{Reached}
use Rattle.rules.proofs.Form.{data_is}
use Rattle.rules.proofs.Accepted.{receiver_there}
use Rattle.rules.proofs.Cover.{reached, carries_is}
use Rattle.lines.specs.Reading.{sheet_of}
use Rattle.lines.specs.declared.Reading.{Reading}
use Rattle.lines.proofs.Sheets.{layout_is, rank_same}
use Rattle.form.proofs.Known.{known, from_receiver_small, to_receiver_small, upto_small}
use Rattle.records.specs.Coded.{coded_reach}
use Rattle.records.specs.declared.relation.Reach.{Reach as Numbers}
use Rattle.keys.specs.Held.{RelationLine}
use Rattle.sets.proofs.Verdicts as set
use Rattle.spread.specs.Asked.{Accepted}
use Rattle.spread.proofs.Asked.{sound_line}
use Rattle.traces.specs.Steps.{traced_on}

module _ (how : Reading) (r s x : List ℕ) where
  -- R and X of an accepted set
  pub in_set : verdict (sheet_of how r) (sheet_of how s) (sheet_of how x) ≡ fine → Accepted (sheet_of how r) (sheet_of how x)
  unfolding verdict
  in_set ok =
      let m = (verdict_meets (sheet_of how r) (sheet_of how s) (sheet_of how x)).0 ok in
      record {
        shots = sheet_of how s;
        met = sym ok;
        receivers = known how 1 r (sym ((run_met (form 1 (sheet_of how r))).1 ((form_is 1 (sheet_of how r)).1 m.form_r)));
        relations = known how 3 x (sym ((run_met (form 3 (sheet_of how x))).1 ((form_is 3 (sheet_of how x)).1 m.form_x)));
        alike = rank_same how r x;
      }

  -- 20, then the set's own refusals, then what is found
  module _ (t : List ℕ) (n : ℕ) (q : Bool) (A : PaperAnswer) where
    abbrev Says : PaperAnswer → Type 0
    Says a =
        a
        ≡ answer
        (run (rule20 (record_asked (sheet_of how x).layout t n && q) before rules (sheet_of how r) (sheet_of how s) (sheet_of how x))) A

    module _ (a : Bool) (ea : a ≡ record_asked sps93 t n) where
      first : record_asked (sheet_of how x).layout t n ≡ a
      first = (rw (layout_is how x)) ∙ sym ea

      pub not_asked : a ≡ false → Says (refusal (№ 20 0 0 0))
      not_asked z = set.asked_not _ _ _ A _ (rw (first, z))

      module _ (ya : a ≡ true) (b : Bool) (eb : b ≡ q) where
        pub out_of_range : b ≡ false → Says (refusal (№ 20 0 0 0))
        out_of_range z = set.asked_not _ _ _ A _ (rw (first, ya, ← eb, z))

        module _ (yb : b ≡ true) where
          both : (record_asked (sheet_of how x).layout t n && q) ≡ true
          both = rw (first, ya, ← eb, yb)

          pub own_refusal : (w : Refusal) → verdict (sheet_of how r) (sheet_of how s) (sheet_of how x) ≡ refused w → Says (refusal w)
          own_refusal = set.own_refusal _ _ _ A _ both

          pub in_range : verdict (sheet_of how r) (sheet_of how s) (sheet_of how x) ≡ fine → Says A
          in_range = set.asked_fine _ _ _ A _ both

-- a channel by the layout of X
pub channel_on : (how : Reading) (x : List ℕ) (c : ℕ) (b : Bool) → b ≡ channel_asked sps93 c → b ≡ channel_asked (sheet_of how x).layout c
channel_on how x c b e = e ∙ (rw (layout_is how x))

-- found by a relation line, or not
pub none_there : (n q : ℕ) → None ≡ line_in n q → ltb q n ≡ false
unfolding pick
none_there n q = go (ltb q n)
  where
    go : (b : Bool) → None ≡ pick b (Some q) None → b ≡ false
    go true e = absurd cc
    go false e = refl

module _ (r x : Sheet) (t : List ℕ) (n c : ℕ) where
  pub none_carries : None ≡ line_in x.count (search (reaches_of x) t n (λ q. carries q c)) → no_trace ≡ found r x t n c
  unfolding found pick
  none_carries e = rw (none_there x.count _ e)

  pub one_carries : (k : ℕ) → k ≡ search (reaches_of x) t n (λ q. carries q c) → k < x.count → traced_on r (reach_at x k) c ≡ found r x t n c
  unfolding found pick traced_on
  one_carries k e l = rw (← e, lt-ltb k x.count l)

-- what the line that carries the channel leads to
module _ (r x : Sheet) (ok : Accepted r x) (k c : ℕ) (h : RelationLine x k) (y : carries (reach_at x k) c ≡ true) (q : Numbers)
    (f : q ≡ coded_reach (reach_at x k)) where
  arrives : Reached (reach_at x k) (leads (reach_at x k) c) (component (reach_at x k) c)
  arrives = reached _ (reach_at x k) (sound_line r x ok k h) c ((carries_is (reach_at x k) c).0 y)

  pub may_lead : (q.from ≤ c) × ((c < 4294967296) × (1 ≤ q.step))
  may_lead =
      let a = (carries_is (reach_at x k) c).0 y in
      let b = upto_small 3 x ok.relations k h.0 in
      rw f (a.0, (omega arith, (sound_line r x ok k h).one))

  pub leads_small : leads (reach_at x k) c < 100000000
  leads_small =
      let a = arrives.0.1 in
      let b = from_receiver_small 3 x ok.relations k h.0 in
      let d = to_receiver_small 3 x ok.relations k h.0 in
      omega arith

  pub component_small : component (reach_at x k) c ≤ 9
  component_small =
      let a = arrives.1.1 in
      let b = (sound_line r x ok k h).few in
      omega arith

  pub line_small : (n : ℕ) → receiver_line r (reach_at x k) n ≤ 9999
  unfolding receiver_line line_of_point most_lines
  line_small n = let a : receiver_line r (reach_at x k) n ≤ r.count = least_below r.count _ in let b = ok.receivers.few in omega arith

  pub leads_inside : (n j : ℕ) → n ≡ leads (reach_at x k) c → j ≡ receiver_line r (reach_at x k) n → j < r.count
  unfolding verdict
  leads_inside n j en ej =
      let m = (verdict_meets r ok.shots x).0 (sym ok.met) in
      let a = (receiver_there r ok.shots x m k (leads (reach_at x k) c) h.0 ((data_is x k).0 h.1) arrives.0).0 in
      let e = ej ∙ ap (receiver_line r (reach_at x k)) en in
      omega arith

  pub leads_there : (n m j : ℕ) (d : Bool) → n ≡ leads (reach_at x k) c → m ≡ component (reach_at x k) c → j ≡ receiver_line r (reach_at x k) n
      → d ≡ is_killed (point_at r j) → trace (j + 1) m d ≡ traced_on r (reach_at x k) c
  unfolding traced_on leads_to_killed
  leads_there n m j d en em ej ed =
      let e = ej ∙ ap (receiver_line r (reach_at x k)) en in
      ap₂ (λ (i m : ℕ). trace (i + 1) m d) e em
      ∙ ap (trace (receiver_line r (reach_at x k) (leads (reach_at x k) c) + 1) (component (reach_at x k) c))
      (ed ∙ ap (λ (i : ℕ). is_killed (point_at r i)) e)
