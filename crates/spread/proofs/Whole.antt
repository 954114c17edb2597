-- A whole record: its relation lines one by one, and what a slice holds after the last.
use Prim.Native.Nat.{ℕ, ◌+◌, ◌≤◌, ◌<◌}
use native.Mathlib.Numerals.{add-one}
use native.Mathlib.Omega.{arith}
use mathlib.Core.Path.{◌≡◌, refl, sym, ap, ◌∙◌}
use mathlib.Core.Logic.Iff
use mathlib.Core.Logic.{◌↔◌}
use mathlib.Core.Bool.{Bool, true, false, ◌&&◌}
use mathlib.Core.List.{List}
use lib.Dec.{ltb}
use Rattle.rules.specs.Places.{pick, some}
use Rattle.rules.specs.Sheet.{Sheet}
use Rattle.rules.specs.Lines.{is_data}
use Rattle.rules.specs.Relations.{reach_at}
use Rattle.rules.specs.Cover.{carries}
use Rattle.rules.specs.Reaches.{reaches_of, of_record, search}
use Rattle.rules.specs.Check.{Answer, no_trace}
use Rattle.rules.specs.Lookup.{found}
use Rattle.rules.specs.Spread.{component_of, highest_of, turns, Put}
use Rattle.rules.proofs.Tests.{clash, and_is, some_is}
use Rattle.rules.proofs.Steps.{some_none}
use Rattle.rules.specs.MeetsForm.{Data}
use Rattle.rules.proofs.Form.{data_is}
use Rattle.rules.specs.MeetsSet.{OfRecord}
use Rattle.rules.proofs.Order.{of_record_is}
use Rattle.rules.specs.MeetsCover.{Carries}
use Rattle.rules.proofs.Cover.{carries_is}
use Rattle.rules.specs.MeetsQuestions.{Of}
use Rattle.rules.proofs.Traces.{given, found_trace, not_carried}
use Rattle.rules.proofs.Spreads.{highest_is}
use Rattle.lines.proofs.Tests.{untrue}
use Rattle.form.specs.Known.{Known}
use Rattle.form.proofs.Known.{upto_small}
use Rattle.spread.specs.declared.wanted.Wanted.{Wanted}
use Rattle.spread.specs.Asked.{Asked, wanted_of, is_of, Accepted}
use Rattle.spread.specs.Taken.{taken, here, here_up_to, component_at}
use Rattle.spread.specs.Puts.{Apart}
use Rattle.spread.proofs.Taken.{none_taken, taken_as, taken_then, all_taken}
use Rattle.spread.proofs.Asked.{is_of_lem, meets}

-- the component of an answer does not ask R
pub component_at_lem : (r x : Sheet) (t : List ℕ) (n c : ℕ) → component_of (found r x t n c) ≡ component_at x t n c
unfolding found component_at component_of pick
component_at_lem r x t n c = go (ltb (search (reaches_of x) t n (λ q. carries q c)) x.count)
  where
    k : ℕ
    k = search (reaches_of x) t n (λ q. carries q c)

    go : (b : Bool) → component_of (pick b (given r (reach_at x k) c) no_trace) ≡ pick b (component_of (given r (reach_at x k) c)) 0
    go true = refl
    go false = refl

here_is : (x : Sheet) (t : List ℕ) (n k c : ℕ)
    → (here x t n k c ≡ true) ↔ (Data x k × (OfRecord t n (reach_at x k) × Carries (reach_at x k) c))
here_is x t n k c = simp (and_is, data_is, of_record_is, carries_is) Iff.rfl

not_both : (a b c : Bool) → (a && b) ≡ false → (a && (b && c)) ≡ false
not_both true true c e = clash (sym e)
not_both true false c e = refl
not_both false b c e = refl

-- line k, by whether it is of the record
module _ (x : Sheet) (t : List ℕ) (n : ℕ) (known : Known 3 x) (asked : Asked t n) (w : Wanted) (ew : w ≡ wanted_of t n)
    (k : ℕ) (h : k < x.count) (b : Bool) (eb : b ≡ is_of x w k) where
  is_here : b ≡ (is_data x k && of_record t n (reach_at x k))
  is_here = eb ∙ ap (λ (v : Wanted). is_of x v k) ew ∙ is_of_lem x known t n asked k h

  module _ (put : Put) (pl : Apart put) (v : ℕ → ℕ) (m : ℕ) (d l : List ℕ) (inv : l ≡ taken put (here_up_to x t n k) v m d) where
    more_put : (l' : List ℕ) → l' ≡ taken put (here x t n k) v m l → l' ≡ taken put (here_up_to x t n (k + 1)) v m d
    unfolding some
    more_put l' e =
        e ∙ ap (taken put (here x t n k) v m) inv ∙ taken_then put pl (here_up_to x t n k) (here x t n k) v m d
        ∙ taken_as put pl _ (here_up_to x t n (k + 1)) v v m d (λ i _. rw (add-one k)) (λ i _ _. refl)

    pub line_off : b ≡ false → l ≡ taken put (here_up_to x t n (k + 1)) v m d
    line_off e = more_put l (none_taken put (here x t n k) v m l (λ i _. not_both (is_data x k) _ _ (sym is_here ∙ e)))

  module _ (e : b ≡ true) where
    both : (is_data x k ≡ true) × (of_record t n (reach_at x k) ≡ true)
    both = (and_is (is_data x k) (of_record t n (reach_at x k))).0 (sym is_here ∙ e)

    of : Of x t n k
    of = ((data_is x k).0 both.0, (of_record_is t n (reach_at x k)).0 both.1)

    pub relation_on : is_data x k ≡ true
    relation_on = both.0

    pub room_on : (m : ℕ) → highest_of x t n ≤ m → (reach_at x k).upto ≤ m
    room_on m l = (highest_is x t n m).0 l k h of

    pub line_on : (r : Sheet) → Accepted r x → (put : Put) → Apart put → (part : Answer → ℕ) (u v : ℕ → ℕ)
        → ((c : ℕ) → part (given r (reach_at x k) c) ≡ u c) → ((c : ℕ) → part (found r x t n c) ≡ v c) → (m : ℕ) (d l l' : List ℕ)
        → l ≡ taken put (here_up_to x t n k) v m d → l' ≡ taken put (carries (reach_at x k)) u m l → l' ≡ taken put (here_up_to x t n (k + 1)) v m d
    line_on r ok put pl part u v eu ev m d l l' inv g =
        more_put put pl v m d l inv l'
        (g
        ∙ taken_as put pl (carries (reach_at x k)) (here x t n k) u v m l (λ i _. let y = both.0 in let z = both.1 in rw (y, z))
        (λ i _ z.
        let a = (here_is x t n k (i + 1)).0 z in
        sym (eu (i + 1)) ∙ ap part (sym (found_trace r ok.shots x (meets r x ok) t n (i + 1) k h of a.1.1)) ∙ ev (i + 1)))

pub highest_small : (x : Sheet) (t : List ℕ) (n : ℕ) → Known 3 x → highest_of x t n ≤ 99999999
highest_small x t n w = (highest_is x t n 99999999).1 (λ k h o. let u = upto_small 3 x w k h in omega arith)

pub no_line_lem : (put : Put) (x : Sheet) (t : List ℕ) (n : ℕ) (v : ℕ → ℕ) (m : ℕ) (d : List ℕ) → d ≡ taken put (here_up_to x t n 0) v m d
no_line_lem put x t n v m d = none_taken put (here_up_to x t n 0) v m d (λ i _. some_none (λ j. here x t n j (i + 1)))

-- after the last line: each place up to the highest channel has its channel's value
module _ (r x : Sheet) (t : List ℕ) (n : ℕ) (part : Answer → ℕ) (zero : part no_trace ≡ 0) (v : ℕ → ℕ)
    (ev : (c : ℕ) → part (found r x t n c) ≡ v c) where
  high_none : (i : ℕ) → highest_of x t n ≤ i → here_up_to x t n x.count (i + 1) ≡ false
  high_none i h =
      untrue _
      (λ e.
      let w = (some_is x.count (λ j. here x t n j (i + 1))).0 e in
      let y = (here_is x t n w.0 (i + 1)).0 w.2 in
      let u = (highest_is x t n (highest_of x t n)).0 (omega arith) w.0 w.1 (y.0, y.1.0) in
      let z = y.1.1.1 in
      omega arith)

  uncarried : (c : ℕ) → here_up_to x t n x.count c ≡ false → v c ≡ 0
  uncarried c f =
      sym (ev c)
      ∙ ap part
      ((not_carried r x t n c).1
      (λ k h o y. clash (sym f ∙ (some_is x.count (λ j. here x t n j c)).1 (k, h, (here_is x t n k c).1 (o.0, (o.1, y))))))
      ∙ zero

  pub whole : (put : Put) → Apart put → (h m : ℕ) → h ≡ highest_of x t n → h ≤ m → (d l e : List ℕ) → l ≡ turns (put (λ _. 0)) h d
      → e ≡ taken put (here_up_to x t n x.count) v m l → e ≡ turns (put v) (highest_of x t n) d
  whole put pl h m q g d l e el ee =
      all_taken put pl (here_up_to x t n x.count) v h m d l e g (λ i a _. high_none i (omega arith)) uncarried el ee
      ∙ ap (λ (i : ℕ). turns (put v) i d) q
