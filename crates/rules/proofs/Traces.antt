-- Demand 3 of what is found in an accepted set: the lookup's answer and the way back.
--   Arrives t n c l m      = channel c leads to component m of the receiver in R line l, and back
use Prim.Native.Nat.{ℕ, ◌+◌, ◌-◌, ◌≤◌, ◌<◌}
use native.Mathlib.Omega.{arith}
use mathlib.Core.Path.{◌≡◌, refl, sym, ap, ap₂, ◌∙◌, subst, subst₂}
use mathlib.Core.Logic.Iff
use mathlib.Core.Logic.{◌↔◌, ◌⊎◌, inl, inr, ⊎_elim}
use mathlib.Core.Bool.{Bool, true, false, ◌&&◌, and-false}
use mathlib.Core.List.{List}
use lib.Dec.{leb}
use borrow.Author.Tests.{lt-ltb, le-ltb}
use Rattle.rules.specs.Places.{pick}
use Rattle.rules.specs.Sheet.{Sheet, most_lines}
use Rattle.rules.specs.Lines.{is_point}
use Rattle.rules.specs.Points.{Point as PointValues, point_at, is_killed}
use Rattle.rules.specs.Relations.{Reach, reach_at}
use Rattle.rules.specs.Cover.{carries, leads, component, channel_of}
use Rattle.rules.specs.Reaches.{reaches_of, search}
use Rattle.rules.specs.Order.{receiver_line}
use Rattle.rules.specs.Check.{Answer, leads_to_killed, trace, channel, no_trace}
use Rattle.rules.specs.Lookup.{found, found_back, reaches}
use Rattle.rules.specs.MeetsCover.{Carries, Reached}
use Rattle.rules.specs.MeetsSet.{Receiver}
use Rattle.rules.specs.Meets.{Meets}
use Rattle.rules.specs.MeetsQuestions.{Of, Stands, Leads, Uncovered, Unreached}
use Rattle.rules.proofs.Tests.{says, clash}
use Rattle.rules.proofs.Form.{point_is}
use Rattle.rules.proofs.Cover.{covers_is, carries_is, reached, channel_back, carried, leads_back, component_back}
use Rattle.rules.proofs.Search.{Found, Absent, search_is, search_first}
use Rattle.rules.proofs.Accepted.{receiver_line_lem, sound, one_channel, one_receiver, receiver_there}

abbrev pub given : Sheet → Reach → ℕ → Answer
given r q c = trace (receiver_line r q (leads q c) + 1) (component q c) (leads_to_killed r q c)

-- a channel: what one relation line that carries it gives, or nothing where none carries it
pub found_view : (r x : Sheet) (t : List ℕ) (n c : ℕ)
    → ((k : ℕ) × Found x t n (λ q. carries q c) k × (found r x t n c ≡ given r (reach_at x k) c))
    ⊎ (Absent x t n (λ q. carries q c) × (found r x t n c ≡ no_trace))
unfolding found pick
found_view r x t n c =
    ⊎_elim (λ w. inl (search (reaches_of x) t n (λ q. carries q c), w, rw (lt-ltb _ _ w.0)))
    (λ w.
    let l : x.count ≤ search (reaches_of x) t n (λ q. carries q c) = let e = w.0 in omega arith in
    inr (w.1, rw (le-ltb _ _ l)))
    (search_is x t n (λ q. carries q c))

pub leads_is : (p : PointValues) (m : ℕ) (q : Reach) → (reaches p m q ≡ true) ↔ Leads p m q
unfolding reaches
leads_is p m q = simp (says, covers_is) Iff.rfl

stands_is : (r : Sheet) (j : ℕ) → (leb 1 j && (leb j r.count && is_point r (j - 1)) ≡ true) ↔ Stands r j
stands_is r j = simp (says, point_is) Iff.rfl

abbrev View : Sheet → Sheet → List ℕ → ℕ → ℕ → ℕ → Type 0
View r x t n j m =
    (Stands r j
    × ((k : ℕ) × Found x t n (reaches (point_at r (j - 1)) m) k
    × (found_back r x t n j m ≡ channel (channel_of (reach_at x k) (point_at r (j - 1)).number m))))
    ⊎ ((Stands r j → Absent x t n (reaches (point_at r (j - 1)) m)) × (found_back r x t n j m ≡ no_trace))

pub back_view : (r x : Sheet) (t : List ℕ) (n j m : ℕ) → View r x t n j m
unfolding found_back pick
back_view r x t n j m = go (leb 1 j && (leb j r.count && is_point r (j - 1))) refl (search_is x t n p)
  where
    p : Reach → Bool
    p = reaches (point_at r (j - 1)) m

    go : (b : Bool) → leb 1 j && (leb j r.count && is_point r (j - 1)) ≡ b
        → Found x t n p (search (reaches_of x) t n p) ⊎ ((search (reaches_of x) t n p ≡ x.count) × Absent x t n p) → View r x t n j m
    go true e (inl w) = inl ((stands_is r j).0 e, (search (reaches_of x) t n p, w, rw (e, lt-ltb _ _ w.0)))
    go false e (inl w) = inr ((λ h. clash (sym e ∙ (stands_is r j).1 h)), rw e)
    go b e (inr w) =
        let l : x.count ≤ search (reaches_of x) t n p = let z = w.0 in omega arith in
        inr ((λ h. w.1), rw (le-ltb _ _ l, and-false))

-- what an answer tells
pub traced : (r x : Sheet) (t : List ℕ) (n c l m : ℕ) (d : Bool) → found r x t n c ≡ trace l m d
    → (k : ℕ) × Found x t n (λ q. carries q c) k × (receiver_line r (reach_at x k) (leads (reach_at x k) c) + 1 ≡ l)
    × (component (reach_at x k) c ≡ m)
traced r x t n c l m d e =
    ⊎_elim (λ w. let f = w.2 in (w.0, w.1, (cc), (cc)))
    (λ w. let f = w.1 in let z : ◌≡◌ {A = ℕ} 0 1 = cc in absurd (omega arith)) (found_view r x t n c)

pub returned : (r x : Sheet) (t : List ℕ) (n c j m : ℕ) → found_back r x t n j m ≡ channel c
    → Stands r j × ((k : ℕ) × Found x t n (reaches (point_at r (j - 1)) m) k × (channel_of (reach_at x k) (point_at r (j - 1)).number m ≡ c))
returned r x t n c j m e =
    ⊎_elim (λ w. let f = w.1.2 in (w.0, (w.1.0, w.1.1, (cc))))
    (λ w. let f = w.1 in let z : ◌≡◌ {A = ℕ} 0 1 = cc in absurd (omega arith)) (back_view r x t n j m)

-- the mark is that of the receiver line that is answered
pub marked : (r x : Sheet) (t : List ℕ) (n c l m : ℕ) (d : Bool) → found r x t n c ≡ trace l m d → d ≡ is_killed (point_at r (l - 1))
unfolding leads_to_killed
marked r x t n c l m d e =
    ⊎_elim
    (λ w.
    let f = w.2 in
    let j = receiver_line r (reach_at x w.0) (leads (reach_at x w.0) c) in
    let y : j + 1 ≡ l = cc in
    let z : is_killed (point_at r j) ≡ d = cc in
    sym z ∙ ap (λ (i : ℕ). is_killed (point_at r i)) (let q : j ≡ l - 1 = omega arith in q))
    (λ w. let f = w.1 in let z : ◌≡◌ {A = ℕ} 0 1 = cc in absurd (omega arith)) (found_view r x t n c)

-- no trace, exactly where no line carries the channel; no way back, exactly where none leads to the receiver
pub not_carried : (r x : Sheet) (t : List ℕ) (n c : ℕ)
    → (found r x t n c ≡ no_trace) ↔ Uncovered x t n c
not_carried r x t n c = (
  λ e k h o u.
      ⊎_elim (λ w. let f = w.2 in let z : ◌≡◌ {A = ℕ} 0 1 = cc in omega arith) (λ w. w.0 k h o ((carries_is _ c).1 u))
      (found_view r x t n c),
  λ a. ⊎_elim (λ w. let f = w.1 in absurd (a w.0 f.0 f.1.0 ((carries_is _ c).0 f.1.1))) (λ w. w.1) (found_view r x t n c),
)

pub not_reached : (r x : Sheet) (t : List ℕ) (n j m : ℕ)
    → (found_back r x t n j m ≡ no_trace)
    ↔ Unreached r x t n j m
not_reached r x t n j m = (
  λ e y k h o u.
      ⊎_elim (λ w. let f = w.1.2 in let z : ◌≡◌ {A = ℕ} 0 1 = cc in omega arith) (λ w. w.0 y k h o ((leads_is _ m _).1 u))
      (back_view r x t n j m),
  λ a.
      ⊎_elim (λ w. let f = w.1.1 in absurd (a w.0 w.1.0 f.0 f.1.0 ((leads_is _ m _).0 f.1.1))) (λ w. w.1)
      (back_view r x t n j m),
)

module _ (r s x : Sheet) (ok : Meets r s x) (t : List ℕ) (n : ℕ) where
  -- a carried channel leads to its line's receiver and component
  pub found_trace : (c k : ℕ) → k < x.count → Of x t n k → Carries (reach_at x k) c → found r x t n c ≡ given r (reach_at x k) c
  unfolding found pick
  found_trace c k h a f =
      rw (
        search_first x t n (λ q. carries q c) k (h, (a, (carries_is _ c).1 f))
            (λ j l b u. one_channel r s x ok t n c k j h a f l b ((carries_is _ c).0 u)),
        lt-ltb k x.count h,
      )

  abbrev Arrives : ℕ → ℕ → ℕ → Type 0
  Arrives c l m =
      Stands r l
      × ((k : ℕ) × (k < x.count) × Of x t n k × Leads (point_at r (l - 1)) m (reach_at x k)
      × (channel_of (reach_at x k) (point_at r (l - 1)).number m ≡ c))

  arrive : (c l m k : ℕ) → Found x t n (λ q. carries q c) k → receiver_line r (reach_at x k) (leads (reach_at x k) c) + 1 ≡ l
      → component (reach_at x k) c ≡ m → Arrives c l m
  arrive c l m k f g u =
      let q = reach_at x k in
      let v = (carries_is q c).0 f.1.1 in
      let w = sound r s x ok k f.0 f.1.0.0 in
      let z = reached _ q w c v in
      let a = receiver_there r s x ok k (leads q c) f.0 f.1.0.0 z.0 in
      let i : receiver_line r q (leads q c) ≡ l - 1 = omega arith in
      let o = subst (λ (j : ℕ). Receiver r q (leads q c) j) i a.1 in
      let y = a.0 in (
        (omega arith, (omega arith, o.0)),
        (
          k,
          f.0,
          f.1.0,
          (sym o.1.0, (sym o.1.1.1, subst₂ (Reached q) (sym o.1.1.0) u z)),
          ap₂ (channel_of q) o.1.1.0 (sym u) ∙ channel_back _ q w c v,
        ),
      )

  arrives : (c l m : ℕ) (d : Bool) → found r x t n c ≡ trace l m d → Arrives c l m
  arrives c l m d e = let w = traced r x t n c l m d e in arrive c l m w.0 w.1 w.2 w.3

  one_leads : (k j m d : ℕ) (p : PointValues) → k < x.count → j < x.count → Of x t n k → Of x t n j
      → Leads p m (reach_at x k) → Leads p d (reach_at x j) → k ≡ j
  one_leads k j m d p hk hj a b e f =
      one_receiver r s x ok t n k j p.number hk hj a b (e.0 ∙ sym f.0) (e.1.0 ∙ sym f.1.0) e.1.1.0 f.1.1.0

  -- two channels never share a receiver and component
  pub one_trace : (c d l m : ℕ) (y z : Bool) → found r x t n c ≡ trace l m y → found r x t n d ≡ trace l m z → c ≡ d
  one_trace c d l m y z e f =
      let a = (arrives c l m y e).1 in
      let b = (arrives d l m z f).1 in
      let i = one_leads a.0 b.0 m m (point_at r (l - 1)) a.1 b.1 a.2 b.2 a.3 b.3 in
      sym a.4 ∙ ap (λ (k : ℕ). channel_of (reach_at x k) (point_at r (l - 1)).number m) i ∙ b.4

  -- there and back
  pub back_trace : (c l m : ℕ) (d : Bool) → found r x t n c ≡ trace l m d → found_back r x t n l m ≡ channel c
  unfolding found_back pick
  back_trace c l m d e =
      let a = arrives c l m d e in
      let b = a.1 in
      let p = point_at r (l - 1) in
      let i : search (reaches_of x) t n (reaches p m) ≡ b.0 =
      search_first x t n (reaches p m) b.0 (b.1, (b.2, (leads_is p m _).1 b.3))
      (λ j y o u.
      let h = b.1 in
      let z : b.0 ≡ j = one_leads b.0 j m m p b.1 (omega arith) b.2 o b.3 ((leads_is p m _).0 u) in
      omega arith) in
      rw (i, (stands_is r l).1 a.0, lt-ltb _ _ b.1, b.4)

  pub trace_back : (c l m : ℕ) → found_back r x t n l m ≡ channel c → found r x t n c ≡ trace l m (is_killed (point_at r (l - 1)))
  unfolding leads_to_killed
  trace_back c l m e =
      let w = returned r x t n c l m e in
      let k = w.1.0 in
      let f = w.1.1 in
      let q = reach_at x k in
      let p = point_at r (l - 1) in
      let y = sound r s x ok k f.0 f.1.0.0 in
      let h = (leads_is p m q).0 f.1.1 in
      let g = w.1.2 in
      let no : leads q c ≡ p.number = ap (leads q) (sym g) ∙ leads_back _ q y p.number m h.1.1 in
      let co : component q c ≡ m = ap (component q) (sym g) ∙ component_back _ q y p.number m h.1.1 in
      let l1 = w.0.0 in
      let l2 = w.0.1.0 in
      let j : receiver_line r q p.number ≡ l - 1 =
      receiver_line_lem r ok.rule10 q p.number (l - 1) (omega arith) (w.0.1.1, (sym h.0, (refl, sym h.1.0))) in
      found_trace c k f.0 f.1.0 (subst (Carries q) g (carried _ q y p.number m h.1.1))
      ∙ ap₂ (λ (y m : ℕ). trace y m (is_killed (point_at r (receiver_line r q (leads q c)))))
      (ap (λ (n : ℕ). receiver_line r q n + 1) no ∙ (let z : receiver_line r q p.number + 1 ≡ l = omega arith in z)) co
      ∙ ap (λ (i : ℕ). trace l m (is_killed (point_at r i))) (ap (receiver_line r q) no ∙ j)

  pub traced_range : (c l m : ℕ) (d : Bool) → found r x t n c ≡ trace l m d → (1 ≤ l) × ((l ≤ most_lines) × ((1 ≤ m) × (m ≤ 9)))
  traced_range c l m d e =
      let a = arrives c l m d e in
      let b = a.1 in
      let w = (sound r s x ok b.0 b.1 b.2.0).few in
      let u = a.0.1.0 in
      let v = ok.form_r.rule2 in
      let y = b.3.1.1.1 in
      let z = y.1 in
      (a.0.0, (omega arith, (y.0, omega arith)))

  pub back_range : (c l m : ℕ) → found_back r x t n l m ≡ channel c → (1 ≤ c) × (c ≤ x.layout.most_channel)
  back_range c l m e =
      let w = returned r x t n c l m e in
      let b = w.1 in
      let y = sound r s x ok b.0 b.1.0 b.1.1.0.0 in
      let h = (leads_is (point_at r (l - 1)) m _).0 b.1.1.1 in
      let v = carried _ _ y (point_at r (l - 1)).number m h.1.1 in
      let i = b.2 in
      let o = y.first in
      let p = y.most in
      let v0 = v.0 in
      let v1 = v.1 in
      (omega arith, omega arith)
