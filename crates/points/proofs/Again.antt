-- 12 of a line, by the first shot that repeats an earlier one.
--   like_same, same_like = an earlier line of its key is a shot of its name, point and index
--   not_again            = where 12 is met of a line, the first repeat is further
use Prim.Native.Nat.{ℕ, ◌+◌, ◌≤◌, ◌<◌}
use native.Mathlib.Omega.{arith}
use mathlib.Core.Path.{◌≡◌, refl, sym, ap, ◌∙◌}
use mathlib.Core.Logic.{⊎_elim}
use mathlib.Core.Bool.{Bool, true, false, ◌&&◌}
use Rattle.rules.specs.Places.{some, least}
use Rattle.rules.specs.Plan.{fine, refused, №, run}
use Rattle.rules.specs.Layout.{Layout, sps93}
use Rattle.rules.specs.Sheet.{Sheet}
use Rattle.rules.specs.Lines.{is_point}
use Rattle.rules.specs.Points.{point_at, same_point}
use Rattle.rules.specs.Order.{rule12}
use Rattle.rules.proofs.Tests.{and_is, not_is, imp_is, every_is, some_is}
use Rattle.rules.proofs.Least.{least_is, least_there}
use Rattle.rules.proofs.Steps.{need_met, need_broken, when_on, when_off, every_stop}
use Rattle.rules.proofs.Order.{at_is}
use Rattle.form.specs.Known.{Known}
use Rattle.keys.specs.Compare.{same_key}
use Rattle.keys.specs.Keyed.{takes_at, key_at}
use Rattle.keys.specs.declared.By.TheVariants.{Points}
use Rattle.keys.proofs.Lines.{takes_point}
use Rattle.keys.proofs.Points.{points_same}
use Rattle.order.specs.Repeat.{like, repeats}
use Rattle.points.specs.Again.{IsAgain}

same_back : (s : Sheet) (j k : ℕ) → same_point (point_at s j) (point_at s k) ≡ true → same_point (point_at s k) (point_at s j) ≡ true
unfolding same_point
same_back s j k e =
    let p = point_at s j in
    let q = point_at s k in
    let u = (at_is q.name q.number q.index p).0 e in
    (at_is p.name p.number p.index q).1 (sym u.0, (sym u.1.0, sym u.1.1))

module _ (s : Sheet) (w : Known 2 s) (k : ℕ) (h : k < s.count) (again : ℕ) (a : IsAgain s k again) where
  -- an earlier shot of its key
  module _ (p : is_point s k ≡ true) (j : ℕ) (l : j < k) where
    like_same : like Points s k j ≡ true → (is_point s j ≡ true) × (same_point (point_at s k) (point_at s j) ≡ true)
    unfolding like
    like_same e =
        let u = (and_is (takes_at Points s j) (same_key (key_at Points s j) (key_at Points s k))).0 e in
        let g : j < s.count = omega arith in
        let q = sym (takes_point s j g) ∙ u.0 in
        (q, same_back s j k (sym (points_same 2 s w (λ z. omega arith) j g q k h p) ∙ u.1))

    same_like : is_point s j ≡ true → same_point (point_at s k) (point_at s j) ≡ true → like Points s k j ≡ true
    unfolding like
    same_like q e =
        let g : j < s.count = omega arith in
        (and_is (takes_at Points s j) (same_key (key_at Points s j) (key_at Points s k))).1
        (takes_point s j g ∙ q, points_same 2 s w (λ z. omega arith) j g q k h p ∙ same_back s k j e)

  repeated : repeats Points s k ≡ true → (is_point s k ≡ true) × (some k (like Points s k) ≡ true)
  unfolding repeats
  repeated e =
      let u = (and_is (takes_at Points s k) (some k (like Points s k) && true)).0 e in
      (sym (takes_point s k h) ∙ u.0, ((and_is (some k (like Points s k)) true).0 u.1).0)

  repeating : is_point s k ≡ true → some k (like Points s k) ≡ true → repeats Points s k ≡ true
  unfolding repeats
  repeating p e =
      (and_is (takes_at Points s k) (some k (like Points s k) && true)).1
      (takes_point s k h ∙ p, (and_is (some k (like Points s k)) true).1 (e, refl))

  refuses : k ≡ again → refused (№ 12 2 (k + 1) s.layout.name.first) ≡ run (rule12 s k)
  unfolding rule12
  refuses z =
      let e : k ≡ least s.count (repeats Points s) = z ∙ a.0 in
      let r : repeats Points s k ≡ true =
      ⊎_elim (λ v. ap (repeats Points s) e ∙ v.1) (λ v. absurd (let u = v.0 in omega arith)) (least_is s.count (repeats Points s)) in
      let b = repeated r in
      let o = (some_is k (like Points s k)).0 b.1 in
      let f = like_same b.0 o.0 o.1 o.2 in
      need_broken _ _ (every_stop _ o.0 k o.1 (rw (f.0, f.1))) ∙ when_on _ _ b.0

  pub twelve_broken : k ≡ again → s.layout ≡ sps93 → run (rule12 s k) ≡ refused (№ 12 2 (k + 1) 2)
  unfolding sps93
  twelve_broken z y = sym (ap (λ (L : Layout). refused (№ 12 2 (k + 1) L.name.first)) (sym y) ∙ refuses z)

  pub twelve_fine : (k ≡ again → ⊥) → run (rule12 s k) ≡ fine
  unfolding rule12
  twelve_fine n = sym (go (is_point s k) refl)
    where
      go : (t : Bool) → is_point s k ≡ t → fine ≡ run (rule12 s k)
      go false p = when_off _ _ p
      go true p =
          need_met _ _
          ((every_is k _).1
          (λ j l.
          (imp_is (is_point s j) _).1
          (λ q.
          (not_is _).1
          (λ f.
          let r = repeating p ((some_is k (like Points s k)).1 (j, l, same_like p j l q f)) in
          let v = least_there s.count k (repeats Points s) h r in
          let e = a.0 in
          let g = a.1 in
          v.2 k (omega arith) r))))
          ∙ when_on _ _ p

  pub not_again : fine ≡ run (rule12 s k) → k + 1 ≤ again
  not_again f =
      let n : k ≡ again → ⊥ =
      λ z. let e = f ∙ sym (refuses z) in let o : ◌≡◌ {A = ℕ} 0 1 = cc in omega arith in
      let g = a.1 in
      omega arith
