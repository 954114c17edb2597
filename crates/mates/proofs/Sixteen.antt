-- 16 and 17 of a relation line: by the line just before it, where its record goes on, else by the first line whose record stands apart.
--   not_apart   = where 16 is met of a line, the first one apart is further
use Prim.Native.Nat.{ℕ, ◌+◌, ◌-◌, ◌≤◌, ◌<◌}
use native.Mathlib.Omega.{arith}
use mathlib.Core.Path.{◌≡◌, refl, sym, ap, ◌∙◌}
use mathlib.Core.Logic.{⊎_elim}
use mathlib.Core.Bool.{Bool, true, false, not, ◌&&◌, ◌||◌, or-true, and-true}
use lib.Dec.{ltb}
use borrow.Author.Tests.{lt-ltb, le-ltb}
use Rattle.rules.specs.Places.{every, some, least, if_before, is_before}
use Rattle.rules.specs.Plan.{fine, refused, №, run}
use Rattle.rules.specs.Layout.{Layout, sps93}
use Rattle.rules.specs.Sheet.{Sheet}
use Rattle.rules.specs.Relations.{relation_at, reach_at}
use Rattle.rules.specs.Reaches.{reaches_of, mates, together, rises}
use Rattle.rules.specs.Order.{same_shot, rule16, rule17}
use Rattle.rules.proofs.Tests.{clash, and_is, imp_is, every_is, some_is}
use Rattle.rules.proofs.Least.{least_is, least_there}
use Rattle.rules.proofs.Steps.{need_met, need_broken, every_stop}
use Rattle.form.specs.Known.{Known}
use Rattle.keys.specs.Keyed.{takes_at}
use Rattle.keys.specs.Held.{RelationLine}
use Rattle.keys.specs.declared.By.TheVariants.{Records}
use Rattle.keys.proofs.Lines.{takes_record}
use Rattle.order.specs.Repeat.{like, repeats}
use Rattle.mates.specs.Records.{IsApart, goes_on}
use Rattle.lines.proofs.Tests.{before_same}
use Rattle.mates.proofs.Mates.{before_asked, before_passed, mates_are}

module _ (x : Sheet) (k : ℕ) where
  abbrev of_record_lem : ℕ → Bool
  of_record_lem = mates (reaches_of x) k

  abbrev sixteen : Bool
  sixteen = together (reaches_of x) k && if_before (λ j. not (of_record_lem j) || same_shot (relation_at x k) (relation_at x j)) k

  -- where the record goes on
  module _ (y : goes_on x k ≡ true) where
    held : sixteen ≡ same_shot (relation_at x k) (relation_at x (k - 1))
    unfolding together goes_on
    held =
        let f : every k (λ j. not (of_record_lem j) || is_before of_record_lem k) ≡ true =
        (every_is k _).1 (λ j l. rw y (or-true (not (of_record_lem j)))) in
        rw (f, before_asked of_record_lem (λ j. same_shot (relation_at x k) (relation_at x j)) k y)

    pub sixteen_fine : same_shot (relation_at x k) (relation_at x (k - 1)) ≡ true → run (rule16 x k) ≡ fine
    unfolding rule16
    sixteen_fine s = sym (need_met _ _ (held ∙ s))

    pub sixteen_changed : same_shot (relation_at x k) (relation_at x (k - 1)) ≡ false → x.layout ≡ sps93
        → run (rule16 x k) ≡ refused (№ 16 3 (k + 1) 2)
    unfolding rule16 sps93
    sixteen_changed s z = rw (← (ap (λ (L : Layout). L.tape.first) z)) (sym (need_broken _ _ (held ∙ s)))

    rising : rises (reaches_of x) k ≡ ltb (reach_at x (k - 1)).upto (reach_at x k).from
    unfolding rises reaches_of goes_on
    rising = before_asked of_record_lem (λ j. ltb (reach_at x j).upto (reach_at x k).from) k y

    pub seventeen_fine : (reach_at x (k - 1)).upto < (reach_at x k).from → run (rule17 x k) ≡ fine
    unfolding rule17
    seventeen_fine l = sym (need_met _ _ (rising ∙ lt-ltb _ _ l))

    pub seventeen_broken : (reach_at x k).from ≤ (reach_at x (k - 1)).upto → x.layout ≡ sps93 → run (rule17 x k) ≡ refused (№ 17 3 (k + 1) 39)
    unfolding rule17 sps93
    seventeen_broken l z = rw (← (ap (λ (L : Layout). L.from.first) z)) (sym (need_broken _ _ (rising ∙ le-ltb _ _ l)))

  -- where it does not
  module _ (y : goes_on x k ≡ false) where
    alone : sixteen ≡ every k (λ j. not (of_record_lem j) || false)
    unfolding together goes_on
    alone = rw (y, before_passed of_record_lem (λ j. same_shot (relation_at x k) (relation_at x j)) k y) (and-true _)

    pub seventeen_other : run (rule17 x k) ≡ fine
    unfolding rule17 rises reaches_of goes_on
    seventeen_other = sym (need_met _ _ (before_passed of_record_lem (λ j. ltb (reach_at x j).upto (reach_at x k).from) k y))

  module _ (w : Known 3 x) (h : RelationLine x k) (apart : ℕ) (a : IsApart x k apart) where
    like_before : is_before (like Records x k) k ≡ goes_on x k
    unfolding goes_on
    like_before = let g = h.0 in before_same k _ _ (λ j l. mates_are x w k h j (omega arith))

    repeated : repeats Records x k ≡ true → (some k (like Records x k) ≡ true) × (goes_on x k ≡ false)
    unfolding repeats
    repeated e =
        let u = (and_is (takes_at Records x k) (some k (like Records x k) && not (is_before (like Records x k) k))).0 e in
        let v = (and_is (some k (like Records x k)) (not (is_before (like Records x k) k))).0 u.1 in
        (v.0, sym like_before ∙ off (is_before (like Records x k) k) v.1)
      where
        off : (b : Bool) → not b ≡ true → b ≡ false
        off true e = clash e
        off false e = refl

    repeating : some k (like Records x k) ≡ true → goes_on x k ≡ false → repeats Records x k ≡ true
    unfolding repeats
    repeating e y =
        (and_is (takes_at Records x k) (some k (like Records x k) && not (is_before (like Records x k) k))).1
        (takes_record x k h.0 ∙ h.1, (and_is (some k (like Records x k)) (not (is_before (like Records x k) k))).1 (e, rw (like_before, y)))

    first_apart : k ≡ apart → repeats Records x k ≡ true
    first_apart z =
        let e : k ≡ least x.count (repeats Records x) = z ∙ a.0 in
        let g = h.0 in
        ⊎_elim (λ v. ap (repeats Records x) e ∙ v.1) (λ v. absurd (let u = v.0 in omega arith)) (least_is x.count (repeats Records x))

    refuses : k ≡ apart → refused (№ 16 3 (k + 1) x.layout.tape.first) ≡ run (rule16 x k)
    unfolding rule16
    refuses z =
        let b = repeated (first_apart z) in
        let o = (some_is k (like Records x k)).0 b.0 in
        let g = h.0 in
        let i = o.1 in
        let f : of_record_lem o.0 ≡ true = sym (mates_are x w k h o.0 (omega arith)) ∙ o.2 in
        need_broken _ _ (alone b.1 ∙ every_stop _ o.0 k o.1 (rw f))

    pub sixteen_apart : k ≡ apart → x.layout ≡ sps93 → run (rule16 x k) ≡ refused (№ 16 3 (k + 1) 2)
    unfolding sps93
    sixteen_apart z y = sym (ap (λ (L : Layout). refused (№ 16 3 (k + 1) L.tape.first)) (sym y) ∙ refuses z)

    pub sixteen_new : (k ≡ apart → ⊥) → goes_on x k ≡ false → run (rule16 x k) ≡ fine
    unfolding rule16
    sixteen_new n y =
        sym (need_met _ _
        (alone y
        ∙ (every_is k _).1
        (λ j l.
        (imp_is (of_record_lem j) false).1
        (λ f.
        let g = h.0 in
        let r = repeating ((some_is k (like Records x k)).1 (j, l, mates_are x w k h j (omega arith) ∙ f)) y in
        let v = least_there x.count k (repeats Records x) g r in
        let e = a.0 in
        let i = a.1 in
        absurd (v.2 k (omega arith) r)))))

    pub not_apart : fine ≡ run (rule16 x k) → k + 1 ≤ apart
    not_apart f =
        let n : k ≡ apart → ⊥ =
        λ z. let e = f ∙ sym (refuses z) in let o : ◌≡◌ {A = ℕ} 0 1 = cc in omega arith in
        let i = a.1 in
        omega arith
