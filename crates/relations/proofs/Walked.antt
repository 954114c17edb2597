-- The pass over X, line by line: what holds before line k.
--   Walked        = the lines before k are met; where the shot of the line before stands, where its record begins, and what is marked
--   begins        = so it is at the first relation line
--   missed        = the shot of line k is not found from there on, and the line is refused
--   waiting       = line k may be asked for 18 and 19
--   walks_on      = and what holds before the next line
use Prim.Native.Nat.{ℕ, zero, suc, ◌+◌, ◌-◌, ◌≤◌, ◌<◌}
use native.Mathlib.Numerals.{add-one}
use native.Mathlib.Omega.{arith}
use mathlib.Core.Path.{◌≡◌, refl, sym, ap, ◌∙◌, subst}
use mathlib.Core.Logic.{⊎_elim}
use mathlib.Core.Bool.{Bool, true, false}
use mathlib.Core.List.{List}
use lib.Dec.{leb, ltb}
use lib.ListN.{length}
use borrow.Author.Tests.{ltb-true, lt-ltb}
use Rattle.rules.specs.Places.{pick, is_before}
use Rattle.rules.specs.Plan.{Refusal, fine, refused, №, up_to, run}
use Rattle.rules.specs.Sheet.{Sheet}
use Rattle.rules.specs.Lines.{is_data, heads}
use Rattle.rules.specs.Relations.{reach_at}
use Rattle.rules.specs.Reaches.{reaches_of, mates}
use Rattle.rules.specs.Order.{receivers_there, rule16, rule18}
use Rattle.rules.specs.Check.{relation_fits}
use Rattle.rules.proofs.Tests.{clash, and_is, yes_no}
use Rattle.rules.proofs.Breach.{run_met}
use Rattle.rules.proofs.Steps.{none_yet, one_more}
use Rattle.rules.proofs.Least.{least_is, least_below}
use Rattle.rules.proofs.Form.{data_is}
use Rattle.lines.proofs.Tests.{untrue}
use Rattle.form.proofs.Known.{formed}
use Rattle.keys.specs.Held.{RelationLine}
use Rattle.keys.specs.declared.By.TheVariants.{Records}
use Rattle.keys.proofs.Lines.{takes_record}
use Rattle.order.specs.Repeat.{repeats}
use Rattle.mates.specs.Records.{goes_on, start_of}
use Rattle.mates.proofs.Start.{start_is, start_below, start_lines, own}
use Rattle.mates.proofs.Sixteen.{not_apart}
use Rattle.std.specs.Prelude.{Some, None}
use Rattle.shots.specs.Places.{onward, line_in, place_before, shot_found, Missed}
use Rattle.shots.proofs.Places.{in_found, in_none, found_fine, place_next, gone, gone_before}
use Rattle.once.specs.Covered.{Lines}
use Rattle.once.specs.Marks.{pairs, Below, Kept}
use Rattle.relations.specs.Walk.{Waiting, Begun}
use Rattle.relations.proofs.Parts.{mate_fits, header_fine}

pub record Walked (r : Sheet) (o : List ℕ) (s x : Sheet) (apart : ℕ) (t : List ℕ) (place start k : ℕ) : Type 0 where
  pub inside : k ≤ x.count
  pub relate : (j : ℕ) → k ≤ j → j < x.count → is_data x j ≡ true
  pub met : fine ≡ run (up_to k (relation_fits r s x))
  pub shot : place ≡ place_before s x k
  pub begin : goes_on x k ≡ true → start ≡ start_of x (k - 1)
  pub none : k ≤ apart
  pub low : Below t (k + 1)
  pub kept : goes_on x k ≡ true → Kept r o x t start k
  pub room : length o ≤ length t

-- the lines of line k's record are those from a on
pub record Together (x : Sheet) (a k : ℕ) : Type 0 where
  pub lines : Lines x a k
  pub own : (j : ℕ) → j < k → mates (reaches_of x) k j ≡ leb a j

-- header lines alone
headers_met : (r s x : Sheet) (n : ℕ) → ((j : ℕ) → j < n → is_data x j ≡ false) → fine ≡ run (up_to n (relation_fits r s x))
headers_met r s x zero f = none_yet (relation_fits r s x)
headers_met r s x (suc n) f =
    one_more (relation_fits r s x) n (headers_met r s x n (λ j h. f j (omega arith))) (header_fine r s x n (f n (omega arith)))
    ∙ ap (λ (m : ℕ). run (up_to m (relation_fits r s x))) (add-one n)

not_on : (x : Sheet) (k : ℕ) → ((j : ℕ) → suc j ≡ k → is_data x j ≡ false) → goes_on x k ≡ true → ⊥
unfolding goes_on is_before mates reaches_of
not_on x zero f e = clash e
not_on x (suc k) f e = clash (sym (f k refl) ∙ ((and_is _ _).0 e).0)

no_place : (s x : Sheet) (k : ℕ) → ((j : ℕ) → suc j ≡ k → is_data x j ≡ false) → 0 ≡ place_before s x k
unfolding place_before pick
no_place s x zero f = refl
no_place s x (suc k) f = rw (f k refl)

module _ (r : Sheet) (o : List ℕ) (s x : Sheet) (apart : ℕ) (t₀ : List ℕ) (b : Begun r o s x apart t₀) where
  -- below a relation line there are relation lines alone
  onwards : (i k : ℕ) → i ≤ k → k < x.count → is_data x i ≡ true → is_data x k ≡ true
  onwards i k l h d =
      yes_no (is_data x k) (λ u. u)
      (λ f.
      let e : i ≡ k → ⊥ = λ e. f (subst (λ (m : ℕ). is_data x m ≡ true) e d) in
      absurd (f ((data_is x k).1 (λ y. (data_is x i).0 d (((formed 3 x b.relations).rule4 k h).0 y i (omega arith))))))

  -- a line that stands apart is a relation line
  apart_relates : apart < x.count → is_data x apart ≡ true
  unfolding repeats
  apart_relates h =
      ⊎_elim
      (λ w.
      let e = b.first in
      let u = subst (λ (m : ℕ). repeats Records x m ≡ true) (sym e) w.1 in
      sym (takes_record x apart h) ∙ ((and_is _ _).0 u).0)
      (λ w. let e = b.first in let z = w.0 in absurd (omega arith)) (least_is x.count (repeats Records x))

  pub begins : (k : ℕ) → k ≡ heads x → (t : List ℕ) → Below t 1 → length t ≡ length t₀ → Walked r o s x apart t 0 0 k
  unfolding heads
  begins k e t z l =
      ⊎_elim
      (λ w.
      let h = w.0 in
      go (omega arith) (λ j g u. onwards k j g u (rw e w.1)) (λ j g. untrue (is_data x j) (λ y. w.2 j (omega arith) y)))
      (λ w.
      let h = w.0 in
      go (omega arith) (λ j g u. absurd (omega arith)) (λ j g. untrue (is_data x j) (λ y. w.1 j (omega arith) y)))
      (least_is x.count (is_data x))
    where
      go : k ≤ x.count → ((j : ℕ) → k ≤ j → j < x.count → is_data x j ≡ true) → ((j : ℕ) → j < k → is_data x j ≡ false)
          → Walked r o s x apart t 0 0 k
      go i d f =
          let first : (j : ℕ) → suc j ≡ k → is_data x j ≡ false = λ j q. f j (omega arith) in
          record {
            inside = i;
            relate = d;
            met = headers_met r s x k f;
            shot = no_place s x k first;
            begin = λ y. absurd (not_on x k first y);
            none =
                yes_no (ltb apart k)
                (λ u. let g = ltb-true apart k u in absurd (clash (sym (f apart g) ∙ apart_relates (omega arith))))
                (λ u. let g : apart < k → ⊥ = λ g. u (lt-ltb apart k g) in omega arith);
            low = λ e. let y = z e in omega arith;
            kept = λ y. absurd (not_on x k first y);
            room = let g = b.room in omega arith;
          }

  module _ (t : List ℕ) (place start k : ℕ) (w : Walked r o s x apart t place start k) (h : k < x.count) where
    pub line : RelationLine x k
    line = (h, w.relate k (omega arith) h)

    -- the shot
    from_there : onward s x k place ≡ onward s x k (place_before s x k)
    from_there = ap (onward s x k) w.shot

    module _ (n : None ≡ line_in s.count (onward s x k place)) where
      gone_from : onward s x k (place_before s x k) ≡ s.count
      unfolding onward
      gone_from =
          let l : onward s x k place ≤ s.count = least_below s.count _ in
          let g : onward s x k place < s.count → ⊥ = in_none _ _ n in
          let z : onward s x k place ≡ s.count = omega arith in
          sym from_there ∙ z

      pub missing_here : Missed s x k
      missing_here = record { shots = b.shots; relations = b.relations; line = line; gone = gone_from }

      pub refuses : (v : Refusal) × (refused v ≡ run (shot_found s x k))
      refuses =
          yes_no (ltb (onward s x k 0) s.count)
          (λ u. (№ 14 3 (k + 1) x.layout.source.first, gone_before s x b.shots k _ refl gone_from _ refl (ltb-true _ _ u)))
          (λ u. (№ 13 3 (k + 1) x.layout.source.first, gone s x b.shots k _ refl gone_from _ refl (λ g. u (lt-ltb _ _ g))))

    module _ (q : ℕ) (f : Some q ≡ line_in s.count (onward s x k place)) where
      found : (q ≡ onward s x k (place_before s x k)) × (q < s.count)
      found = let z = in_found _ _ q f in (z.0 ∙ from_there, z.1)

      pub shot_fine : fine ≡ run (shot_found s x k)
      shot_fine = found_fine s x b.shots k q found.0 found.1

      pub shot_next : q ≡ place_before s x (k + 1)
      shot_next = place_next s x b.shots k q found.0 found.1 line.1

    -- where the record begins
    module _ (on : Bool) (eo : on ≡ goes_on x k) (a : ℕ) (ea : a ≡ pick on start k) where
      pub starts_there : a ≡ start_of x k
      unfolding pick
      starts_there = go on eo ea
        where
          go : (b : Bool) → b ≡ goes_on x k → a ≡ pick b start k → a ≡ start_of x k
          go true y z = z ∙ w.begin (sym y) ∙ ap (λ (u : Bool). pick u (start_of x (k - 1)) k) y ∙ sym (start_is x k)
          go false y z = z ∙ ap (λ (u : Bool). pick u (start_of x (k - 1)) k) y ∙ sym (start_is x k)

      fresh : Kept r o x t k k
      unfolding pairs
      fresh = record { room = w.room; few = λ l. w.low; many = λ l. absurd (omega arith) }

      kept_here : Kept r o x t a k
      unfolding pick
      kept_here = go on eo ea
        where
          go : (b : Bool) → b ≡ goes_on x k → a ≡ pick b start k → Kept r o x t a k
          go true y z = subst (λ (m : ℕ). Kept r o x t m k) (sym z) (w.kept (sym y))
          go false y z = subst (λ (m : ℕ). Kept r o x t m k) (sym z) fresh

      there : (j : ℕ) → a ≤ j → j < k → is_data x j ≡ true → receivers_there r (reach_at x j) ≡ true
      unfolding relation_fits rule18
      there j l g d = ((run_met (up_to k (relation_fits r s x))).0 (sym w.met) j g d).1.1.1.1.0

      pub sixteen : fine ≡ run (mate_fits x k) → (j : ℕ) → j ≤ k → RelationLine x j → fine ≡ run (rule16 x j)
      unfolding relation_fits
      sixteen fm j l d =
          yes_no (ltb j k)
          (λ u. sym ((run_met (rule16 x j)).1 ((run_met (up_to k (relation_fits r s x))).0 (sym w.met) j (ltb-true j k u) d.1).1.1.0))
          (λ u.
          let g : j < k → ⊥ = λ g. u (lt-ltb j k g) in
          let e : k ≡ j = omega arith in
          subst (λ (m : ℕ). fine ≡ run (rule16 x m)) e (sym ((run_met (rule16 x k)).1 ((run_met (mate_fits x k)).0 (sym fm)).0)))

      -- the lines from there on are the record's
      together : fine ≡ run (mate_fits x k) → Together x a k
      together fm =
          rw starts_there
          (record { lines = (start_below x k, start_lines x k line); own = own x k (sixteen fm) line })

      module _ (fm : fine ≡ run (mate_fits x k)) where
        g : Together x a k
        g = together fm

        pub waiting : Waiting r o x t a k
        waiting =
            record {
              receivers = b.receivers;
              rows = b.rows;
              relations = b.relations;
              alike = b.alike;
              lines = g.lines;
              own = g.own;
              there = λ j l i. there j l i (g.lines.1 j l (omega arith)).1;
              kept = kept_here;
            }

        pub walks_on : (q : ℕ) → q ≡ place_before s x (k + 1) → (u : List ℕ) → Kept r o x u a (k + 1)
            → fine ≡ run (relation_fits r s x k) → Walked r o s x apart u q a (k + 1)
        walks_on q eq u kept f =
            record {
              inside = omega arith;
              relate = λ j l i. w.relate j (omega arith) i;
              met = one_more (relation_fits r s x) k w.met f;
              shot = eq;
              begin = λ y. starts_there ∙ ap (start_of x) (let z : k ≡ k + 1 - 1 = omega arith in z);
              none = not_apart x k b.relations line apart (b.first, w.none) (sixteen fm k (omega arith) line);
              low =
                  λ e.
                  let c = g.lines.0 in
                  yes_no (ltb (k + 1) (a + pairs)) (λ y. let z = kept.few (ltb-true _ _ y) e in omega arith)
                  (λ y.
                  let l : k + 1 < a + pairs → ⊥ = λ l. y (lt-ltb _ _ l) in
                  let z = (kept.many (omega arith)).below e in
                  omega arith);
              kept = λ y. kept;
              room = kept.room;
            }
