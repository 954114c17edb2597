-- Where the shot of a relation line stands, by a look from the place of the line before on: 13 and 14.
--   from_first, from_none  = the first place from one on that passes
--   found_in, none_in      = a line, or none, from a place
--   in_found, in_none, some_in = and what it tells
--   one_shot               = a line that holds the shot is its line, since shots stand once
--   found_fine             = found from there on: 13 and 14 are met
--   place_next             = and that is the place before the next line
--   gone_before, gone      = not found from there on: 14 where it stands before, else 13
use Prim.Native.Nat.{ℕ, zero, suc, ◌+◌, ◌≤◌, ◌<◌}
use native.Mathlib.Numerals.{add-one}
use native.Mathlib.Omega.{arith}
use mathlib.Core.Path.{◌≡◌, refl, sym, ap, ◌∙◌}
use mathlib.Core.Logic.{⊎_elim}
use mathlib.Core.Bool.{Bool, true, false, not, ◌&&◌, ◌||◌}
use lib.Dec.{leb, ltb}
use borrow.Author.Tests.{leb-true, le-leb, lt-leb, lt-ltb, le-ltb, ltb-true}
use Rattle.std.specs.Prelude.{Some, None}
use Rattle.std.specs.Option.{is_some}
use Rattle.rules.specs.Places.{pick, some, least, if_before}
use Rattle.rules.specs.Plan.{fine, refused, №, up_to, run}
use Rattle.rules.specs.Sheet.{Sheet}
use Rattle.rules.specs.Lines.{is_data}
use Rattle.rules.specs.Relations.{relation_at}
use Rattle.rules.specs.Order.{is_point_at, is_shot_of, shot_line, rule13, rule14}
use Rattle.rules.proofs.Tests.{and_is, some_is, imp_is, if_before_is, yes_no, more}
use Rattle.rules.proofs.Breach.{run_met}
use Rattle.rules.proofs.Steps.{need_met, need_broken, before_met, before_broken}
use Rattle.rules.proofs.Least.{least_is, least_first, least_none, least_there}
use Rattle.rules.specs.MeetsSet.{Rule12}
use Rattle.rules.proofs.Order.{point_at_is, shots_are}
use Rattle.rules.proofs.Refuses.{shot_line_lem}
use Rattle.lines.proofs.Tests.{untrue}
use Rattle.keys.specs.Held.{shot_fits, KnownShots}
use Rattle.shots.specs.Places.{is_shot, onward, line_in, place_before, shot_found}

-- one place more that does not pass
pub past_more : (from : ℕ) (p : ℕ → Bool) (j : ℕ) → ((i : ℕ) → from ≤ i → i < j → p i ≡ true → ⊥) → (p j ≡ true → ⊥) → (i : ℕ) → from ≤ i → i < j + 1
    → p i ≡ true → ⊥
past_more from p j none here i l g t = more (rw (← (add-one j)) g) (λ q. none i l q t) (λ q. here (ap p (sym q) ∙ t))

-- the first place from `from` on that passes
module _ (n from : ℕ) (p : ℕ → Bool) where
  abbrev pub on_from : ℕ → Bool
  on_from j = leb from j && p j

  pub from_first : (j : ℕ) → from ≤ j → j < n → p j ≡ true → ((i : ℕ) → from ≤ i → i < j → p i ≡ true → ⊥) → j ≡ least n on_from
  from_first j l h t none =
      sym
      (least_first n j on_from (
        h,
        (and_is (leb from j) (p j)).1 (le-leb from j l, t),
        λ i g u. let w = (and_is (leb from i) (p i)).0 u in none i (leb-true from i w.0) g w.1,
      ))

  pub from_none : ((i : ℕ) → from ≤ i → i < n → p i ≡ true → ⊥) → n ≡ least n on_from
  from_none none =
      sym (least_none n on_from (λ i g u. let w = (and_is (leb from i) (p i)).0 u in none i (leb-true from i w.0) g w.1))

  -- what it tells
  pub from_found : (j : ℕ) → j ≡ least n on_from → j < n → (from ≤ j) × (p j ≡ true)
  from_found j e h =
      ⊎_elim
      (λ w. let u = (and_is (leb from (least n on_from)) (p (least n on_from))).0 w.1 in rw e (leb-true from _ u.0, u.1))
      (λ w. let z = w.0 in absurd (omega arith)) (least_is n on_from)

  pub from_gone : (i : ℕ) → i < least n on_from → i < n → from ≤ i → p i ≡ true → ⊥
  from_gone i g h l t =
      let w = least_there n i on_from h ((and_is (leb from i) (p i)).1 (le-leb from i l, t)) in
      w.2 i g ((and_is (leb from i) (p i)).1 (le-leb from i l, t))

-- a place as a line, or none
module _ (n q : ℕ) where
  pub found_in : (j : ℕ) → j ≡ q → j < n → Some j ≡ line_in n q
  unfolding pick
  found_in j e h = rw (← e, lt-ltb j n h) refl

  pub none_in : n ≡ q → None ≡ line_in n q
  unfolding pick
  none_in e = rw (← e, le-ltb n n (omega arith)) refl

  pub in_found : (j : ℕ) → Some j ≡ line_in n q → (j ≡ q) × (j < n)
  unfolding pick
  in_found j e = go (ltb q n) refl e
    where
      go : (t : Bool) → ltb q n ≡ t → Some j ≡ pick t (Some q) None → (j ≡ q) × (j < n)
      go true y z = let i : j ≡ q = cc in (i, let l = ltb-true q n y in omega arith)
      go false y z = absurd cc

  pub in_none : None ≡ line_in n q → q < n → ⊥
  unfolding pick
  in_none e h = let z : None ≡ Some q = e ∙ (rw (lt-ltb q n h) refl) in absurd cc

  pub some_in : is_some (line_in n q) ≡ ltb q n
  unfolding pick
  some_in = go (ltb q n)
    where
      go : (t : Bool) → is_some (pick t (Some q) None) ≡ t
      go true = refl
      go false = refl

module _ (s x : Sheet) (ws : KnownShots s) where
  pub twelve : (i : ℕ) → i < s.count → Rule12 s i
  twelve i g = ((shots_are s).0 ((run_met (up_to s.count (shot_fits s))).0 (sym ws.1)) i g).1

  module _ (k : ℕ) where
    pub one_shot : (j : ℕ) → j < s.count → is_shot s x k j ≡ true → shot_line s (relation_at x k) ≡ j
    unfolding is_shot is_shot_of
    one_shot j h t = shot_line_lem s twelve (relation_at x k) j h ((point_at_is _ _ _ _ j).0 ((and_is (is_point_at s _ _ _ j) _).0 t).0)

    thirteen : (j : ℕ) → j < s.count → is_shot s x k j ≡ true → fine ≡ run (rule13 s x k)
    unfolding rule13 is_shot
    thirteen j h t = need_met _ _ ((some_is s.count _).1 (j, h, t))

    module _ (q : ℕ) (e : q ≡ onward s x k (place_before s x k)) (h : q < s.count) where
      here : (place_before s x k ≤ q) × (is_shot s x k q ≡ true)
      unfolding onward
      here = from_found s.count (place_before s x k) (is_shot s x k) q e h

      pub stands : shot_line s (relation_at x k) ≡ q
      stands = one_shot q h here.1

      behind : (j : ℕ) → suc j ≡ k → is_data x j ≡ true → shot_line s (relation_at x j) ≤ shot_line s (relation_at x k)
      unfolding place_before pick
      behind j z d =
          let u : place_before s x (suc j) ≡ shot_line s (relation_at x j) = rw d in
          let v : place_before s x (suc j) ≡ place_before s x k = ap (place_before s x) z in
          let w = here.0 in
          let y = stands in
          omega arith

      pub found_fine : fine ≡ run (shot_found s x k)
      unfolding rule14
      found_fine =
          need_met _ _ ((if_before_is _ k).1 (λ j z. (imp_is _ _).1 (λ d. le-leb _ _ (behind j z d))))
          ∙ before_met _ _ (thirteen q h here.1)

      pub place_next : is_data x k ≡ true → q ≡ place_before s x (k + 1)
      unfolding place_before pick
      place_next d = rw add-one (rw d (sym stands))

    -- not found from there on
    module _ (c : ℕ) (lay : c ≡ x.layout.source.first) (z : onward s x k (place_before s x k) ≡ s.count) where
      none_on : (i : ℕ) → i < s.count → place_before s x k ≤ i → is_shot s x k i ≡ true → ⊥
      unfolding onward
      none_on i h l t = from_gone s.count (place_before s x k) (is_shot s x k) i (omega arith) h l t

      -- the shot of the line just before stands further on
      ahead : (j : ℕ) → shot_line s (relation_at x k) ≡ j → j < place_before s x k → (m : ℕ) → m ≡ k
          → if_before (λ i. not (is_data x i) || leb (shot_line s (relation_at x i)) (shot_line s (relation_at x k))) m ≡ false
      unfolding place_before if_before pick
      ahead j y l zero q = let u : place_before s x 0 ≡ place_before s x k = ap (place_before s x) q in absurd (omega arith)
      ahead j y l (suc m) q = let u : place_before s x (suc m) ≡ place_before s x k = ap (place_before s x) q in go (is_data x m) refl u
        where
          go : (t : Bool) → is_data x m ≡ t → pick (is_data x m) (shot_line s (relation_at x m)) 0 ≡ place_before s x k
              → (not t || leb (shot_line s (relation_at x m)) (shot_line s (relation_at x k))) ≡ false
          go true d u =
              let v : shot_line s (relation_at x m) ≡ place_before s x k = ap (λ (b : Bool). pick b (shot_line s (relation_at x m)) 0) (sym d) ∙ u in
              lt-leb (shot_line s (relation_at x m)) (shot_line s (relation_at x k)) (omega arith)
          go false d u =
              let v : 0 ≡ place_before s x k = ap (λ (b : Bool). pick b (shot_line s (relation_at x m)) 0) (sym d) ∙ u in
              absurd (omega arith)

      pub gone_before : (j : ℕ) → j ≡ onward s x k 0 → j < s.count → refused (№ 14 3 (k + 1) c) ≡ run (shot_found s x k)
      unfolding onward rule14
      gone_before j e h =
          let w = (from_found s.count 0 (is_shot s x k) j e h).1 in
          let y = one_shot j h w in
          let l : place_before s x k ≤ j → ⊥ = λ g. none_on j h g w in
          ap (λ (c : ℕ). refused (№ 14 3 (k + 1) c)) lay ∙ need_broken _ _ (ahead j y (omega arith) k refl) ∙ before_met _ _ (thirteen j h w)

      pub gone : (j : ℕ) → j ≡ onward s x k 0 → (j < s.count → ⊥) → refused (№ 13 3 (k + 1) c) ≡ run (shot_found s x k)
      unfolding onward rule13 is_shot
      gone j e h =
          ap (λ (c : ℕ). refused (№ 13 3 (k + 1) c)) lay
          ∙ before_broken _ _ _ (need_broken _ _ (yes_no (some s.count (is_shot s x k)) (λ t. absurd (no t)) (λ t. none t)))
        where
          no : some s.count (is_shot s x k) ≡ true → ⊥
          no t =
              let w = (some_is s.count (is_shot s x k)).0 t in
              let l : least s.count (on_from s.count 0 (is_shot s x k)) ≤ w.0 → ⊥ = λ g. h (let z = w.1 in omega arith) in
              from_gone s.count 0 (is_shot s x k) w.0 (omega arith) w.1 (omega arith) w.2

          none : (some s.count (is_shot s x k) ≡ true → ⊥) → some s.count (is_shot s x k) ≡ false
          none f = untrue (some s.count (is_shot s x k)) f
