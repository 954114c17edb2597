-- What a slice takes, step by step, over how a place is put.
--   taken_short     = places from m on of which none passes are not taken
--   none_taken      = nothing is taken where no channel passes
--   taken_as        = the same channels and values, told otherwise
--   taken_one       = one more place takes its channel's value; none_between = no place yet
--   taken_then      = what is taken first, and what is taken then
--   all_taken       = zeros first, then what passes: each place has its channel's value
use Prim.Native.Nat.{ℕ, zero, suc, ◌+◌, ◌≤◌, ◌<◌}
use native.Mathlib.Nat.{eq-or-lt_of_le}
use native.Mathlib.Omega.{arith}
use mathlib.Core.Path.{◌≡◌, refl, sym, ap, ◌∙◌}
use mathlib.Core.Logic.{⊎_elim}
use mathlib.Core.Bool.{Bool, true, false, ◌&&◌, ◌||◌, and-false}
use mathlib.Core.List.{List}
use lib.Dec.{leb, ltb}
use borrow.Author.Tests.{leb-true, le-leb, lt-ltb, le-ltb, ltb-true}
use Rattle.rules.specs.Places.{pick}
use Rattle.rules.specs.Spread.{turns, Put}
use Rattle.rules.proofs.Tests.{clash, agree, and_is}
use Rattle.spread.specs.Taken.{taken, between}
use Rattle.spread.specs.Puts.{Apart}

pub is_between : (a e c : ℕ) → a ≤ c → c < e → between a e c ≡ true
is_between a e c h g = (and_is (leb a c) (ltb c e)).1 (le-leb a c h, lt-ltb c e g)

pub not_before : (a e c : ℕ) → e ≤ c → between a e c ≡ false
not_before a e c h = rw (le-ltb c e h) (and-false (leb a c))

pick_same : {A : Type 0} (b : Bool) (x y z : A) → (b ≡ true → x ≡ y) → pick b x z ≡ pick b y z
unfolding pick
pick_same true x y z f = f refl
pick_same false x y z f = refl

module _ (put : Put) where
  step_on : (p : ℕ → Bool) (v : ℕ → ℕ) (m : ℕ) (d : List ℕ) → p (m + 1) ≡ true → taken put p v (suc m) d ≡ put v m (taken put p v m d)
  unfolding taken pick
  step_on p v m d e = rw e

  step_off : (p : ℕ → Bool) (v : ℕ → ℕ) (m : ℕ) (d : List ℕ) → p (m + 1) ≡ false → taken put p v (suc m) d ≡ taken put p v m d
  unfolding taken pick
  step_off p v m d e = rw e

  pub taken_short : (p : ℕ → Bool) (v : ℕ → ℕ) (m n : ℕ) (d : List ℕ) → m ≤ n → ((i : ℕ) → m ≤ i → i < n → p (i + 1) ≡ false)
      → taken put p v n d ≡ taken put p v m d
  taken_short p v m zero d h f = ap (λ (j : ℕ). taken put p v j d) (let z : 0 ≡ m = omega arith in z)
  taken_short p v m (suc n) d h f =
      ⊎_elim (λ (z : m ≡ suc n). ap (λ (j : ℕ). taken put p v j d) (sym z))
      (λ (z : m < suc n).
      step_off p v n d (f n (omega arith) (omega arith))
      ∙ taken_short p v m n d (omega arith) (λ i a b. f i a (omega arith)))
      (eq-or-lt_of_le h)

  pub none_taken : (p : ℕ → Bool) (v : ℕ → ℕ) (n : ℕ) (d : List ℕ) → ((i : ℕ) → i < n → p (i + 1) ≡ false) → d ≡ taken put p v n d
  unfolding taken
  none_taken p v n d f = sym (taken_short p v 0 n d (omega arith) (λ i _ h. f i h))

  all_turns : (v : ℕ → ℕ) (n : ℕ) (d : List ℕ) → turns (put v) n d ≡ taken put (λ _. true) v n d
  unfolding turns taken pick
  all_turns v zero d = refl
  all_turns v (suc n) d = ap (put v n) (all_turns v n d)

  pub taken_size : (room : List ℕ → ℕ) → ((v : ℕ → ℕ) (i : ℕ) (l : List ℕ) → room (put v i l) ≡ room l)
      → (p : ℕ → Bool) (v : ℕ → ℕ) (n : ℕ) (d : List ℕ) → room (taken put p v n d) ≡ room d
  unfolding taken pick
  taken_size room size p v zero d = refl
  taken_size room size p v (suc n) d = go (p (n + 1)) (taken put p v n d) (taken_size room size p v n d)
    where
      go : (b : Bool) (l : List ℕ) → room l ≡ room d → room (pick b (put v n l) l) ≡ room d
      go true l e = size v n l ∙ e
      go false l e = e

  module _ (w : Apart put) where
    pub taken_as : (p q : ℕ → Bool) (u v : ℕ → ℕ) (n : ℕ) (d : List ℕ) → ((i : ℕ) → i < n → p (i + 1) ≡ q (i + 1))
        → ((i : ℕ) → i < n → q (i + 1) ≡ true → u (i + 1) ≡ v (i + 1)) → taken put p u n d ≡ taken put q v n d
    unfolding taken
    taken_as p q u v zero d e f = refl
    taken_as p q u v (suc n) d e f =
        let l : List ℕ = taken put q v n d in
        ap (λ (m : List ℕ). pick (p (n + 1)) (put u n m) m) (taken_as p q u v n d (λ i h. e i (omega arith)) (λ i h. f i (omega arith)))
        ∙ ap (λ (b : Bool). pick b (put u n l) l) (e n (omega arith))
        ∙ pick_same (q (n + 1)) (put u n l) (put v n l) l (λ t. w.same u v n l (f n (omega arith) t))

    -- a put behind the places that are taken may come before them
    past : (p : ℕ → Bool) (v : ℕ → ℕ) (n i : ℕ) → n ≤ i → (u : ℕ → ℕ) (d : List ℕ)
        → taken put p v n (put u i d) ≡ put u i (taken put p v n d)
    unfolding taken pick
    past p v zero i h u d = refl
    past p v (suc n) i h u d =
        ap (λ (m : List ℕ). pick (p (n + 1)) (put v n m) m) (past p v n i (omega arith) u d)
        ∙ go (p (n + 1)) (taken put p v n d)
      where
        go : (b : Bool) (l : List ℕ) → pick b (put v n (put u i l)) (put u i l) ≡ put u i (pick b (put v n l) l)
        go true l = w.apart u v i n l (λ e. omega arith)
        go false l = refl

    over : (p q : ℕ → Bool) (u v : ℕ → ℕ) (n : ℕ) (d : List ℕ)
        → taken put q v n (taken put p u n d) ≡ taken put (λ c. p c || q c) (λ c. pick (q c) (v c) (u c)) n d
    unfolding taken pick
    over p q u v zero d = refl
    over p q u v (suc n) d =
        go (p (n + 1)) (q (n + 1)) refl (taken put p u n d)
        (λ i. taken put q v n i) (λ i. past q v n n (omega arith) u i)
        ∙ ap (λ (l : List ℕ). pick (p (n + 1) || q (n + 1)) (put (λ c. pick (q c) (v c) (u c)) n l) l) (over p q u v n d)
      where
        go : (a b : Bool) → q (n + 1) ≡ b → (l : List ℕ) (T : List ℕ → List ℕ) → ((l : List ℕ) → T (put u n l) ≡ put u n (T l))
            → pick b (put v n (T (pick a (put u n l) l))) (T (pick a (put u n l) l))
            ≡ pick (a || b) (put (λ c. pick (q c) (v c) (u c)) n (T l)) (T l)
        go true true e l T f =
            ap (put v n) (f l) ∙ w.again u v n (T l) ∙ w.same v (λ c. pick (q c) (v c) (u c)) n (T l) (rw e)
        go true false e l T f = f l ∙ w.same u (λ c. pick (q c) (v c) (u c)) n (T l) (rw e)
        go false true e l T f = w.same v (λ c. pick (q c) (v c) (u c)) n (T l) (rw e)
        go false false e l T f = refl

    pub taken_then : (p q : ℕ → Bool) (v : ℕ → ℕ) (n : ℕ) (d : List ℕ)
        → taken put q v n (taken put p v n d) ≡ taken put (λ c. p c || q c) v n d
    unfolding pick
    taken_then p q v n d =
        over p q v v n d
        ∙ taken_as (λ c. p c || q c) (λ c. p c || q c) (λ c. pick (q c) (v c) (v c)) v n d (λ i h. refl) (λ i h t. once (q (i + 1)) (v (i + 1)))
      where
        once : (b : Bool) (m : ℕ) → pick b m m ≡ m
        once true m = refl
        once false m = refl

    -- place i takes the value m of its channel c, the next after those between a and c
    pub taken_one : (v : ℕ → ℕ) (a i c e n : ℕ) → c ≡ i + 1 → e ≡ c + 1 → a ≤ c → i < n → (d l : List ℕ)
        → l ≡ taken put (between a c) v n d → (m : ℕ) → m ≡ v c → put (λ _. m) i l ≡ taken put (between a e) v n d
    taken_one v a i c e n ec ee o h d l t m em =
        w.same (λ _. m) v i l (em ∙ ap v ec)
        ∙ ap (put v i)
        (t ∙ taken_short (between a c) v i n d (omega arith) (λ j g _. not_before a c (j + 1) (omega arith))
        ∙ taken_as (between a c) (between a e) v v i d
        (λ j g.
        ap (λ (b : Bool). leb a (j + 1) && b)
        (agree (ltb (j + 1) c) (ltb (j + 1) e)
        (λ y. let z = ltb-true (j + 1) c y in lt-ltb (j + 1) e (omega arith))
        (λ y. lt-ltb (j + 1) c (omega arith))))
        (λ j g y. refl))
        ∙ sym (step_on (between a e) v i d (is_between a e (i + 1) (omega arith) (omega arith)))
        ∙ sym (taken_short (between a e) v (suc i) n d h (λ j g _. not_before a e (j + 1) (omega arith)))

    pub none_between : (v : ℕ → ℕ) (a n : ℕ) (d : List ℕ) → d ≡ taken put (between a a) v n d
    none_between v a n d = none_taken (between a a) v n d (λ i _. nowhere (i + 1))
      where
        nowhere : (c : ℕ) → between a a c ≡ false
        nowhere c =
            agree _ _
            (λ t.
            let y = (and_is (leb a c) (ltb c a)).0 t in
            let h = leb-true a c y.0 in
            let g = ltb-true c a y.1 in
            absurd (omega arith))
            (λ t. clash t)

    pub all_taken : (p : ℕ → Bool) (v : ℕ → ℕ) (h n : ℕ) (d l m : List ℕ) → h ≤ n → ((i : ℕ) → h ≤ i → i < n → p (i + 1) ≡ false)
        → ((c : ℕ) → p c ≡ false → v c ≡ 0) → l ≡ turns (put (λ _. 0)) h d → m ≡ taken put p v n l → m ≡ turns (put v) h d
    unfolding pick
    all_taken p v h n d l m g f z el em =
        em ∙ taken_short p v h n l g f ∙ ap (taken put p v h) (el ∙ all_turns (λ _. 0) h d)
        ∙ over (λ _. true) p (λ _. 0) v h d
        ∙ taken_as (λ _. true) (λ _. true) (λ c. pick (p c) (v c) 0) v h d (λ i _. refl) (λ i _ _. value (p (i + 1)) (v (i + 1)) (z (i + 1)))
        ∙ sym (all_turns v h d)
      where
        value : (b : Bool) (u : ℕ) → (b ≡ false → u ≡ 0) → pick b u 0 ≡ u
        value true u e = refl
        value false u e = sym (e refl)
