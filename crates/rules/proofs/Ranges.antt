-- What `any` and `all` say of the numbers of a range, as `some` and `every`.
--   some_from_any  = one of the numbers below n passes
--   every_from_all = each number from a on and below b passes
use native.Mathlib.Omega.{arith}
use mathlib.Core.Path.{◌≡◌, refl, sym, ap, ap₂, ◌∙◌}
use mathlib.Core.Bool.{Bool, true, false, not, ◌&&◌, ◌||◌}
use Prim.Native.Nat.{ℕ, zero, suc, ◌+◌, ◌-◌, ◌≤◌, ◌<◌}
use denote.Param.Members.{Mut}
use lib.Dec.{leb}
use borrow.Author.Tests.{le-leb, leb-true}
use Rattle.std.proofs.Common.{rules}
use Rattle.std.proofs.iter.Yields.{nat_range_steps}
use Rattle.std.proofs.lemmas.Iterator.{YieldsList-from_range}
use Rattle.std.proofs.lemmas.Iterator.Search.{any_from_yields_List, all_from_yields_List}
use Rattle.std.specs.declared.ops.Range.{Range}
use Rattle.std.specs.Fn.{Called}
use Rattle.std.specs.Iterator.{ChecksAny, ChecksAll}
use Rattle.std.specs.List.{list_any, list_all, range_with_len}
use Rattle.rules.specs.Places.{some, every}
use Rattle.rules.proofs.Tests.{every_is, imp_is}

last_none : (a : Bool) → a ≡ (a || false)
last_none true = refl
last_none false = refl

or_last : (a b c : Bool) → (a || (b || c)) ≡ ((a || b) || c)
or_last true b c = refl
or_last false b c = refl

some_first : (n : ℕ) (p : ℕ → Bool) → some (suc n) p ≡ (p zero || some n (λ k. p (suc k)))
unfolding some
some_first zero p = last_none (p zero)
some_first (suc n) p = ap (λ (t : Bool). t || p (suc n)) (some_first n p) ∙ sym (or_last (p zero) _ _)

any_some : (n a : ℕ) (p q : ℕ → Bool) → ((k : ℕ) → p (a + k) ≡ q k) → list_any p (range_with_len a n) ≡ some n q
unfolding some
any_some zero a p q e = refl
any_some (suc n) a p q e =
    ap₂ (λ (s t : Bool). s || t)
    (ap p (let z : a ≡ a + 0 = omega arith in z) ∙ e 0)
    (any_some n (a + 1) p (λ k. q (suc k)) (λ k. ap p (let z : a + 1 + k ≡ a + suc k = omega arith in z) ∙ e (suc k)))
    ∙ sym (some_first n q)

and_last : (a b c : Bool) → (a && (b && c)) ≡ ((a && b) && c)
and_last true b c = refl
and_last false b c = refl

last_all : (a : Bool) → a ≡ (a && true)
last_all true = refl
last_all false = refl

every_first : (n : ℕ) (p : ℕ → Bool) → every (suc n) p ≡ (p zero && every n (λ k. p (suc k)))
unfolding every
every_first zero p = last_all (p zero)
every_first (suc n) p = ap (λ (t : Bool). t && p (suc n)) (every_first n p) ∙ sym (and_last (p zero) _ _)

all_every : (n a : ℕ) (p q : ℕ → Bool) → ((k : ℕ) → p (a + k) ≡ q k) → list_all p (range_with_len a n) ≡ every n q
unfolding every
all_every zero a p q e = refl
all_every (suc n) a p q e =
    ap₂ (λ (s t : Bool). s && t)
    (ap p (let z : a ≡ a + 0 = omega arith in z) ∙ e 0)
    (all_every n (a + 1) p (λ k. q (suc k)) (λ k. ap p (let z : a + 1 + k ≡ a + suc k = omega arith in z) ∙ e (suc k)))
    ∙ sym (every_first n q)

module _ (a : ℕ) (p : ℕ → Bool) where
  abbrev from_there : ℕ → Bool
  from_there j = not (leb a j) || p j

  none_there : (b : ℕ) → b ≤ a → every b from_there ≡ true
  none_there b h = (every_is b from_there).1 (λ j l. (imp_is (leb a j) (p j)).1 (λ t. let z = leb-true a j t in absurd (omega arith)))

  from_on : (n : ℕ) → every n (λ k. p (a + k)) ≡ every (a + n) from_there
  unfolding every
  from_on zero = sym (none_there (a + 0) (omega arith))
  from_on (suc n) = rw (let z : a + suc n ≡ suc (a + n) = omega arith in z)
      (ap₂ (λ (s t : Bool). s && t) (from_on n) (here (leb a (a + n)) (le-leb a (a + n) (omega arith))))
    where
      here : (t : Bool) → t ≡ true → p (a + n) ≡ (not t || p (a + n))
      here true e = refl
      here false e = cc

  every_from : (b : ℕ) → every (b - a) (λ k. p (a + k)) ≡ every b from_there
  unfolding every
  every_from b = go (leb a b) refl
    where
      go : (t : Bool) → leb a b ≡ t → every (b - a) (λ k. p (a + k)) ≡ every b from_there
      go true e =
          let l = leb-true a b e in
          from_on (b - a) ∙ ap (λ (m : ℕ). every m from_there) (let z : a + (b - a) ≡ b = omega arith in z)
      go false e =
          let l : b ≤ a = search rules in
          ap (λ (m : ℕ). every m (λ k. p (a + k))) (let z : b - a ≡ 0 = omega arith in z) ∙ sym (none_there b l)

module _ {F : Type 0} {g : Mut F (ℕ × Unit {0}) Bool} {s u : Range ℕ} {f : F} {r : Bool} (p : ℕ → Bool) where
  pub some_from_any : (n : ℕ) → ChecksAny nat_range_steps g s f r u → s ≡ record { start = 0; end = n }
      → ((x : ℕ) (b : Bool) (q : F) → Called g f (x, tt) b q → (q ≡ f) × (b ≡ p x)) → r ≡ some n p
  some_from_any n ran e tells =
      any_from_yields_List p _ _ _ ran (YieldsList-from_range 0 n n e (omega arith)) tells
      ∙ any_some n 0 p p (λ k. ap p (let z : 0 + k ≡ k = omega arith in z))

  pub every_from_all : (a b : ℕ) → ChecksAll nat_range_steps g s f r u → s ≡ record { start = a; end = b }
      → ((x : ℕ) (b : Bool) (q : F) → Called g f (x, tt) b q → (q ≡ f) × (b ≡ p x)) → r ≡ every b (λ j. not (leb a j) || p j)
  every_from_all a b ran e tells =
      all_from_yields_List p _ _ _ ran (YieldsList-from_range a b (b - a) e refl) tells
      ∙ all_every (b - a) a p (λ k. p (a + k)) (λ k. refl) ∙ every_from a p b
