-- "Refusal numbers, in the order they are looked for": rules as data, and the first breach among them.
--   № n f l c          = refusal number n, in file f, line l, column c; 0 where the paper names none
--   file_r, file_s, file_x = the files' numbers: R 1, S 2, X 3
--   fine, refused w    = a verdict
--   v or_else w         = the first of the two that refuses
--   first_of n f        = the first of f 0 .. f (n - 1) that refuses
--   pass               = nothing is looked for
--   need t w           = refusal w, given exactly when the test t fails
--   p before q         = p is looked for, then q
--   up_to n p           = p 0, then p 1, .. then p (n - 1)
--   when t p           = p is looked for where the test t passes
--   run p              = the first refusal of a plan
use Rattle.std.specs.Prelude.{ℕ, zero, suc, Bool}
use Rattle.rules.specs.Places.{pick}

pub data Refusal : Type 0 where
  № : (number file line column : ℕ) → Refusal

abbrev pub file_r : ℕ
file_r = 1

abbrev pub file_s : ℕ
file_s = 2

abbrev pub file_x : ℕ
file_x = 3

pub data Verdict : Type 0 where
  fine : Verdict
  refused : Refusal → Verdict

infixr 40 ◌or_else◌
unfoldable pub ◌or_else◌ : Verdict → Verdict → Verdict
fine or_else v = v
refused w or_else v = refused w

unfoldable pub first_of : ℕ → (ℕ → Verdict) → Verdict
first_of zero f = fine
first_of (suc n) f = let v = f n in first_of n f or_else v

infixr 40 ◌before◌
pub data Plan : Type 0 where
  pass : Plan
  need : Bool → Refusal → Plan
  ◌before◌ : Plan → Plan → Plan
  up_to : ℕ → (ℕ → Plan) → Plan
  when : Bool → Plan → Plan

unfoldable pub run : Plan → Verdict
run pass = fine
run (need t w) = pick t fine (refused w)
run (p before q) = let v = run q in run p or_else v
run (up_to n p) = first_of n (λ k. run (p k))
run (when t p) = let v = run p in pick t v fine
