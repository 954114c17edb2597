-- One outcome: two outcomes of a function, a result and what stands behind each `&mut` at exit, that meet its contract at the same
-- arguments are the same.
--   One T Post   = the contract `Post` of the function with signature T leaves one outcome
--   alike        = two results that are the same value are equal, where nothing stands behind a `&mut`
--   both         = two pairs are equal where their parts are
use Rattle.std.specs.Prelude.{◌≡◌, refl}
use Rattle.std.proofs.Common.{sym, ◌∙◌}
use contract.Lifetimes.{Lfts}
use denote.Triple.Clauses.{Ended, AtExit, at_exit, Lasts}
use denote.Triple.Entry.{Args, Res}

abbrev pub One : (T : Ended) → ((κs : Lfts T.signature.lifetimes) → Args T.signature κs → Res T.signature κs → AtExit T κs → Type 0) → Type 0
One T Post =
    (κs : Lfts T.signature.lifetimes) (a : Args T.signature κs) (v v' : Res T.signature κs) (w w' : Lasts T κs a) →
    Post κs a v (at_exit T κs a w) → Post κs a v' (at_exit T κs a w') → (v ≡ v') × (w ≡ w')

pub alike : {A B : Type 0} {x v v' : A} {w : B} → v ≡ x → v' ≡ x → (v ≡ v') × (w ≡ w)
alike p p' = (p ∙ sym p', refl)

pub both : {A B : Type 0} {a a' : A} {b b' : B} → a ≡ a' → b ≡ b' → ◌≡◌ {A = A × B} (a, b) (a', b')
both p q = cc
