-- How the form of each file and the cross-check of the three hang together, in words.
--   Parts u v w a = u, v and w are the verdicts on the form of R, S and X, and a the answer of the cross-check
use Rattle.std.specs.Prelude.{◌≡◌, Ok, Err}
use Rattle.lines.specs.declared.Refusal.{Refusal}
use Rattle.lines.specs.Paper.{Verdict}
use Rattle.sets.specs.declared.Counts.{Counts}
use Rattle.sets.specs.Paper.{Answer}

pub record Parts (u v w : Verdict) (a : Answer) : Type 0 where
  -- three files are accepted only if each is well formed
  pub all_formed : (c : Counts) → a ≡ Ok c → (u ≡ Ok tt) × ((v ≡ Ok tt) × (w ≡ Ok tt))
  -- and if one is not, the set is refused as the first of the three is
  pub as_r : (e : Refusal) → u ≡ Err e → a ≡ Err e
  pub as_s : (e : Refusal) → u ≡ Ok tt → v ≡ Err e → a ≡ Err e
  pub as_x : (e : Refusal) → u ≡ Ok tt → v ≡ Ok tt → w ≡ Err e → a ≡ Err e
