-- What a call of the writer says and leaves, in words. ok says that the values go into the line l; o stands in the slice before, e after.
--   refusal n = the refusal of that number, of no file
--   Told ok l o e v = written exactly where the values go and the slice has 82 bytes; "22 .., then 23 for a slice shorter than 82 bytes; nothing is written"
use Rattle.std.specs.Prelude.{ℕ, ◌≤◌, ◌<◌, ◌≡◌, ◌↔◌, Bool, true, List, ◌++◌, length, drop}
use Rattle.std.specs.Prelude.{Ok, Err}
use Rattle.lines.specs.Paper.{Verdict}

abbrev pub refusal : ℕ → Verdict
refusal n = Err (record { number = n; file = 0; line = 0; column = 0 })

pub record Told (ok : Bool) (l o e : List ℕ) (v : Verdict) : Type 0 where
  pub fine_when : (v ≡ Ok tt) ↔ ((ok ≡ true) × (82 ≤ length o))
  pub twenty_two : (v ≡ refusal 22) ↔ (ok ≡ true → ⊥)
  pub twenty_three : (v ≡ refusal 23) ↔ ((ok ≡ true) × (length o < 82))
  -- "its 82 bytes at the start of a lent slice; later bytes stay"
  pub written : v ≡ Ok tt → e ≡ l ++ drop (length l) o
  -- "nothing is written"
  pub unwritten : (v ≡ Ok tt → ⊥) → e ≡ o
