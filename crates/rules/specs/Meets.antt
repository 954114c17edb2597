-- "A set is accepted exactly when it meets the SPS text": a field for each refusal 1 to 19, 24 and 25, in words; those of 1 to 6 stand in `Formed`, for
-- each file. And the counts of a set that does.
--   Relations x P     = P of each relation line
--   Meets r s x       = the set meets every rule
--   Lines f P l       = l are the lines of which P holds, each once, in their order
--   total g l         = the sum of g over a list
--   DeadTrace r x k c = channel c of relation line k leads to a killed receiver
--   Totals r s x a b c d e = those are its receivers, shots, relation lines, traces and dead traces
use Rattle.std.specs.Prelude.{ℕ, ◌+◌, ◌<◌, ◌≡◌, ◌↔◌, length}
use mathlib.Core.List.{List, [], ◌∷◌, Memᴰ}
use Rattle.rules.specs.Plan.{file_r, file_s, file_x}
use Rattle.rules.specs.Sheet.{Sheet}
use Rattle.rules.specs.Relations.{reach_at}
use Rattle.rules.specs.Cover.{traces, leads}
use Rattle.rules.specs.MeetsForm.{Data, Point, Formed}
use Rattle.rules.specs.MeetsHeaders.{Rule7, Rule8, Rule9}
use Rattle.rules.specs.MeetsCodes.{Rule24, Rule25}
use Rattle.rules.specs.MeetsCover.{Carries}
use Rattle.rules.specs.MeetsSet.{Receiver, Killed, Rule10, Rule11, Rule12, Rule13, Rule14, Rule15, Rule16, Rule17, Rule18, Rule19}

abbrev pub Relations : Sheet → (ℕ → Type 0) → Type 0
Relations x P = (k : ℕ) → k < x.count → Data x k → P k

pub record Meets (r s x : Sheet) : Type 0 where
  pub form_r : Formed file_r r
  pub form_s : Formed file_s s
  pub form_x : Formed file_x x
  pub rule7 : Rule7 r
  pub rule8 : (k : ℕ) → k < r.count → Rule8 r k
  pub rule9 : Rule9 r s × Rule9 r x
  pub rule24 : (k : ℕ) → k < r.count → Rule24 r k
  pub rule25_r : (k : ℕ) → k < r.count → Rule25 file_r r r k
  pub rule25_s : (k : ℕ) → k < s.count → Rule25 file_s r s k
  pub rule25_x : (k : ℕ) → k < x.count → Rule25 file_x r x k
  pub rule10 : (k : ℕ) → k < r.count → Rule10 r k
  pub rule11 : (k : ℕ) → k < s.count → Rule11 s k
  pub rule12 : (k : ℕ) → k < s.count → Rule12 s k
  pub rule13 : Relations x (Rule13 s x)
  pub rule14 : Relations x (Rule14 s x)
  pub rule15 : (k : ℕ) → k < s.count → Rule15 s x k
  pub rule16 : Relations x (Rule16 x)
  pub rule17 : Relations x (Rule17 x)
  pub rule18 : Relations x (Rule18 r x)
  pub rule19 : Relations x (Rule19 x)

abbrev pub Rising : List ℕ → Type 0
Rising [] = Unit {0}
Rising (a ∷ l) = ((b : ℕ) → Memᴰ b l → a < b) × Rising l

abbrev pub Lines : Sheet → (ℕ → Type 0) → List ℕ → Type 0
Lines f P l = Rising l × ((k : ℕ) → Memᴰ k l ↔ ((k < f.count) × P k))

abbrev pub total : (ℕ → ℕ) → List ℕ → ℕ
total g [] = 0
total g (k ∷ l) = g k + total g l

-- "A killed receiver holds a channel; its trace is dead."
abbrev pub DeadTrace : Sheet → Sheet → ℕ → ℕ → Type 0
DeadTrace r x k c =
    Carries (reach_at x k) c × ((j : ℕ) × (j < r.count) × (Receiver r (reach_at x k) (leads (reach_at x k) c) j × Killed r j))

-- "the number of receivers, shots, relation lines and traces (sum of T-F+1)", and "dead traces as a fifth number"
pub record Totals (r s x : Sheet) (a b c d e : ℕ) : Type 0 where
  pub receivers : (l : List ℕ) × Lines r (Point r) l × (length l ≡ a)
  pub shots : (l : List ℕ) × Lines s (Point s) l × (length l ≡ b)
  pub relations : (l : List ℕ) × Lines x (Data x) l × (length l ≡ c) × (total (λ k. traces (reach_at x k)) l ≡ d)
  pub dead : (l : List ℕ) × (cs : ℕ → List ℕ) × Lines x (Data x) l
      × ((k : ℕ) → k < x.count → Data x k → Rising (cs k) × ((c : ℕ) → Memᴰ c (cs k) ↔ DeadTrace r x k c))
      × (total (λ k. length (cs k)) l ≡ e)
