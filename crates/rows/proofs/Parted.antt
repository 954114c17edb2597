-- The rows of a part of a relation line, put one after the other.
--   part_length     = sixteen bytes a row
--   component_few, component_low = a component is at most the increment, and so has one digit
--   part_none, part_more = no row is put yet; one more
use Prim.Native.Nat.{ℕ, zero, suc, ◌+◌, ◌-◌, ◌*◌, ◌%◌, ◌≤◌, ◌<◌}
use native.Mathlib.Nat.{mod-lt}
use native.Mathlib.Omega.{arith}
use mathlib.Core.Path.{◌≡◌, refl, ap, ◌∙◌}
use mathlib.Core.List.{List, ◌++◌}
use lib.ListN.{length, length-append}
use Rattle.rules.specs.Relations.{Reach}
use Rattle.rules.specs.Cover.{component}
use Rattle.rules.specs.Hosts.{low_bytes}
use Rattle.order.specs.Sorted.{nth}
use Rattle.records.specs.declared.relation.Reach.{Reach as ReachValues}
use Rattle.spread.specs.RowLine.{row_to, Led}
use Rattle.rows.specs.Spliced.{spliced}
use Rattle.rows.specs.Parts.{row_by, part_rows}
use Rattle.rows.proofs.Splices.{low_length, spliced_none, spliced_after}

pub component_few : (v : Reach) (c : ℕ) → 1 ≤ v.step → component v c ≤ v.step
unfolding component
component_few v c h = let m : (c - v.from) % v.step < v.step = mod-lt (c - v.from) h in omega arith

pub component_low : (q : ReachValues) (o : List ℕ) (e c : ℕ) (w : Led q o e c) → q.step ≤ 9 → component w.reach c ≤ 9
component_low q o e c w f =
    let z = ap (λ (q : ReachValues). q.step) w.coded in
    let h = w.one in
    let n = component_few w.reach c (omega arith) in
    omega arith

module _ (l : ℕ) (o t : List ℕ) (e : ℕ) (v : Reach) (channel : ℕ) where
  pub part_length : (n : ℕ) → length (part_rows l o t e v channel n) ≡ 16 * n
  unfolding part_rows
  part_length zero = refl
  part_length (suc n) = let i = part_length n in simp (length-append, low_length) (omega arith)

  pub part_none : (at n : ℕ) (d : List ℕ) → n ≡ 0 → d ≡ spliced at (part_rows l o t e v channel n) d
  unfolding part_rows
  part_none at n d z = rw (z, spliced_none)

  -- row i is that of channel c
  pub part_more : (place c i : ℕ) (d p p' : List ℕ) → place ≤ i → c ≡ channel + (i - place) → 16 * i ≤ length d
      → p ≡ spliced (16 * place) (part_rows l o t e v channel (i - place)) d → (j m : ℕ) → j ≡ row_to e v c → m ≡ component v c
      → p' ≡ spliced (16 * i) (low_bytes 4 l ++ (low_bytes 4 c ++ (low_bytes 4 (nth o j + 1) ++ low_bytes 4 (m + 256 * nth t j)))) p
      → p' ≡ spliced (16 * place) (part_rows l o t e v channel (i + 1 - place)) d
  unfolding part_rows
  part_more place c i d p p' h ec g ep j m ej em f =
      let n : i + 1 - place ≡ suc (i - place) = omega arith in
      let y = part_length (i - place) in
      let z : p' ≡ spliced (16 * i) (row_by l o t e v (channel + (i - place))) p = f ∙ (rw (ej, em, ec)) in
      rw n (spliced_after (16 * place) (16 * i) (part_rows l o t e v channel (i - place)) _ d p p' (omega arith) (omega arith) ep z)
