-- The dead traces of a relation line by two running counts.
--   not_relation, relation_line_lem = line k by what the code finds
--   sized, between              = the counts at two rows, and their difference
--   inside_rows                 = the receivers of the line are rows
--   product, product_small      = how many of them are killed, times the increment
use Prim.Native.Nat.{ℕ, ◌+◌, ◌*◌, ◌≤◌, ◌<◌}
use native.Mathlib.Nat.{mul-le-mul}
use native.Mathlib.Omega.{arith}
use mathlib.Core.Path.{◌≡◌, sym, ap, ap₂, ◌∙◌}
use mathlib.Core.Bool.{Bool, true, false}
use mathlib.Core.List.{List}
use lib.ListN.{length}
use Rattle.rules.specs.Places.{pick, count}
use Rattle.rules.specs.Sheet.{Sheet, most_lines}
use Rattle.rules.specs.Lines.{is_data}
use Rattle.rules.specs.Points.{point_at, is_killed}
use Rattle.rules.specs.Relations.{Reach, reach_at}
use Rattle.rules.specs.Cover.{receivers}
use Rattle.rules.proofs.Dead.{count_alike}
use Rattle.keys.specs.Held.{RelationLine}
use Rattle.keys.specs.Keyed.{takes_at}
use Rattle.keys.specs.declared.By.TheVariants.{Records}
use Rattle.keys.proofs.Lines.{takes_record}
use Rattle.order.specs.Sorted.{nth}
use Rattle.receivers.specs.Rows.{first_row}
use Rattle.receivers.proofs.There.{inside, row_line_lem}
use Rattle.dead.specs.Dead.{killed_row, Tally, Summed, dead_at}
use Rattle.dead.proofs.Counting.{count_one, count_add, count_most}
use Rattle.dead.proofs.Accepted.{killed_on, all_there, dead_by_receivers}

-- t says whether line k is a relation line
module _ (x : Sheet) (k : ℕ) (h : k < x.count) (t : Bool) (q : t ≡ takes_at Records x k) where
  is_data_lem : is_data x k ≡ t
  is_data_lem = sym (q ∙ takes_record x k h)

  pub not_relation : (r : Sheet) → t ≡ false → 0 ≡ dead_at r x k
  unfolding pick
  not_relation r n = let d : is_data x k ≡ false = is_data_lem ∙ n in rw d

  pub relation_line_lem : t ≡ true → RelationLine x k
  relation_line_lem y = (h, is_data_lem ∙ y)

-- n = what stands at row e + d, and one for row e itself, without what stands at row e
module _ (r : Sheet) (o t : List ℕ) (w : Tally r o t) (e d : ℕ) (h : e + d < length o) (one : ℕ) (f : one ≡ pick (killed_row r o e) 1 0) where
  pub sized : nth t (e + d) + one ≤ 20000
  unfolding most_lines
  sized =
      let y = count_most (killed_row r o) (e + d + 1) in
      let z = count_most (killed_row r o) (e + 1) in
      let c = count_one (killed_row r o) e in
      omega (arith, w.counted (e + d) h, w.lines.few)

  pub between : nth t (e + d) + one ≡ count (d + 1) (λ i. killed_row r o (e + i)) + nth t e
  between =
      let z : e + d + 1 ≡ e + (d + 1) = omega arith in
      let a = w.counted (e + d) h ∙ ap (λ (n : ℕ). count n (killed_row r o)) z ∙ count_add (killed_row r o) e (d + 1) in
      let b = w.counted e (omega arith) in
      let c = count_one (killed_row r o) e in
      omega arith

module _ (r : Sheet) (o : List ℕ) (x : Sheet) (t : List ℕ) (w : Summed r o x t) (k : ℕ) (h : RelationLine x k) (e : ℕ)
    (ee : e ≡ first_row r o x k) (d : ℕ) (ed : d + 1 ≡ receivers (reach_at x k)) where
  abbrev q : Reach
  q = reach_at x k

  pub inside_rows : e + d < length o
  inside_rows =
      let i = inside r o w.set.receivers w.rows x k w.set.relations w.set.alike h (all_there r x w.set k h) in
      omega arith

  module _ (n : ℕ) (en : n ≡ count (d + 1) (λ i. killed_row r o (e + i))) where
    killed : n ≡ count (receivers q) (killed_on r q)
    killed =
        en ∙ ap (λ (m : ℕ). count m (λ i. killed_row r o (e + i))) ed
        ∙ count_alike (receivers q) _ _
        (λ i g.
        ap (λ (j : ℕ). is_killed (point_at r j))
        (ap (λ (j : ℕ). nth o (j + i)) ee
        ∙ row_line_lem r o w.set.receivers w.rows x k w.set.relations w.set.alike h (all_there r x w.set k h) i g))

    -- the increment times that many
    module _ (s : ℕ) (es : s ≡ q.step) where
      pub product : n * s ≡ dead_at r x k
      unfolding pick
      product = let y : is_data x k ≡ true = h.1 in rw y (ap₂ ◌*◌ killed es ∙ sym (dead_by_receivers r x w.set k h))

      pub product_small : s < 16 → n * s < 4294967296
      unfolding most_lines
      product_small b =
          let i = inside_rows in
          let m = count_most (λ i. killed_row r o (e + i)) (d + 1) in
          let a : n ≤ 9999 = omega (arith, w.tally.lines.few) in
          let c : s ≤ 15 = omega arith in
          let z : n * s ≤ 9999 * 15 = mul-le-mul a c in
          omega arith
