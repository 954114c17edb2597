-- 19 of relation line k, by what the code finds.
--   column          = where it is refused
--   pairs_fine, pairs_broken   = by pairs
--   marks_fine, marks_broken   = by marks
use Prim.Native.Nat.{ℕ, ◌+◌, ◌-◌, ◌≤◌, ◌<◌}
use native.Mathlib.Omega.{arith}
use mathlib.Core.Path.{◌≡◌, refl, sym, ◌∙◌}
use mathlib.Core.Bool.{Bool, true, false}
use mathlib.Core.List.{List}
use lib.ListN.{length}
use Rattle.rules.specs.Plan.{fine, refused, №, run}
use Rattle.rules.specs.Layout.{sps93}
use Rattle.rules.specs.Sheet.{Sheet}
use Rattle.rules.specs.Lines.{is_point}
use Rattle.rules.specs.Order.{rule19}
use Rattle.lines.specs.declared.Reading.{Reading}
use Rattle.lines.specs.Reading.{sheet_of}
use Rattle.lines.proofs.Sheets.{layout_is}
use Rattle.order.specs.Listed.{Placed}
use Rattle.keys.proofs.Lines.{takes_receiver}
use Rattle.once.specs.Covered.{apart, some_marked}
use Rattle.once.specs.Marks.{Ready}
use Rattle.once.proofs.Pairs.{apart_fine, apart_broken}
use Rattle.once.proofs.Rows.{marked_fine, marked_broken}
use Rattle.once.proofs.Keeping.{marked}

pub column : (how : Reading) (x : List ℕ) → 64 ≡ (sheet_of how x).layout.from_receiver.first
unfolding sps93
column how x = rw (layout_is how x)

module _ (r : Sheet) (o : List ℕ) (x : Sheet) (t : List ℕ) (a k : ℕ) (w : Ready r o x t a k) (s : Bool) where
  row : (j : ℕ) → j < r.count → is_point r j ≡ true → Placed o (length o) j
  row j h p = w.rows.placed j h (takes_receiver r j h ∙ p)

  module _ (e : s ≡ apart x a k) where
    pub pairs_fine : s ≡ true → fine ≡ run (rule19 x k)
    pairs_fine = apart_fine x a k w.own s e

    pub pairs_broken : (c : ℕ) → c ≡ x.layout.from_receiver.first → s ≡ false → refused (№ 19 3 (k + 1) c) ≡ run (rule19 x k)
    pairs_broken = apart_broken x a k w.own s e

  module _ (h : 8 ≤ k - a) (v : ℕ) (m : v ≡ a + 1) (e : s ≡ some_marked r o x k t v) where
    found_marked : s ≡ some_marked r o x k t (a + 1)
    found_marked = rw m at e

    pub marks_fine : s ≡ false → fine ≡ run (rule19 x k)
    marks_fine y =
        apart_fine x a k w.own true
        (sym (marked_fine r o x row t a k (marked r o x t a k w h) s found_marked (w.there k w.lines.0 (omega arith)) y)) refl

    pub marks_broken : (c : ℕ) → c ≡ x.layout.from_receiver.first → s ≡ true → refused (№ 19 3 (k + 1) c) ≡ run (rule19 x k)
    marks_broken c l y =
        apart_broken x a k w.own false (sym (marked_broken r o x row t a k (marked r o x t a k w h) s found_marked y)) c l refl
