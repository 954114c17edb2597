-- The traces of a line, from the channels that the code reads.
use Prim.Native.Nat.{ℕ, ◌+◌, ◌-◌, ◌<◌}
use native.Mathlib.Omega.{arith}
use mathlib.Core.Path.{◌≡◌, sym, ap₂, ◌∙◌}
use mathlib.Core.Bool.{Bool, true, false}
use Rattle.rules.specs.Places.{pick}
use Rattle.rules.specs.Sheet.{Sheet}
use Rattle.rules.specs.Lines.{is_data}
use Rattle.rules.specs.Relations.{reach_at}
use Rattle.rules.specs.Cover.{traces}
use Rattle.form.specs.Known.{Known}
use Rattle.form.proofs.Known.{upto_small}
use Rattle.keys.specs.Keyed.{takes_at}
use Rattle.keys.specs.Held.{RelationLine}
use Rattle.keys.specs.declared.By.TheVariants.{Records}
use Rattle.keys.proofs.Lines.{takes_record}
use Rattle.rules.specs.TraceRows.{traces_at}

-- t says whether line k is a relation line
module _ (x : Sheet) (k : ℕ) (h : k < x.count) (t : Bool) (q : t ≡ takes_at Records x k) where
  is_data_lem : is_data x k ≡ t
  is_data_lem = sym (q ∙ takes_record x k h)

  pub no_traces : t ≡ false → 0 ≡ traces_at x k
  unfolding pick
  no_traces n = let d : is_data x k ≡ false = is_data_lem ∙ n in rw d

  pub relation_line_lem : t ≡ true → RelationLine x k
  relation_line_lem y = (h, is_data_lem ∙ y)

  -- from a to b are its channels
  module _ (y : t ≡ true) (w : Known 3 x) (a b m : ℕ) (e : a ≡ (reach_at x k).from) (f : b ≡ (reach_at x k).upto) (g : m ≡ b + 1 - a) where
    here : m ≡ traces (reach_at x k)
    unfolding traces
    here = g ∙ ap₂ (λ (a b : ℕ). b + 1 - a) e f

    pub some_traces : (m ≡ traces_at x k) × (m < 4294967296)
    unfolding pick traces
    some_traces = let d : is_data x k ≡ true = is_data_lem ∙ y in (rw d here, omega (arith, upto_small 3 x w k h, here))
