-- What `writer::line::field` leaves to show.
use Prim.Native.Nat.{ℕ, ◌-◌}
use native.Mathlib.Omega.{arith}
use mathlib.Core.Path.{sym, ◌∙◌}
use lib.ListN.{length-replicate}
use Rattle.rules.proofs.Tests.{clash}
use Rattle.fields.proofs.Widths.{sized_is}
use Rattle.writer.proofs.Placed.{goes_not, goes_wide, starts_within, starts_count, goes_in, goes_there}
use Rattle.writer.proofs.line.field.Goals as goal

pub returns-then-not-allows : goal.returns-then-not-allows
returns-then-not-allows c = record {
  goes = goes_not c.args.w c.requires c.args.v _ c.allows.ensures.value c.if-not-allows.true;
  put = λ e. clash e;
}

pub text-n-requires : goal.text-n-requires
text-n-requires c = record {
  last_value = c.requires;
  v_value = sym c.allows.ensures.value ∙ c.if-not-allows.false;
}

pub returns-then-k-n : goal.returns-then-k-n
returns-then-k-n c = record {
  goes = goes_wide c.args.w c.requires c.args.v _ c.allows.ensures.value c.if-not-allows.false _ _
      c.text-n.ensures.starts _ c.width-k.ensures.value c.if-k-n.true;
  put = λ e. clash e;
}

pub overflow_sub-w : goal.overflow_sub-w
overflow_sub-w c = (sized_is _ _ _ c.requires).0

pub fill-at-requires : goal.fill-at-requires
fill-at-requires c = let h = sized_is _ _ _ c.requires in
    omega (arith, c.width-k.ensures.value)

pub slice_bounds-ink-end : goal.slice_bounds-ink-end
slice_bounds-ink-end c = starts_within _ _ _ c.text-n.ensures.starts

pub slice_bounds-add-end : goal.slice_bounds-add-end
slice_bounds-add-end c = starts_count _ _ _ c.text-n.ensures.starts

pub add-requires : goal.add-requires
add-requires c = let t = c.text-n.ensures.starts in
    let h = sized_is _ _ _ c.requires in
    let n = starts_count _ _ _ t in
    let l = length-replicate {A = ℕ} (c.width-k.result - c.text-n.result) 32 in
    omega (arith, c.width-k.ensures.value, c.fill-at.ensures.added.ends)

pub returns : goal.returns
returns c = let g = c.text-n.ensures.starts in
    let k = c.width-k.ensures.value in
    let n = c.if-k-n.false in
    let y = c.if-not-allows.false in
    record {
      goes = goes_in c.args.w c.requires c.args.v _ c.allows.ensures.value y _ _ g _ k n;
      put = λ e. goes_there c.args.w c.requires c.args.v _ c.allows.ensures.value y _ _ g _ k n c.fill-at.ensures.added c.add.ensures.added;
    }
