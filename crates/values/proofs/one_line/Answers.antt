-- What `values::one_line` leaves to show.
use Rattle.std.proofs.Common.{◌∙◌, ap, sym, arith}
use Rattle.rules.specs.Sheet.{most_lines}
use Rattle.rules.specs.Lines.{is_header}
use Rattle.values.proofs.Lines.{stands}
use Rattle.values.proofs.one_line.Goals as goal

pub overflow_sub-k : goal.overflow_sub-k
overflow_sub-k c = let s = stands _ _ (sym c.line_stands.ensures.value ∙ c.if-not-line_stands.false) in omega arith

pub line_of-l-requires : goal.line_of-l-requires
line_of-l-requires c = let s = stands _ _ (sym c.line_stands.ensures.value ∙ c.if-not-line_stands.false) in omega arith

pub data_fits-requires : goal.data_fits-requires
unfolding most_lines
data_fits-requires c = let s = stands _ _ (sym c.line_stands.ensures.value ∙ c.if-not-line_stands.false) in
    let l = c.line_of-l.ensures.value in
    record {
      k_bound = (omega arith, omega arith);
      l_value = (l, ap is_header l ∙ s.none_header);
    }
