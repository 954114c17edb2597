-- What `writer::allowed::allows` leaves to show.
use Rattle.std.proofs.Common.{◌∙◌}
use Rattle.writer.proofs.Ruled.{width_any, width_two}
use Rattle.writer.proofs.allowed.allows.Goals as goal

pub text-requires : goal.text-requires
text-requires c = let e = c.width.ensures.value in
    record {
      le_w = rw e (width_any c.args.w c.requires);
      by_index = λ i q. e ∙ width_two c.args.w c.requires i q;
    }
