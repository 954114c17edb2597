-- What `writer::spell::text` leaves to show.
use Rattle.std.proofs.Common.{rules}
use Rattle.writer.proofs.Ruled.{width_any, width_most, text_narrow}
use Rattle.writer.proofs.spell.text.Goals as goal

pub letters-requires : goal.letters-requires
letters-requires c = let e = c.width.ensures.value in
    rw e (
      (width_any c.args.w c.requires.last_value, width_most c.args.w c.requires.last_value),
      text_narrow c.args.w c.requires.last_value c.args.v c.in-Some-Text.m (search rules) c.requires.v_value,
    )

pub figures-requires : goal.figures-requires
figures-requires c = let e = c.width-in-Some-Number.ensures.value in rw e (width_most c.args.w c.requires.last_value)
