-- What `spread::wanted::coded` leaves to show.
use Rattle.std.proofs.Common.{sym, ap, ◌∙◌}
use Rattle.fields.specs.Packed.{packed}
use Rattle.spread.proofs.Asked.{six_columns, tape_length, wanted_is}
use Rattle.spread.proofs.wanted.coded.Goals as goal

pub copy_from_slice-requires : goal.copy_from_slice-requires
copy_from_slice-requires c = sym (tape_length _ _ c.requires)

pub returns : goal.returns
returns c = record {
  value = let t = c.args.tape.now in
      wanted_is _ t _ (c.pack.ensures.value ∙ ap packed (six_columns t _ _ (tape_length _ _ c.requires) c.copy_from_slice.ensures.after));
}
