-- What `writer::numbers::reach` leaves to show.
use lib.ListN.{get_or}
use Rattle.rules.specs.Places.{pick}
use Rattle.rules.specs.Names.{text as named}
use Rattle.rules.specs.Carried.{reach_given}
use Rattle.writer.specs.Coded.{text_of, reach_of}
use Rattle.writer.proofs.numbers.reach.Goals as goal

pub returns : goal.returns
unfolding reach_of reach_given text_of pick
returns c = record {
  value = let v = c.args.v in
      λ n k.
      record {
        tape = text_of 6 0 (get_or v 0 0);
        number = c.narrow.ensures.value n.number k;
        from = c.narrow-2.ensures.value n.from k;
        upto = c.narrow-3.ensures.value n.upto k;
        step = c.narrow-4.ensures.value n.step k;
        receiver = named (text_of 16 (get_or v 11 0) (get_or v 12 0));
        from_receiver = c.narrow-5.ensures.value n.from_receiver k;
        to_receiver = c.narrow-6.ensures.value n.to_receiver k;
        receiver_index = c.narrow-7.ensures.value n.receiver_index k;
      };
}
