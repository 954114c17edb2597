-- What `once::lines_meet` leaves to show.
use mathlib.Core.Path.{◌∙◌}
use Rattle.once.proofs.Values.{meets_is, other_name}
use Rattle.once.proofs.lines_meet.Goals as goal

pub returns-else-same_name : goal.returns-else-same_name
returns-else-same_name c = record {
  value = let p = c.requires in
      c.if-same_name.false ∙ other_name c.args.how c.args.x.now c.args.k c.args.j p.0 p.1.0 p.1.1 _ _ _ _ _ c.own_of-l.ensures.value
      c.name.ensures.value c.own_of-m.ensures.value c.name-2.ensures.value c.same_name.ensures.value
      c.if-same_name.false;
}

pub returns-then-same_name : goal.returns-then-same_name
returns-then-same_name c = record {
  value = let p = c.requires in
      meets_is c.args.how c.args.x.now c.args.k c.args.j p.0 p.1.0 p.1.1 _ _ _ c.reach_of.ensures.value
      c.reach_of-then-same_name.ensures.value c.meets.ensures.value;
}
