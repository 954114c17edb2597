-- What `relations::reach_fits` leaves to show.
use Rattle.shots.proofs.Held.{line_small}
use Rattle.relations.proofs.Eighteen.{receiver_column, never_fine, eighteen_broken, eighteen_fine, ready}
use mathlib.Core.Path.{◌∙◌}
use native.Mathlib.Omega.{arith}
use Rattle.relations.proofs.reach_fits.Goals as goal

pub first_row-e-requires : goal.first_row-e-requires
first_row-e-requires c = let p = c.requires in ((p.receivers, p.rows), (p.relations, p.lines.1 _ p.lines.0 (omega arith)))

pub all_there-requires : goal.all_there-requires
all_there-requires c = let p = c.requires in
    record {
      receivers = p.receivers;
      rows = p.rows;
      relations = p.relations;
      alike = p.alike;
      line = p.lines.1 _ p.lines.0 (omega arith);
      first = c.first_row-e.ensures.value;
    }

pub at_line-requires : goal.at_line-requires
at_line-requires c = let p = c.requires in line_small _ p.relations.few (p.lines.1 _ p.lines.0 (omega arith)).0

pub returns-then-not-all_there : goal.returns-then-not-all_there
returns-then-not-all_there c = let a = c.args in
    record {
      verdict = c.at_line.ensures.verdict
          ∙ eighteen_broken _ _ a.k _ c.all_there.ensures.value c.if-not-all_there.true 64 (receiver_column a.how a.x.now);
      kept = never_fine _ _ c.at_line.ensures.verdict;
    }

pub covered_once-requires : goal.covered_once-requires
covered_once-requires c = ready _ _ _ _ c.all_there.ensures.value _ _ _ c.requires
    c.if-not-all_there.false

pub returns : goal.returns
returns c = record {
  verdict = eighteen_fine _ _ _ _ c.all_there.ensures.value c.if-not-all_there.false _ c.covered_once.ensures.verdict;
  kept = c.covered_once.ensures.kept;
}
