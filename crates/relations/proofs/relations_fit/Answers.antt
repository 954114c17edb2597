-- What `relations::relations_fit` leaves to show.
use Rattle.std.proofs.lemmas.Result.{err_from_is_err_and}
use Rattle.rules.specs.Check.{relation_fits}
use Rattle.rules.proofs.Steps.{stops_here}
use Rattle.lines.specs.Reading.{sheet_of}
use Rattle.relations.proofs.Parts.{stops_shot, stops_record, stops_reach, all_fine}
use Rattle.relations.proofs.Walked.{begins, line, missing_here, refuses, shot_fine, shot_next, waiting, walks_on}
use Prim.Native.Nat.{◌<◌}
use mathlib.Core.Path.{refl, sym, ◌∙◌}
use native.Mathlib.Omega.{arith}
use Rattle.relations.proofs.relations_fit.Goals as goal

pub loop-k-init : goal.loop-k-init
loop-k-init c = begins _ _ _ _ _ _ c.requires _ c.heads-k.ensures.value _ c.clear.ensures.written.0 c.clear.ensures.written.1

pub missing-requires : goal.missing-requires
missing-requires c = let n = c.line_count-k-end.ensures.value in
    missing_here _ _ _ _ _ _ c.requires _ _ _ _ c.loop-k.invariant (omega arith) c.in_default.ensures.value

pub returns-in_default : goal.returns-in_default
returns-in_default c = record {
  verdict = let at = c.loop-k in
      let n = c.line_count-k-end.ensures.value in
      let h : at.k < (sheet_of c.args.how c.args.x.now).count = omega arith in
      let w = at.invariant in
      let f = refuses _ _ _ _ _ _ c.requires _ _ _ _ w h c.in_default.ensures.value in
      c.missing.ensures.verdict ∙ sym f.1
      ∙ stops_here (relation_fits _ _ _) at.k _ f.0 h w.met (stops_shot _ _ _ at.k (line _ _ _ _ _ _ c.requires _ _ _ _ w h).1 f.0 f.1);
}

pub returns-in_err-record_fits : goal.returns-in_err-record_fits
returns-in_err-record_fits c = record {
  verdict = let at = c.loop-k in
      let n = c.line_count-k-end.ensures.value in
      let h : at.k < (sheet_of c.args.how c.args.x.now).count = omega arith in
      let w = at.invariant in
      let p = err_from_is_err_and c.from_residual.result c.from_residual.ensures.1 in
      rw (p.1, p.2)
      (stops_here (relation_fits _ _ _) at.k _ _ h w.met
      (stops_record _ _ _ at.k (line _ _ _ _ _ _ c.requires _ _ _ _ w h).1
      (shot_fine _ _ _ _ _ _ c.requires _ _ _ _ w h _ c.in-Some.ensures.value) _ c.in_err-record_fits.ensures.verdict));
}

pub reach_fits-requires : goal.reach_fits-requires
reach_fits-requires c = let n = c.line_count-k-end.ensures.value in
    waiting _ _ _ _ _ _ c.requires _ _ _ _ c.loop-k.invariant (omega arith) _ c.goes_on-on.ensures.value _ c.starts-start.ensures.value
    c.in_ok-record_fits.ensures.verdict

pub returns-in_err-reach_fits : goal.returns-in_err-reach_fits
returns-in_err-reach_fits c = record {
  verdict = let at = c.loop-k in
      let n = c.line_count-k-end.ensures.value in
      let h : at.k < (sheet_of c.args.how c.args.x.now).count = omega arith in
      let w = at.invariant in
      let p = err_from_is_err_and c.from_residual-in_err-reach_fits.result c.from_residual-in_err-reach_fits.ensures.1 in
      rw (p.1, p.2)
      (stops_here (relation_fits _ _ _) at.k _ _ h w.met
      (stops_reach _ _ _ at.k (line _ _ _ _ _ _ c.requires _ _ _ _ w h).1
      (shot_fine _ _ _ _ _ _ c.requires _ _ _ _ w h _ c.in-Some.ensures.value) c.in_ok-record_fits.ensures.verdict _
      c.in_err-reach_fits.ensures.verdict));
}

pub loop-k-preserved : goal.loop-k-preserved
loop-k-preserved c = let at = c.loop-k in
    let n = c.line_count-k-end.ensures.value in
    let h : at.k < (sheet_of c.args.how c.args.x.now).count = omega arith in
    let w = at.invariant in
    let o = c.in-Some.ensures.value in
    let f = c.in_ok-record_fits.ensures.verdict in
    let u = c.in_ok-reach_fits.ensures in
    walks_on _ _ _ _ _ _ c.requires _ _ _ _ w h _ c.goes_on-on.ensures.value _ c.starts-start.ensures.value f _
    (shot_next _ _ _ _ _ _ c.requires _ _ _ _ w h _ o) _ (u.kept refl)
    (all_fine _ _ _ at.k (line _ _ _ _ _ _ c.requires _ _ _ _ w h).1 (shot_fine _ _ _ _ _ _ c.requires _ _ _ _ w h _ o) f u.verdict)
