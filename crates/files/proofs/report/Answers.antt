-- What `files::report` leaves to show.
use Rattle.std.proofs.Common.{◌≡◌, length, ap, ◌∙◌}
use Rattle.sets.specs.Paper.{paper}
use Rattle.words.specs.Words.{line}
use Rattle.texts.specs.Buffer.{over}
use Rattle.files.specs.Report.{report}
use Rattle.files.proofs.Faults.{r_first, s_first, x_first, all_usable}
use Rattle.files.proofs.report.Goals as goal

pub returns-in-Err-default-default : goal.returns-in-Err-default-default
returns-in-Err-default-default c = let said = c.fault.ensures in
    record {
      value = rw (c.in-Err-default-default.is-0, r_first) said.value;
      written = rw (c.in-Err-default-default.is-0, r_first) said.written;
      small = said.small;
    }

pub returns-in-Ok-Err-default : goal.returns-in-Ok-Err-default
returns-in-Ok-Err-default c = let said = c.fault-in-Ok-Err-default.ensures in
    let t = c.in-Ok-Err-default in
    record {
      value = rw (t.is-0, t.is-1, s_first) said.value;
      written = rw (t.is-0, t.is-1, s_first) said.written;
      small = said.small;
    }

pub returns-in-Ok-Ok-Err : goal.returns-in-Ok-Ok-Err
returns-in-Ok-Ok-Err c = let said = c.fault-in-Ok-Ok-Err.ensures in
    let t = c.in-Ok-Ok-Err in
    record {
      value = rw (t.is-0, t.is-1, t.is-2, x_first) said.value;
      written = rw (t.is-0, t.is-1, t.is-2, x_first) said.written;
      small = said.small;
    }

pub returns-in-Ok-Ok-Ok : goal.returns-in-Ok-Ok-Ok
returns-in-Ok-Ok-Ok c = let said = c.verdict.ensures in
    let t = c.in-Ok-Ok-Ok in
    let a = c.args in
    let e : line (paper c.judged.result) ≡ report a.i a.r.now a.j a.s.now a.k a.x.now =
    rw (t.is-0, t.is-1, t.is-2, all_usable, ← c.first.ensures.value, ← c.first-in-Ok-Ok-Ok.ensures.value, ← c.first-in-Ok-Ok-Ok-2.ensures.value)
    (ap line c.judged.ensures.answer) in
    record { value = said.value ∙ ap length e; written = said.written ∙ ap (λ l. over l a.out.now) e; small = said.small }
