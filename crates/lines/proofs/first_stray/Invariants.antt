-- What the loop of `lines::first_stray` keeps.
use Rattle.std.proofs.Common.{◌≡◌, ◌+◌, ◌-◌, take, drop}
use Rattle.lines.specs.Reading.{medium_of}
use Rattle.rules.specs.Form.{stray_from}
use Rattle.lines.proofs.first_stray.Given as goal

abbrev pub invariant-loop-c : goal.invariant-loop-c
invariant-loop-c l =
    stray_from (medium_of l.how).takes (l.c + 1) (take (l.w - l.c) (drop (l.at + l.c) l.f))
    ≡ stray_from (medium_of l.how).takes 1 (take l.w (drop l.at l.f))
