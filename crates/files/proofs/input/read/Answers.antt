-- What `files::input::read` leaves to show.
use Rattle.std.proofs.Common.{◌≤◌, ◌∙◌, length, ◌-◌, drop, refl, arith, length-take, length-drop}
use Rattle.std.proofs.lemmas.Result.{err_from_is_err_and}
use Rattle.files.proofs.Answers.{came_room}
use Rattle.files.proofs.Kept.{left, length_with, more_kept, none_kept}
use Rattle.files.proofs.Known.{whole, unusable, read_more}
use Rattle.files.proofs.input.read.Given as given
use Rattle.files.proofs.input.read.Goals as goal

pub returns-in_err-m-clause-known : goal.returns-in_err-m-clause-known
returns-in_err-m-clause-known g c =
    let l = c.loop-m in
    let i = l.invariant in
    let p = err_from_is_err_and c.from_residual.result c.from_residual.ensures.1 in
    let s = length_with l.n l.buf c.piece.new.left i.within c.piece.auto.left in
    rw (p.1, p.2) (unusable _ l.n _ l.buf _ c.piece.new.chunk _ _ _ i.bytes (c.in_err-m.ensures.bytes (omega arith)) i.within
    (omega (arith, s, length-take (length l.buf - l.n) (drop l.n l.buf), length-drop l.n l.buf)))

-- what came is something, and has room
some : (g : given.Over) (c : goal.In-Some g) → (1 ≤ c.in-Some.m) × (c.in-Some.m ≤ length (left c.loop-m.n c.loop-m.buf))
some g c = came_room c.in-Some.m _ _ (rw c.in-Some.is refl) c.in_ok-m.ensures.follows

pub loop-m-smaller : goal.loop-m-smaller
loop-m-smaller g c =
    let m = some g c in
    let l = c.loop-m in
    omega (
      arith,
      length_with l.n l.buf c.piece.new.left l.invariant.within c.piece.auto.left,
      length-take (length l.buf - l.n) (drop l.n l.buf),
      length-drop l.n l.buf,
    )

pub loop-m-preserved : goal.loop-m-preserved
loop-m-preserved g c =
    let m = some g c in
    let l = c.loop-m in
    let i = l.invariant in
    let e = c.in_ok-m.ensures in
    let w = rw c.in-Some.is at e.written in
    let k = rw c.in-Some.is at e.stands in
    let s = length_with l.n l.buf c.piece.new.left i.within c.piece.auto.left in
    record {
      within = omega (arith, s, length-take (length l.buf - l.n) (drop l.n l.buf), length-drop l.n l.buf);
      size = s ∙ i.size;
      rest = more_kept l.n _ l.buf _ c.piece.new.chunk c.piece.new.left i.within i.rest k w;
      bytes = read_more c.in-Some.m l.n _ l.buf c.piece.new.chunk c.piece.new.left _ _ _ i.within k w i.bytes (rw c.in-Some.is at (e.bytes (omega arith)));
    }

pub returns-clause-rest : goal.returns-clause-rest
returns-clause-rest g c =
    let l = c.loop-m in
    none_kept l.n l.buf _ c.piece.new.left l.invariant.within l.invariant.rest (rw c.in_default.is at c.in_ok-m.ensures.written)

pub returns-clause-known : goal.returns-clause-known
returns-clause-known g c =
    let l = c.loop-m in
    whole _ _ l.n _ l.buf c.piece.new.left c.piece.new.chunk _ l.invariant.bytes (rw c.in_default.is at (c.in_ok-m.ensures.bytes (omega arith)))
    l.invariant.within
