-- What `files::input::piece` leaves to show.
use Rattle.std.proofs.Common.{◌≤◌, ◌∙◌, refl, sym, length, arith}
use Rattle.std.proofs.lemmas.List.{length-take-le}
use Rattle.std.proofs.lemmas.Result.{err_from_is_err_and}
use Rattle.files.proofs.Answers.{came_within, came_room}
use Rattle.files.proofs.Known.{tells}
use Rattle.files.proofs.input.piece.Given as given
use Rattle.files.proofs.input.piece.Goals.{In-Some}
use Rattle.files.proofs.input.piece.Goals as goal

pub returns-in_err-came-clause-written : goal.returns-in_err-came-clause-written
returns-in_err-came-clause-written g c = let p = err_from_is_err_and c.from_residual.result c.from_residual.ensures.1 in rw p.1 refl

pub returns-in_err-came-clause-bytes : goal.returns-in_err-came-clause-bytes
returns-in_err-came-clause-bytes g c = let p = err_from_is_err_and c.from_residual.result c.from_residual.ensures.1 in
    rw (p.1, p.2) (λ l. tells _ _ c.read.result _ _ _ _ c.read.ensures.bound c.read.ensures.bytes
    c.ok-got.ensures.value c.in_err-came.ensures.value (omega arith))

-- as many bytes as came stand in the chunk, and have room
stand : (g : given.Over) (c : In-Some g) → c.in-Some.m ≤ length c.read.new.buf
stand g c = rw c.in-Some.is at (came_within c.read.result _ _ _ _ c.read.ensures.bound c.ok-got.ensures.value c.in_ok-came.ensures.value)

room : (g : given.Over) (c : In-Some g) → c.in-Some.m ≤ length c.args.left.now
room g c = (came_room c.in-Some.m (length c.args.left.now) _ (rw c.in-Some.is refl) (record { answer = _; value = c.in_ok-came.ensures.value })).1

pub slice_bounds-copy_from_slice-end : goal.slice_bounds-copy_from_slice-end
slice_bounds-copy_from_slice-end g c = room g c

pub slice_bounds-copy_from_slice-end-in-Some : goal.slice_bounds-copy_from_slice-end-in-Some
slice_bounds-copy_from_slice-end-in-Some g c = sym (length-take-le _ _ (room g (goal.at.slice_bounds-copy_from_slice-end-in-Some g c).In-Some))

pub slice_bounds-copy_from_slice-end-in-Some-2 : goal.slice_bounds-copy_from_slice-end-in-Some-2
slice_bounds-copy_from_slice-end-in-Some-2 g c = stand g (goal.at.slice_bounds-copy_from_slice-end-in-Some-2 g c).In-Some

pub slice_bounds-copy_from_slice-end-in-Some-3 : goal.slice_bounds-copy_from_slice-end-in-Some-3
slice_bounds-copy_from_slice-end-in-Some-3 g c = sym (length-take-le _ _ (stand g (goal.at.slice_bounds-copy_from_slice-end-in-Some-3 g c).In-Some))

pub copy_from_slice-requires : goal.copy_from_slice-requires
copy_from_slice-requires g c = let s = (goal.at.copy_from_slice-requires g c).In-Some in length-take-le _ _ (room g s) ∙ sym (length-take-le _ _ (stand g s))

pub returns-in-Some-clause-stands : goal.returns-in-Some-clause-stands
returns-in-Some-clause-stands g c = stand g (goal.at.returns-in-Some-clause-stands g c).In-Some

pub returns-in-Some-clause-bytes : goal.returns-in-Some-clause-bytes
returns-in-Some-clause-bytes g c l =
    tells _ _ c.read.result _ _ _ _ c.read.ensures.bound c.read.ensures.bytes
    c.ok-got.ensures.value (rw c.in-Some.is at c.in_ok-came.ensures.value) (omega arith)

pub returns-in_default-clause-written : goal.returns-in_default-clause-written
returns-in_default-clause-written g c = rw c.in_default.is refl

pub returns-in_default-clause-bytes : goal.returns-in_default-clause-bytes
returns-in_default-clause-bytes g c l =
    tells _ _ c.read.result _ _ _ _ c.read.ensures.bound c.read.ensures.bytes c.ok-got.ensures.value c.in_ok-came.ensures.value (omega arith)
