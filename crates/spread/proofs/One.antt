-- The contracts of this crate leave one outcome: any two results, and contents of the lent slices, that meet one of them are the same.
use Prim.Native.Nat.{ℕ}
use mathlib.Core.Path.{refl, sym, ◌∙◌}
use Rattle.outcome.specs.One.{One, both, alike}
use Rattle.spread.specs.contracts.highest as highest
use Rattle.spread.proofs.highest.Reads as highest_reads
use Rattle.spread.specs.contracts.fill as fill
use Rattle.spread.proofs.fill.Reads as fill_reads
use Rattle.spread.specs.contracts.put as put
use Rattle.spread.proofs.put.Reads as put_reads
use denote.RattleType.{RattleType}
use denote.Builtin.{u8, u16}
use denote.Param.Laws.{Laws, IsCopy}
use mir.Syntax.{Dict}
use Rattle.std.specs.declared.clone.Clone.{Ghosts as CloneGhosts}
use Rattle.spread.specs.declared.place.Places.{Ghosts}
use Rattle.rules.specs.Spread.{place, byte_place}
use Rattle.spread.specs.Puts.{Puts, same, count, half, numbers, bytes}
use Rattle.spread.specs.contracts.wanted.coded as wanted_coded
use Rattle.spread.proofs.wanted.coded.Reads as wanted_coded_reads
use Rattle.spread.specs.contracts.wanted.is_of as wanted_is_of
use Rattle.spread.proofs.wanted.is_of.Reads as wanted_is_of_reads
use Rattle.spread.specs.contracts.wanted.upto_of as wanted_upto_of
use Rattle.spread.proofs.wanted.upto_of.Reads as wanted_upto_of_reads
use Rattle.spread.specs.contracts.led.row_to as row_to
use Rattle.spread.proofs.led.row_to.Reads as row_to_reads
use Rattle.spread.specs.contracts.led.line_to as line_to
use Rattle.spread.proofs.led.line_to.Reads as line_to_reads
use Rattle.spread.specs.contracts.place.NumbersPlaces.room as numbers_room
use Rattle.spread.proofs.place.NumbersPlaces.room.Reads as numbers_room_reads
use Rattle.spread.specs.contracts.place.NumbersPlaces.clear as numbers_clear
use Rattle.spread.proofs.place.NumbersPlaces.clear.Reads as numbers_clear_reads
use Rattle.spread.specs.contracts.place.NumbersPlaces.put as numbers_put
use Rattle.spread.proofs.place.NumbersPlaces.put.Reads as numbers_put_reads
use Rattle.spread.specs.contracts.place.BytesPlaces.room as bytes_room
use Rattle.spread.proofs.place.BytesPlaces.room.Reads as bytes_room_reads
use Rattle.spread.specs.contracts.place.BytesPlaces.clear as bytes_clear
use Rattle.spread.proofs.place.BytesPlaces.clear.Reads as bytes_clear_reads
use Rattle.spread.specs.contracts.place.BytesPlaces.put as bytes_put
use Rattle.spread.proofs.place.BytesPlaces.put.Reads as bytes_put_reads
use Rattle.records.proofs.Reaches.{one_value}

pub highest_one : One highest.ended highest_reads.Post
highest_one κs a v v' w w' = alike

-- over any way to put a place in which two slices that are read alike are the same, as the trait's laws say
pub fill_one : (P U : RattleType) (L : Laws P) (M : Laws U) (C : IsCopy U) (G : Ghosts P.Denot U.Denot) (d : Dict) (K : CloneGhosts U.Denot) (k : Dict)
    → Puts G.held G.puts G.room → One (fill.ended P U G d K k) (fill_reads.Post P U L M C G d K k)
fill_one P U L M C G d K k w κs a v v' l l' p p' =
    (refl, both refl (both refl (both refl (both refl (both refl (both (w.one _ _ (p.0 ∙ sym p'.0)) (both (p.1 ∙ sym p'.1) refl)))))))

pub put_one : (P U : RattleType) (L : Laws P) (M : Laws U) (C : IsCopy U) (G : Ghosts P.Denot U.Denot) (d : Dict) (K : CloneGhosts U.Denot) (k : Dict)
    → Puts G.held G.puts G.room → One (put.ended P U G d K k) (put_reads.Post P U L M C G d K k)
put_one P U L M C G d K k w κs a v v' l l' p p' =
    (refl, both refl (both refl (both refl (both refl (both refl (both (w.one _ _ (p.0 ∙ sym p'.0)) (both (p.1 ∙ sym p'.1) refl)))))))

-- so it is of a number a place, and of two bytes a place
module _ (P : RattleType) (L : Laws P) (d : Dict) (K : CloneGhosts ℕ) (k : Dict) where
  abbrev by_numbers : Ghosts P.Denot ℕ
  by_numbers = record { held = same; puts = place; room = count }

  abbrev by_bytes : Ghosts P.Denot ℕ
  by_bytes = record { held = same; puts = byte_place; room = half }

  pub fill_numbers_one : (M : Laws u16) (C : IsCopy u16) → One (fill.ended P u16 by_numbers d K k) (fill_reads.Post P u16 L M C by_numbers d K k)
  fill_numbers_one M C = fill_one P u16 L M C by_numbers d K k numbers

  pub fill_bytes_one : (M : Laws u8) (C : IsCopy u8) → One (fill.ended P u8 by_bytes d K k) (fill_reads.Post P u8 L M C by_bytes d K k)
  fill_bytes_one M C = fill_one P u8 L M C by_bytes d K k bytes

pub wanted_coded_one : One wanted_coded.ended wanted_coded_reads.Post
wanted_coded_one κs a v v' w w' = alike

pub wanted_is_of_one : One wanted_is_of.ended wanted_is_of_reads.Post
wanted_is_of_one κs a v v' w w' = alike

pub wanted_upto_of_one : One wanted_upto_of.ended wanted_upto_of_reads.Post
wanted_upto_of_one κs a v v' w w' = alike

pub row_to_one : One row_to.ended row_to_reads.Post
row_to_one κs a v v' w w' p p' = (one_value a.0 _ v v' p.0 p'.0, refl)

pub line_to_one : One line_to.ended line_to_reads.Post
line_to_one κs a v v' w w' p p' = (one_value a.0 _ v v' p.0 p'.0, refl)

pub numbers_room_one : One numbers_room.ended numbers_room_reads.Post
numbers_room_one κs a v v' w w' = alike

pub numbers_clear_one : One numbers_clear.ended numbers_clear_reads.Post
numbers_clear_one κs a v v' w w' p p' = (refl, both refl (both (p ∙ sym p') refl))

pub numbers_put_one : One numbers_put.ended numbers_put_reads.Post
numbers_put_one κs a v v' w w' p p' = (refl, both (p ∙ sym p') refl)

pub bytes_room_one : One bytes_room.ended bytes_room_reads.Post
bytes_room_one κs a v v' w w' = alike

pub bytes_clear_one : One bytes_clear.ended bytes_clear_reads.Post
bytes_clear_one κs a v v' w w' p p' = (refl, both refl (both (p ∙ sym p') refl))

pub bytes_put_one : One bytes_put.ended bytes_put_reads.Post
bytes_put_one κs a v v' w w' p p' = (refl, both (p ∙ sym p') refl)
