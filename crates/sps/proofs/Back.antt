-- A line that a host has written is read with the numbers that it gave.
--   point_back, relation_back = the sixteen numbers of the line that is written are those that were given
--   reach_back                = 6 is asked of what the line is read as
use Prim.Native.Nat.{ℕ, zero, suc, ◌+◌, ◌-◌, ◌*◌, ◌/◌, ◌%◌, ◌^◌, ◌<◌}
use native.Mathlib.Omega.{arith}
use mathlib.Core.Path.{◌≡◌, refl, sym, ap, ◌∙◌}
use mathlib.Core.Bool.{Bool, true, false, ◌&&◌}
use mathlib.Core.List.{List, [], ◌∷◌, ◌++◌}
use lib.Dec.{eqb, ltb, leb}
use lib.IntN.{pos, negsuc}
use lib.ListN.{length, take, length-append}
use lib.Seq.{take_at, drop_at}
use borrow.Author.Tests.{eqb-true}
use Rattle.rules.specs.Places.{pick}
use Rattle.rules.specs.Plan.{file_r, file_s, file_x}
use Rattle.rules.specs.Layout.{sps93}
use Rattle.rules.specs.Names.{Name, text as named}
use Rattle.rules.specs.Lines.{letter, kind_of}
use Rattle.rules.specs.Points.{Held, absent, held, State, live, killed, marker, state_of, Point, point}
use Rattle.rules.specs.Relations.{Relation, relation}
use Rattle.rules.specs.Rows.{point_rows, relation_rows}
use Rattle.rules.specs.Values.{Value, text, number, nothing, name_value, held_value, point_values, relation_values}
use Rattle.rules.specs.Writer.{writable, same_state, counted}
use Rattle.rules.specs.Carried.{number_after, as_number, bytes_of, as_place, of_place, absent_place, held_place, state_place, name_high, name_low}
use Rattle.rules.specs.Carried.{point_places, relation_places, held_given, state_given, point_given, relation_given, reach_given}
use Rattle.rules.proofs.Tests.{clash, and_is}
use Rattle.rules.proofs.Values.{point_values_lem, relation_values_lem}
use Rattle.rules.proofs.Tiles.{point_tiles, point_fittings, relation_tiles, relation_fittings}
use Rattle.rules.proofs.Written.{begun, line_reads, line_take}
use Rattle.sps.specs.Values.{given, point_taken, point_written, relation_taken, relation_written}

-- a number of 64 bits comes back from what it says
place_back : (n : ℕ) → n < 2 ^ 64 → as_place (of_place n) ≡ n
unfolding of_place as_place pick
place_back n h = go (ltb n (2 ^ 63)) refl
  where
    go : (t : Bool) → ltb n (2 ^ 63) ≡ t → as_place (pick t (pos n) (negsuc (2 ^ 64 - 1 - n))) ≡ n
    go true e = refl
    go false e = omega arith

-- and so do text and names
after_last : (a : ℕ) (bs : List ℕ) (b : ℕ) → number_after a (bs ++ (b ∷ [])) ≡ 256 * number_after a bs + b
unfolding number_after
after_last a [] b = refl
after_last a (d ∷ bs) b = after_last (256 * a + d) bs b

text_back : (n v : ℕ) → as_number (bytes_of (suc n) v) ≡ v
unfolding bytes_of number_after
text_back zero v = omega arith
text_back (suc n) v =
    let i = text_back n (v / 256) in
    let z : 256 * as_number (bytes_of (suc n) (v / 256)) + v % 256 ≡ v = omega arith in
    after_last 0 (bytes_of (suc n) (v / 256)) (v % 256) ∙ z

text_length : (n v : ℕ) → length (bytes_of n v) ≡ n
unfolding bytes_of
text_length zero v = refl
text_length (suc zero) v = refl
text_length (suc (suc n)) v = let i = text_length (suc n) (v / 256) in simp length-append (omega arith)

-- what a value says in a place
place_of : Value → ℕ
place_of (text bs) = as_number bs
place_of (number n) = as_place n
place_of nothing = absent_place

bytes_in : Value → List ℕ
bytes_in (text bs) = bs
bytes_in (number n) = []
bytes_in nothing = []

value_at : ℕ → List Value → Value
value_at k [] = nothing
value_at zero (v ∷ vs) = v
value_at (suc k) (v ∷ vs) = value_at k vs

held_says : (h : Held) → place_of (held_value h) ≡ held_place h
unfolding place_of
held_says absent = refl
held_says (held n) = refl

name_says : (m : Name) → named (bytes_in (name_value m)) ≡ m
unfolding bytes_in
name_says (named bs) = refl

held_back : (n : ℕ) → n < 2 ^ 64 → place_of (held_given n) ≡ n
unfolding place_of pick
held_back n h = go (eqb n absent_place) refl
  where
    go : (t : Bool) → eqb n absent_place ≡ t → place_of (pick t nothing (number (of_place n))) ≡ n
    go true e = sym (eqb-true n absent_place e)
    go false e = place_back n h

name_high_lem : (m : Name) (high low : ℕ) → m ≡ named (bytes_of 8 high ++ bytes_of 8 low) → name_high m ≡ high
name_high_lem m high low e =
    ap name_high e ∙ ap as_number (take_at (bytes_of 8 high) (bytes_of 8 low) 8 (text_length 8 high)) ∙ text_back 7 high

name_low_lem : (m : Name) (high low : ℕ) → m ≡ named (bytes_of 8 high ++ bytes_of 8 low) → name_low m ≡ low
name_low_lem m high low e = ap name_low e ∙ ap as_number (drop_at (bytes_of 8 high) (bytes_of 8 low) 8 (text_length 8 high)) ∙ text_back 7 low

-- a state that agrees with a code's
state_back : (s : State) (n : ℕ) → same_state s (state_given n) ≡ true → state_place s ≡ n
unfolding pick
state_back s n = go (eqb n 0) (eqb n 1) refl refl s
  where
    go : (a b : Bool) → eqb n 0 ≡ a → eqb n 1 ≡ b → (s : State) → same_state s (pick a live (pick b killed marker)) ≡ true → state_place s ≡ n
    go true b e f live t = sym (eqb-true n 0 e)
    go true b e f killed t = clash t
    go true b e f marker t = clash t
    go false true e f live t = clash t
    go false true e f killed t = sym (eqb-true n 1 f)
    go false true e f marker t = clash t
    go false false e f live t = clash t
    go false false e f killed t = clash t
    go false false e f marker t = clash t

module _ (v : ℕ → ℕ) (small : (i : ℕ) → v i < 2 ^ 64) where
  -- a point whose values are those that were given
  module _ (p : Point) (e : point_values p ≡ point_given v) (s : state_place p.state ≡ v 5) where
    said : (k : ℕ) → place_of (value_at k (point_values p)) ≡ place_of (value_at k (point_given v))
    said k = ap (λ (vs : List Value). place_of (value_at k vs)) e

    point_name : p.name ≡ named (bytes_of 8 (v 0) ++ bytes_of 8 (v 1))
    unfolding point_values point_given value_at bytes_in
    point_name = sym (name_says p.name) ∙ ap (λ (vs : List Value). named (bytes_in (value_at 0 vs))) e

    pub point_given_lem : point_places p ≡ v 0 ∷ v 1 ∷ v 2 ∷ v 3 ∷ v 4 ∷ v 5 ∷ v 6 ∷ v 7 ∷ v 8 ∷ v 9 ∷ v 10 ∷ v 11 ∷ v 12 ∷ v 13 ∷ v 14 ∷ v 15 ∷ []
    unfolding point_places point_values point_given value_at place_of as_place
    point_given_lem =
        rw (
          name_high_lem p.name (v 0) (v 1) point_name,
          name_low_lem p.name (v 0) (v 1) point_name,
          said 1 ∙ place_back (v 2) (small 2),
          said 2 ∙ place_back (v 3) (small 3),
          said 3 ∙ text_back 1 (v 4),
          s,
          sym (held_says p.static) ∙ said 4 ∙ held_back (v 6) (small 6),
          said 5 ∙ place_back (v 7) (small 7),
          said 6 ∙ place_back (v 8) (small 8),
          sym (held_says p.uphole) ∙ said 7 ∙ held_back (v 9) (small 9),
          sym (held_says p.water) ∙ said 8 ∙ held_back (v 10) (small 10),
          said 9 ∙ place_back (v 11) (small 11),
          said 10 ∙ place_back (v 12) (small 12),
          said 11 ∙ place_back (v 13) (small 13),
          said 12 ∙ place_back (v 14) (small 14),
          said 13 ∙ place_back (v 15) (small 15),
        )

  -- a relation whose values are those that were given
  module _ (r : Relation) (e : relation_values r ≡ relation_given v) where
    told : (k : ℕ) → place_of (value_at k (relation_values r)) ≡ place_of (value_at k (relation_given v))
    told k = ap (λ (vs : List Value). place_of (value_at k vs)) e

    source_name : r.source ≡ named (bytes_of 8 (v 4) ++ bytes_of 8 (v 5))
    unfolding relation_values relation_given value_at bytes_in
    source_name = sym (name_says r.source) ∙ ap (λ (vs : List Value). named (bytes_in (value_at 4 vs))) e

    receiver_name : r.reach.receiver ≡ named (bytes_of 8 (v 11) ++ bytes_of 8 (v 12))
    unfolding relation_values relation_given value_at bytes_in
    receiver_name = sym (name_says r.reach.receiver) ∙ ap (λ (vs : List Value). named (bytes_in (value_at 10 vs))) e

    pub relation_given_lem : relation_places r ≡ v 0 ∷ v 1 ∷ v 2 ∷ v 3 ∷ v 4 ∷ v 5 ∷ v 6 ∷ v 7 ∷ v 8 ∷ v 9 ∷ v 10 ∷ v 11 ∷ v 12 ∷ v 13 ∷ v 14 ∷ v 15 ∷ []
    unfolding relation_places relation_values relation_given value_at place_of as_place
    relation_given_lem =
        rw (
          told 0 ∙ text_back 5 (v 0),
          told 1 ∙ place_back (v 1) (small 1),
          told 2 ∙ place_back (v 2) (small 2),
          told 3 ∙ place_back (v 3) (small 3),
          name_high_lem r.source (v 4) (v 5) source_name,
          name_low_lem r.source (v 4) (v 5) source_name,
          told 5 ∙ place_back (v 6) (small 6),
          told 6 ∙ place_back (v 7) (small 7),
          told 7 ∙ place_back (v 8) (small 8),
          told 8 ∙ place_back (v 9) (small 9),
          told 9 ∙ place_back (v 10) (small 10),
          name_high_lem r.reach.receiver (v 11) (v 12) receiver_name,
          name_low_lem r.reach.receiver (v 11) (v 12) receiver_name,
          told 11 ∙ place_back (v 13) (small 13),
          told 12 ∙ place_back (v 14) (small 14),
          told 13 ∙ place_back (v 15) (small 15),
        )

    pub reach_given_lem : reach_given v ≡ r.reach
    unfolding reach_given relation_values relation_given value_at place_of bytes_in as_place
    reach_given_lem =
        let tape : r.reach.tape ≡ bytes_of 6 (v 0) = ap (λ (vs : List Value). bytes_in (value_at 0 vs)) e in
        let no : r.reach.number ≡ v 1 = told 1 ∙ place_back (v 1) (small 1) in
        let from : r.reach.from ≡ v 8 = told 7 ∙ place_back (v 8) (small 8) in
        let upto : r.reach.upto ≡ v 9 = told 8 ∙ place_back (v 9) (small 9) in
        let step : r.reach.step ≡ v 10 = told 9 ∙ place_back (v 10) (small 10) in
        let first : r.reach.from_receiver ≡ v 13 = told 11 ∙ place_back (v 13) (small 13) in
        let last : r.reach.to_receiver ≡ v 14 = told 12 ∙ place_back (v 14) (small 14) in
        let index : r.reach.receiver_index ≡ v 15 = told 13 ∙ place_back (v 15) (small 15) in
        rw (← tape, ← no, ← from, ← upto, ← step, ← receiver_name, ← first, ← last, ← index)

-- the line that is written from the places of a slice
module _ (bs : List ℕ) (small : (i : ℕ) → given bs i < 2 ^ 64) where
  abbrev sixteen : List ℕ
  sixteen =
      given bs 0 ∷ given bs 1 ∷ given bs 2 ∷ given bs 3 ∷ given bs 4 ∷ given bs 5 ∷ given bs 6 ∷ given bs 7 ∷ given bs 8 ∷ given bs 9 ∷ given bs 10
      ∷ given bs 11 ∷ given bs 12 ∷ given bs 13 ∷ given bs 14 ∷ given bs 15 ∷ []

  code_back : (p : Point) → point_values p ≡ point_given (given bs) → p.code ≡ bytes_of 2 (given bs 4)
  unfolding point_values point_given value_at bytes_in
  code_back p e = ap (λ (vs : List Value). bytes_in (value_at 3 vs)) e

  pub point_back : (b : ℕ) → point_taken b bs ≡ true → point_places (point sps93 (take 80 (point_written b bs))) ≡ sixteen
  unfolding point_taken point_written point_given point_rows point
  point_back b t =
      let i = kind_of b in
      let ws = point_rows sps93 i in
      let vs = point_given (given bs) in
      let l = take 80 (point_written b bs) in
      let c = state_of (bytes_of 2 (given bs 4)) in
      let agrees = same_state c (state_given (given bs 5)) in
      let kind = leb file_r i && leb i file_s in
      let sizes = (and_is (eqb (length bs) 128) (kind && (agrees && writable ws vs))).0 t in
      let g = (and_is agrees (writable ws vs)).0 ((and_is kind (agrees && writable ws vs)).0 sizes.1).1 in
      let row : l ≡ begun (letter i) ws vs [] = line_take (letter i) ws vs (point_tiles i) (point_fittings i) g.1 in
      let e : point_values (point sps93 l) ≡ vs =
      point_values_lem sps93 i l ∙ (rw row (line_reads (letter i) ws vs (point_tiles i) (point_fittings i) g.1 refl [])) in
      let code : (point sps93 l).code ≡ bytes_of 2 (given bs 4) = code_back (point sps93 l) e in
      point_given_lem (given bs) small (point sps93 l) e (ap (λ (c : List ℕ). state_place (state_of c)) code ∙ state_back c (given bs 5) g.0)

  module _ (t : relation_taken bs ≡ true) where
    abbrev row : List ℕ
    row = take 80 (relation_written bs)

    values_back : relation_values (relation sps93 row) ≡ relation_given (given bs)
    unfolding relation_taken relation_written relation_given relation_rows
    values_back =
        let ws = relation_rows sps93 in
        let vs = relation_given (given bs) in
        let six = counted (reach_given (given bs)) in
        let g = (and_is (writable ws vs) six).0 ((and_is (eqb (length bs) 128) (writable ws vs && six)).0 t).1 in
        let e : row ≡ begun (letter file_x) ws vs [] = line_take (letter file_x) ws vs relation_tiles relation_fittings g.0 in
        relation_values_lem sps93 row ∙ (rw e (line_reads (letter file_x) ws vs relation_tiles relation_fittings g.0 refl []))

    pub relation_back : relation_places (relation sps93 row) ≡ sixteen
    relation_back = relation_given_lem (given bs) small (relation sps93 row) values_back

    pub reach_back : reach_given (given bs) ≡ (relation sps93 row).reach
    reach_back = reach_given_lem (given bs) small (relation sps93 row) values_back
