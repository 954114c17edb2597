-- What a host finds in the slice of counts afterwards.
--   length_stays            = the slice is as long as before
--   count_at                = place i of an accepted set is its count i, where the slice has that place whole
--   beyond_stays            = every byte from a place on that is not written is as before
--   refusal_stays           = and every byte, where the set is refused
use Prim.Native.Nat.{ℕ, zero, suc, ◌+◌, ◌*◌, ◌/◌, ◌^◌, ◌≤◌, ◌<◌}
use native.Mathlib.Nat.{pow-succ'}
use native.Mathlib.Omega.{arith}
use mathlib.Core.Path.{◌≡◌, refl, ap, subst, ◌∙◌}
use mathlib.Core.Bool.{Bool, true, false}
use mathlib.Core.List.{List, [], ◌∷◌, ◌++◌}
use lib.ListN.{length, get_or, take, drop, replicate, length-drop}
use lib.Seq.{take_at, drop_at, drop-drop}
use Rattle.rules.specs.Places.{pick, count, sum}
use Rattle.rules.specs.Plan.{Refusal}
use Rattle.rules.specs.Sheet.{Sheet, most_lines, all_lines}
use Rattle.rules.specs.Medium.{Medium, sheet}
use Rattle.rules.specs.Layout.{sps93}
use Rattle.rules.specs.Lines.{is_data, is_point}
use Rattle.rules.specs.Relations.{reach_at}
use Rattle.rules.specs.Cover.{traces}
use Rattle.rules.specs.Check.{Answer, accepted, refusal, trace, channel, highest, header_line, no_trace, formed}
use Rattle.rules.specs.Check.{all_traces, dead_of, dead_traces, cross}
use Rattle.rules.specs.MeetsForm.{Data, Point}
use Rattle.rules.proofs.Form.{data_is, point_is}
use Rattle.rules.proofs.Which.{how_many, how_much}
use Rattle.rules.proofs.Counts.{accepted_is}
use Rattle.rules.proofs.Medium.{Lawful}
use Rattle.rules.proofs.Hosts.{Sized, cross_sized}
use Rattle.sets.proofs.Verdicts.{last_two}
use Rattle.rules.specs.Hosts.{low_bytes}
use Rattle.sps.specs.Counts.{placed, counted}
use Rattle.sps.specs.Said.{value_of, read_at}
use Rattle.sps.proofs.Placed.{or_less, low_length, placed_whole, placed_short, placed_none, placed_length}

-- 258 receivers in a slice of nine bytes, by computation
nine_bytes : counted (accepted 258 1 1 3 0) (replicate 9 170) ≡ 2 ∷ 1 ∷ 0 ∷ 0 ∷ 0 ∷ 0 ∷ 0 ∷ 0 ∷ 170 ∷ []
unfolding counted placed low_bytes pick
nine_bytes = refl

-- a number of n bytes comes back
low_value : (n v : ℕ) → v < 256 ^ n → value_of (low_bytes n v) ≡ v
unfolding low_bytes
low_value zero v h = omega arith
low_value (suc n) v h =
    let p = pow-succ' 256 n in
    let i = low_value n (v / 256) (omega arith) in
    omega arith

-- the places after the first
after_first : (i v : ℕ) (vs o : List ℕ) → 8 ≤ length o → drop (8 * suc i) (placed (v ∷ vs) o) ≡ drop (8 * i) (placed vs (drop 8 o))
after_first i v vs o h =
    let n : 8 * suc i ≡ 8 + 8 * i = omega arith in
    let rest = placed vs (drop 8 o) in
    rw (n, placed_whole v vs o h, ← drop-drop (8 * i) 8 (low_bytes 8 v ++ rest), drop_at (low_bytes 8 v) rest 8 (low_length 8 v))

pub placed_at : (i : ℕ) (vs o : List ℕ) → i < length vs → 8 * i + 8 ≤ length o → take 8 (drop (8 * i) (placed vs o)) ≡ low_bytes 8 (get_or vs i 0)
placed_at i [] o h l = absurd (omega arith)
placed_at zero (v ∷ vs) o h l =
    rw (placed_whole v vs o (omega arith), take_at (low_bytes 8 v) (placed vs (drop 8 o)) 8 (low_length 8 v))
placed_at (suc i) (v ∷ vs) o h l =
    rw (after_first i v vs o (omega arith)) (placed_at i vs (drop 8 o) (omega arith) (simp length-drop (omega arith)))

pub placed_beyond : (i : ℕ) (vs o : List ℕ) → (i < length vs → length o < 8 * i + 8) → drop (8 * i) (placed vs o) ≡ drop (8 * i) o
placed_beyond i [] o h = ap (drop (8 * i)) (placed_none o)
placed_beyond zero (v ∷ vs) o h = placed_short (v ∷ vs) o (h (omega arith))
placed_beyond (suc i) (v ∷ vs) o h =
    or_less 8 (length o)
    (λ l.
    let n : 8 + 8 * i ≡ 8 * suc i = omega arith in
    after_first i v vs o l
    ∙ placed_beyond i vs (drop 8 o) (λ g. let f = h (omega arith) in simp length-drop (omega arith))
    ∙ drop-drop (8 * i) 8 o ∙ ap (λ (k : ℕ). drop k o) n)
    (λ l. ap (drop (8 * suc i)) (placed_short (v ∷ vs) o l))

-- an answer writes the five counts or nothing
counted_view : (P : List ℕ → List ℕ → Type 0) → ((n m k t d : ℕ) (o : List ℕ) → P o (placed (n ∷ m ∷ k ∷ t ∷ d ∷ []) o)) → ((o : List ℕ) → P o o)
    → (a : Answer) (o : List ℕ) → P o (counted a o)
unfolding counted
counted_view P f g (accepted n m k t d) o = f n m k t d o
counted_view P f g (refusal w) o = g o
counted_view P f g (trace l m d) o = g o
counted_view P f g (channel c) o = g o
counted_view P f g (highest c) o = g o
counted_view P f g (header_line l) o = g o
counted_view P f g no_trace o = g o
counted_view P f g formed o = g o

-- the counts of an accepted set are far below 2^64
one_few : (b : Bool) → pick b 1 0 ≤ 1
unfolding pick
one_few true = omega arith
one_few false = omega arith

count_few : (n : ℕ) (p : ℕ → Bool) → count n p ≤ n
unfolding count
count_few zero p = omega arith
count_few (suc n) p =
    let i = count_few n p in
    let j = one_few (p n) in
    omega arith

fits : (n c : ℕ) (p : ℕ → Bool) → n ≤ 9999 → count n p ≡ c → c < 256 ^ 8
fits n c p h e = let f = count_few n p in omega arith

each : (n m k t y : ℕ) → n < 256 ^ 8 → m < 256 ^ 8 → k < 256 ^ 8 → t < 256 ^ 8 → y < 256 ^ 8 → (i : ℕ)
    → get_or (n ∷ m ∷ k ∷ t ∷ y ∷ []) i 0 < 256 ^ 8
each n m k t y a b c d e zero = a
each n m k t y a b c d e (suc zero) = b
each n m k t y a b c d e (suc (suc zero)) = c
each n m k t y a b c d e (suc (suc (suc zero))) = d
each n m k t y a b c d e (suc (suc (suc (suc zero)))) = e
each n m k t y a b c d e (suc (suc (suc (suc (suc i))))) = omega arith

-- no more dead traces than traces
pick_le : (t : Bool) (a b : ℕ) → a ≤ b → pick t a 0 ≤ pick t b 0
unfolding pick
pick_le true a b h = h
pick_le false a b h = omega arith

sum_le : (n : ℕ) (g h : ℕ → ℕ) → ((k : ℕ) → g k ≤ h k) → sum n g ≤ sum n h
unfolding sum
sum_le zero g h f = omega arith
sum_le (suc n) g h f =
    let i = sum_le n g h f in
    let j = f n in
    omega arith

dead_few : (r x : Sheet) → dead_traces r x ≤ all_traces x
unfolding dead_traces all_traces dead_of
dead_few r x = sum_le x.count _ _ (λ k. pick_le (is_data x k) _ (traces (reach_at x k)) (count_few (traces (reach_at x k)) _))

module _ (M : Medium) (g : Lawful M) (r s x : List ℕ) where
  abbrev file : List ℕ → Sheet
  file = sheet M sps93

  few_lines : (f : List ℕ) → all_lines (file f) ≤ most_lines → (file f).count ≤ most_lines
  few_lines f h = omega arith

  counts_few : (n m k t y : ℕ) → cross (file r) (file s) (file x) ≡ accepted n m k t y → (i : ℕ) → get_or (n ∷ m ∷ k ∷ t ∷ y ∷ []) i 0 < 256 ^ 8
  unfolding most_lines sheet sps93
  counts_few n m k t y q =
      let w = (accepted_is (file r) (file s) (file x) n m k t y).0 q in
      let z = last_two (file r) (file s) (file x) n m k t y q in
      let z0 = z.0 in
      let z1 = z.1 in
      let dead = dead_few (file r) (file x) in
      let ok = w.0 in
      let c = w.1 in
      let few : t < 2 ^ 40 = subst Sized q (cross_sized M g r s x) in
      let a = (how_many (file r) (is_point (file r)) (Point (file r)) (point_is (file r)) n).0 c.receivers in
      let b = (how_many (file s) (is_point (file s)) (Point (file s)) (point_is (file s)) m).0 c.shots in
      let d = ((how_much (file x) (is_data (file x)) (Data (file x)) (data_is (file x)) _ k t).0 c.relations).0 in
      each n m k t y (fits _ n _ (few_lines r ok.form_r.rule2) a) (fits _ m _ (few_lines s ok.form_s.rule2) b)
      (fits _ k _ (few_lines x ok.form_x.rule2) d)
      (omega arith)
      (omega arith)

  -- o stands in the slice before the call, and e afterwards
  module _ (o e : List ℕ) (w : e ≡ counted (cross (file r) (file s) (file x)) o) where
    pub length_stays : length e ≡ length o
    length_stays =
        rw w
        (counted_view (λ o e. length e ≡ length o) (λ n m k t d o. placed_length (n ∷ m ∷ k ∷ t ∷ d ∷ []) o) (λ o. refl)
        (cross (file r) (file s) (file x)) o)

    pub count_at : (n m k t y : ℕ) → cross (file r) (file s) (file x) ≡ accepted n m k t y
        → (i : ℕ) → i < 5 → 8 * i + 8 ≤ length o → read_at i e ≡ get_or (n ∷ m ∷ k ∷ t ∷ y ∷ []) i 0
    unfolding counted
    count_at n m k t y q i h l =
        rw (w, q, placed_at i (n ∷ m ∷ k ∷ t ∷ y ∷ []) o (omega arith) l) (low_value 8 _ (counts_few n m k t y q i))

    pub beyond_stays : (i : ℕ) → (i < 5 → length o < 8 * i + 8) → drop (8 * i) e ≡ drop (8 * i) o
    beyond_stays i h =
        rw w
        (counted_view (λ o e. (i < 5 → length o < 8 * i + 8) → drop (8 * i) e ≡ drop (8 * i) o)
        (λ n m k t d o. placed_beyond i (n ∷ m ∷ k ∷ t ∷ d ∷ []) o) (λ o h. refl) (cross (file r) (file s) (file x)) o h)

    pub refusal_stays : (v : Refusal) → cross (file r) (file s) (file x) ≡ refusal v → e ≡ o
    unfolding counted
    refusal_stays v q = rw q at w
