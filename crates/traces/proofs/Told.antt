-- What an answer says, where it is that of the definitions.
use Prim.Native.Nat.{ℕ, ◌+◌, ◌*◌, ◌/◌, ◌≤◌, ◌<◌}
use native.Mathlib.Omega.{arith}
use mathlib.Core.Path.{◌≡◌, refl, sym, ap, subst, ◌∙◌}
use mathlib.Core.Logic.Iff
use mathlib.Core.Logic.{◌↔◌, inl}
use mathlib.Core.Bool.{Bool}
use mathlib.Core.List.{List}
use lib.ListN.{length, get_or}
use Rattle.rules.specs.Plan.{Refusal, №, Verdict, fine, refused}
use Rattle.rules.specs.Sheet.{Sheet}
use Rattle.rules.specs.Points.{point_at, is_killed}
use Rattle.rules.specs.Relations.{reach_at}
use Rattle.rules.specs.Check.{Answer as PaperAnswer, refusal, highest, answer}
use Rattle.rules.specs.Lookup.{lookup, way_back}
use Rattle.rules.specs.Spread.{line_of, component_of, highest_of, turns, place, byte_place, spread, spread_verdict, Put, slice}
use Rattle.rules.specs.Hosts.{numbers_of}
use Rattle.rules.specs.MeetsCover.{Carries}
use Rattle.rules.specs.Meets.{Meets}
use Rattle.rules.specs.MeetsQuestions.{Asked, Of, Highest as HighestOf}
use Rattle.rules.proofs.Demand3.{Askable, answered, highest_answered, lookup_leads, lookup_once}
use Rattle.rules.proofs.Order.{killed_is}
use Rattle.rules.proofs.Demand3.{lookup_marks, there_and_back, lookup_none, back_none, lookup_refuses, back_refuses}
use Rattle.rules.proofs.Turns.{numbers_length}
use Rattle.rules.proofs.Spreads.{spread_fine, spread_refuses, highest_there, highest_one, refused_stays, filled}
use Rattle.rules.proofs.Spreads.{slice_length, slice_later, slice_agrees, slice_numbers, odd_stays}
use Rattle.std.specs.Prelude.{Ok, Err, Some, None}
use Rattle.traces.specs.Paper.{Answer, ChannelAnswer, Spread, paper, paper_channel, paper_spread, leading, denied}
use Rattle.traces.specs.Calls.{Table, Spreads, SpreadTable, SpreadBytes}
use Rattle.traces.specs.Said.{LeadsTo, Traced, Returned, Slice, Tabled}
use Rattle.traces.proofs.One.{answer_one, back_one, spread_one}

-- an answer is one exactly where the paper's is
pub answers : (a b : Answer) (p : PaperAnswer) → paper a ≡ p → (a ≡ b) ↔ (p ≡ paper b)
answers a b p e = (λ z. sym e ∙ ap paper z, λ z. answer_one a b (e ∙ z))

back_answers : (a b : ChannelAnswer) (p : PaperAnswer) → paper_channel a ≡ p → (a ≡ b) ↔ (p ≡ paper_channel b)
back_answers a b p e = (λ z. sym e ∙ ap paper_channel z, λ z. back_one a b (e ∙ z))

module _ (r s x : Sheet) (asks : Meets r s x → Askable x) (t : List ℕ) (n : ℕ) where
  pub traced : (c : ℕ) (v : Answer) → paper v ≡ lookup r s x t n c → Traced r s x t n c v
  traced c v e =
      record {
        leads = λ ok k h o f. lead ok k h o f;
        marked = λ l m d y. lookup_marks r s x t n c l m d (sym e ∙ ap paper y);
        none = Iff.trans (answers v (Ok None) _ e) (lookup_none r s x t n c);
        refused = λ i f l d. Iff.trans (answers v (Err (denied i f l d)) _ e) (lookup_refuses r s x t n c (№ i f l d));
      }
    where
      lead : Meets r s x → (k : ℕ) → k < x.count → Of x t n k → Carries (reach_at x k) c → LeadsTo r (reach_at x k) c v
      lead ok k h o f =
          let w = lookup_leads r s x ok (asks ok) k c h o.0 f in
          let q : lookup r s x t n c ≡ lookup r s x (reach_at x k).tape (reach_at x k).number c = rw (o.1.0, o.1.1) in
          (w.0, w.1, w.2, w.3, (is_killed (point_at r w.0), killed_is _, answer_one v (leading (w.0 + 1) _ _) (e ∙ q ∙ w.4)))

  pub came_back : (j m : ℕ) (v : ChannelAnswer) → paper_channel v ≡ way_back r s x t n j m → Returned r s x t n j m v
  came_back j m v e =
      record {
        none = Iff.trans (back_answers v (Ok None) _ e) (back_none r s x t n j m);
        refused = λ i f l d. Iff.trans (back_answers v (Err (denied i f l d)) _ e) (back_refuses r s x t n j m (№ i f l d));
      }

  pub never_shared : (c d l m : ℕ) (a b : Bool) (v u : Answer) → paper v ≡ lookup r s x t n c → paper u ≡ lookup r s x t n d
      → v ≡ leading l m a → u ≡ leading l m b → c ≡ d
  never_shared c d l m a b v u e f y z = lookup_once r s x t n c d l m a b (sym e ∙ ap paper y) (sym f ∙ ap paper z)

  pub forth_and_back : (c l m : ℕ) (v : Answer) (u : ChannelAnswer) → paper v ≡ lookup r s x t n c → paper_channel u ≡ way_back r s x t n l m
      → ((d : Bool) × (v ≡ leading l m d)) ↔ (u ≡ Ok (Some c))
  forth_and_back c l m v u e f =
      let b = there_and_back r s x t n c l m in
      let a = back_answers u (Ok (Some c)) _ f in (
        λ w. a.1 (b.0 (w.0, (answers v (leading l m w.0) _ e).0 w.1)),
        λ y. let w = b.1 (a.0 y) in (w.0, (answers v (leading l m w.0) _ e).1 w.1),
      )

-- the spread table
module _ (r s x : Sheet) (t : List ℕ) (n a b : ℕ) where
  spread_is : (h : ℕ)
      → (spread r s x t n a b ≡ highest h)
      ↔ (Asked x.layout t n × (Meets r s x × (HighestOf x t n h × ((h ≤ a) × (h ≤ b)))))
  unfolding spread
  spread_is h =
      let u = answered (spread_verdict r s x t n a b) (highest (highest_of x t n)) (highest h) (highest_answered h) in
      let v = spread_fine r s x t n a b in (
        λ e.
            let w = u.0 e in
            let y = v.0 w.0 in
            let z = w.1 in
            let q : highest_of x t n ≡ h = cc in
            let top = rw q at (highest_there x t n) in
            let room = rw q at y.1.1 in
            (y.0, (y.1.0, (top, room))),
        λ w.
            let q = highest_one x t n h w.1.1.0 in
            let l = w.1.1.1 in
            u.1 (v.1 (w.0, (w.1.0, rw q l)), ap highest q),
      )

  fine_at : (h : ℕ) → spread r s x t n a b ≡ highest h → (spread_verdict r s x t n a b ≡ fine) × (highest_of x t n ≡ h)
  unfolding spread
  fine_at h e =
      let w = (answered (spread_verdict r s x t n a b) (highest (highest_of x t n)) (highest h) (highest_answered h)).0 e in
      let z = w.1 in
      (w.0, (cc))

  refused_at : (w : Refusal) → spread r s x t n a b ≡ refusal w → spread_verdict r s x t n a b ≡ refused w
  unfolding spread answer
  refused_at w = go (spread_verdict r s x t n a b)
    where
      go : (v : Verdict) → answer v (highest (highest_of x t n)) ≡ refusal w → v ≡ refused w
      go fine e = absurd (highest_answered _ w e)
      go (refused u) e = let z : u ≡ w = cc in ap refused z

  slice_is : (h : ℕ) → spread r s x t n a b ≡ highest h → (part : PaperAnswer → ℕ) (d : List ℕ) → h ≤ length d
      → Slice h (λ c. part (lookup r s x t n c)) d (slice place part r s x t n a b d)
  slice_is h e part d l =
      let f = fine_at h e in
      let q = f.1 in
      record {
        size = slice_length r s x t n a b f.0 part d;
        places = λ c g. slice_agrees r s x t n a b f.0 part d c (omega arith) (omega arith);
        later = λ c g. slice_later r s x t n a b f.0 part d c (omega arith);
      }

  -- where the highest channel is 0, nothing is put
  none_put : (put : Put) (part : PaperAnswer → ℕ) (d : List ℕ) → spread_verdict r s x t n a b ≡ fine → highest_of x t n ≡ 0
      → slice put part r s x t n a b d ≡ d
  unfolding turns
  none_put put part d f z = filled r s x t n a b put part d f ∙ rw z

-- either form, by how its lines are put and read
module _ (put : Put) (read : List ℕ → List ℕ)
    (agree : (r s x : Sheet) (t : List ℕ) (n b : ℕ) (part : PaperAnswer → ℕ) (d : List ℕ)
    → read (slice put part r s x t n (length (read d)) b d) ≡ slice place part r s x t n (length (read d)) b (read d)) where
  tabled : (T : Table) (v : Spread) (l m : List ℕ) → Spreads put (λ d. length (read d)) T (paper_spread v) l m
      → Tabled read T.receivers T.shots T.relations T.tape T.number T.lines T.components v l m
  tabled T v l m p =
      record {
        highest = λ h. Iff.trans (said (Ok h)) (spread_is r s x t n a b h);
        filled = λ h e.
            let f = (said (Ok h)).0 e in
            let w = ((spread_is r s x t n a b h).0 f).1.1.1 in
            let q : read l ≡ slice place line_of r s x t n a b (read d) = ap read p.lines ∙ agree r s x t n b line_of d in (
              subst (Slice h (λ c. line_of (lookup r s x t n c)) (read d)) (sym q) (slice_is r s x t n a b h f line_of (read d) w.0),
              subst (Slice h (λ c. component_of (lookup r s x t n c)) o) (sym p.components) (slice_is r s x t n a b h f component_of o w.1),
            );
        absent = λ none h e.
            let f = fine_at r s x t n a b h ((said (Ok h)).0 e) in
            let z = highest_one x t n 0 ((λ k i y. absurd (none k i y)), inl (none, refl)) in
            (sym f.1 ∙ z, (p.lines ∙ none_put r s x t n a b put line_of d f.0 z, p.components ∙ none_put r s x t n a b place component_of o f.0 z));
        refused = λ i f k e. Iff.trans (said (Err (denied i f k e))) (spread_refuses r s x t n a b (№ i f k e));
        unwritten = λ i f k e y.
            let g = refused_at r s x t n a b (№ i f k e) ((said (Err (denied i f k e))).0 y) in
            (p.lines ∙ refused_stays r s x t n a b put line_of d _ g, p.components ∙ refused_stays r s x t n a b place component_of o _ g);
      }
    where
      r : Sheet
      r = T.receivers

      s : Sheet
      s = T.shots

      x : Sheet
      x = T.relations

      t : List ℕ
      t = T.tape

      d : List ℕ
      d = T.lines

      o : List ℕ
      o = T.components

      n : ℕ
      n = T.number

      a : ℕ
      a = length (read d)

      b : ℕ
      b = length o

      said : (u : Spread) → (v ≡ u) ↔ (spread r s x t n a b ≡ paper_spread u)
      said u = (λ z. sym p.answer ∙ ap paper_spread z, λ z. spread_one v u (p.answer ∙ z))

-- lines that are numbers
pub numbers_tabled : (T : Table) (v : Spread) (l m : List ℕ) → SpreadTable T (paper_spread v) l m
    → Tabled (λ d. d) T.receivers T.shots T.relations T.tape T.number T.lines T.components v l m
numbers_tabled = tabled place (λ d. d) (λ r s x t n b part d. refl)

-- and bytes, read as numbers
same_numbers : (r s x : Sheet) (t : List ℕ) (n b : ℕ) (part : PaperAnswer → ℕ) (d : List ℕ)
    → numbers_of (slice byte_place part r s x t n (length (numbers_of d)) b d) ≡ slice place part r s x t n (length (numbers_of d)) b (numbers_of d)
same_numbers r s x t n b part d = slice_numbers r s x t n (length (numbers_of d)) b part d (numbers_length d)

bytes_read : (T : Table) (v : PaperAnswer) (l m : List ℕ) → SpreadBytes T v l m → Spreads byte_place (λ d. length (numbers_of d)) T v l m
bytes_read T v l m p =
    let e = sym (numbers_length T.lines) in
    record { answer = rw e at p.answer; lines = rw e at p.lines; components = rw e at p.components }

pub bytes_tabled : (T : Table) (v : Spread) (l m : List ℕ) → SpreadBytes T (paper_spread v) l m
    → Tabled numbers_of T.receivers T.shots T.relations T.tape T.number T.lines T.components v l m
bytes_tabled T v l m p = tabled byte_place numbers_of same_numbers T v l m (bytes_read T (paper_spread v) l m p)

pub odd_byte : (T : Table) (v : PaperAnswer) (l m : List ℕ) → SpreadBytes T v l m → (c : ℕ) → 2 * (length T.lines / 2) ≤ c
    → get_or l c 0 ≡ get_or T.lines c 0
odd_byte T v l m p c h =
    ap (λ (d : List ℕ). get_or d c 0) p.lines
    ∙ odd_stays T.receivers T.shots T.relations T.tape T.number (length T.lines / 2) (length T.components) line_of T.lines c h
