-- A line that is written, or refused.
use Prim.Native.Nat.{ℕ, ◌≤◌, ◌<◌}
use native.Mathlib.Nat.{zero-add}
use native.Mathlib.Omega.{arith}
use mathlib.Core.Path.{◌≡◌, refl, sym, ap, ap₂, ◌∙◌}
use mathlib.Core.Bool.{Bool, true, false, ◌&&◌, and-true}
use mathlib.Core.List.{List, ◌++◌}
use lib.Dec.{leb}
use lib.ListN.{length, drop, take-append-drop}
use borrow.Author.Tests.{le-leb, lt-leb}
use Rattle.rules.specs.Places.{pick}
use Rattle.rules.specs.Plan.{fine, refused, №, run}
use Rattle.rules.specs.Layout.{sps93}
use Rattle.rules.specs.Lines.{letter, kind_of}
use Rattle.rules.specs.Points.{State as PaperState, live, killed, marker, state_of}
use Rattle.rules.specs.Cover.{traces, receivers}
use Rattle.rules.specs.Rows.{point_rows, relation_rows}
use Rattle.rules.specs.Form.{rule6}
use Rattle.rules.specs.Values.{Value as PaperValue, point_values, relation_values}
use Rattle.rules.specs.Writer.{writable, line_of, point_goes, point_line, same_state, point_writes, relation_writes, counted, writes, into}
use Rattle.rules.proofs.Steps.{need_met, need_broken, before_met, before_broken}
use Rattle.records.specs.declared.point.Point.{Point}
use Rattle.records.specs.declared.state.State.{State}
use Rattle.records.specs.declared.relation.Reach.{Reach}
use Rattle.records.specs.declared.relation.Relation.{Relation}
use Rattle.records.specs.Coded.{coded_state}
use Rattle.records.proofs.Reaches.{paper_reach}
use Rattle.texts.specs.Buffer.{Adds}
use Rattle.rules.specs.Carried.{bytes_of}
use Rattle.writer.specs.Coded.{text_of, state_in, point_of, reach_of, relation_of}
use Rattle.std.specs.Prelude.{Some, None}
use Rattle.writer.specs.Made.{made}
use Rattle.writer.proofs.Spelling.{text_short}
use Rattle.writer.proofs.Tables.{relation_end}

-- the state of a code
back : (p : PaperState) → p ≡ state_in (coded_state p)
back live = refl
back killed = refl
back marker = refl

pub code_state : (c : ℕ) (v : State) → v ≡ coded_state (state_of (bytes_of 2 c)) → state_of (text_of 2 0 c) ≡ state_in v
code_state c v e = ap state_of (text_short 2 0 c (omega arith)) ∙ back _ ∙ ap state_in (sym e)

-- 6 of the values
pub six_same : (q : Reach) → run (rule6 sps93 0 (reach_of q)) ≡ run (rule6 sps93 0 (paper_reach q))
unfolding rule6 traces receivers reach_of
six_same q = refl

-- 22, then 23, then the line
module _ (n : ℕ) where
  pub writes_not : (ok : Bool) → ok ≡ false → refused (№ 22 0 0 0) ≡ run (writes ok n)
  unfolding writes
  writes_not ok e = before_broken _ _ _ (need_broken _ _ e)

  pub writes_short : (ok : Bool) → ok ≡ true → n < 82 → refused (№ 23 0 0 0) ≡ run (writes ok n)
  unfolding writes
  writes_short ok e h = need_broken _ _ (lt-leb 82 n h) ∙ before_met _ _ (need_met _ _ e)

  pub writes_fine : (ok : Bool) → ok ≡ true → 82 ≤ n → fine ≡ run (writes ok n)
  unfolding writes
  writes_fine ok e h = need_met _ _ (le-leb 82 n h) ∙ before_met _ _ (need_met _ _ e)

pub into_fine : {a t b : List ℕ} {m : ℕ} → Adds a 0 t b m → b ≡ into fine t a
unfolding into
into_fine {a} {t} {b} {m} e =
    let k : m ≡ length t = e.ends ∙ zero-add (length t) in
    sym (take-append-drop m b) ∙ ap₂ ◌++◌ e.front (e.rest ∙ ap (λ (i : ℕ). drop i a) k)

pub into_refused : (n : ℕ) (l o : List ℕ) → o ≡ into (refused (№ n 0 0 0)) l o
unfolding into
into_refused n l o = refl

-- the values of a point, by the kind of its file
module _ (b i : ℕ) (e : i ≡ kind_of b) (c : List ℕ) (s : PaperState) (xs : ℕ → List PaperValue) where
  abbrev goes : Bool
  goes = point_goes b c s (xs (kind_of b))

  whole : ((leb 1 i && leb i 2) && (same_state (state_of c) s && writable (point_rows sps93 i) (xs i))) ≡ goes
  whole = ap (λ (k : ℕ). (leb 1 k && leb k 2) && (same_state (state_of c) s && writable (point_rows sps93 k) (xs k))) e

  pub point_goes_lem : 1 ≤ i → i ≤ 2 → (t : Bool) → t ≡ same_state (state_of c) s → t ≡ true
      → (u : Bool) → u ≡ writable (point_rows sps93 i) (xs i) → u ≡ goes
  point_goes_lem o h t q y u f = f ∙ (rw (le-leb 1 i o, le-leb i 2 h, ← q, y)) ∙ whole

-- those of a record
module _ (b : ℕ) (p : Point) (xs : List PaperValue) (e : xs ≡ point_values (point_of p)) where
  pub point_writes_lem : point_goes b (text_of 2 0 p.code) (state_in p.state) xs ≡ point_writes b (point_of p)
  unfolding point_writes point_of
  point_writes_lem = rw e

  pub point_text_lem : line_of (letter (kind_of b)) (point_rows sps93 (kind_of b)) xs ≡ point_line (kind_of b) (point_of p)
  point_text_lem = rw e

-- a line that is made
pub made_none : (ok : Bool) (l : List ℕ) → None ≡ made ok l → ok ≡ false
made_none true l e = cc
made_none false l e = refl

pub made_some : (ok : Bool) (l m : List ℕ) → Some m ≡ made ok l → (ok ≡ true) × (m ≡ l)
made_some true l m e = (refl, cc)
made_some false l m e = cc

-- a relation
pub relation_made : (q : Relation) → relation_writes (relation_of q)
    ≡ (writable (relation_rows sps93) (relation_values (relation_of q)) && counted (reach_of q.reach))
unfolding relation_writes relation_of
relation_made q = refl

pub relation_goes_lem : (q : Relation) (t : Bool) → t ≡ counted (reach_of q.reach) → t ≡ true
    → (xs : List PaperValue) → xs ≡ relation_values (relation_of q) → (u : Bool) → u ≡ writable (relation_rows sps93) xs
    → u ≡ relation_writes (relation_of q)
relation_goes_lem q t e y xs g u f = rw (f, g, relation_made q, ← e, y) (sym (and-true _))

pub letter_x : letter 3 ≡ 88
unfolding letter pick
letter_x = refl

pub ruleset relations = (relation_made, relation_end, letter_x)
