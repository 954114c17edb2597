-- A value in the columns of its field.
use Prim.Native.Nat.{ℕ, ◌+◌, ◌-◌, ◌≤◌, ◌<◌}
use native.Mathlib.Omega.{arith}
use mathlib.Core.Path.{◌≡◌, refl, sym, ap, ap₂, ◌∙◌}
use mathlib.Core.Bool.{Bool, true, false, ◌&&◌}
use mathlib.Core.List.{List, ◌++◌}
use lib.Dec.{leb}
use lib.ListN.{length, take, replicate, length-append, length-replicate, length-take}
use borrow.Author.Tests.{le-leb, lt-leb, eq-eqb, leb-true, leb-false}
use Rattle.rules.proofs.Tests.{and_is}
use Rattle.rules.specs.Kinds.{Kind}
use Rattle.rules.specs.Spelled.{padded, spelled, spell, allows, columns_hold, goes_into}
use Rattle.rules.specs.Writer.{width_of}
use Rattle.fields.specs.Paper.{sized}
use Rattle.fields.proofs.Widths.{sized_is}
use Rattle.records.specs.Coded.{row_of}
use Rattle.records.specs.declared.table.Row.{Row}
use Rattle.texts.specs.Buffer.{Adds}
use Rattle.texts.proofs.Adding.{then}
use Rattle.rules.specs.Carried.{bytes_of}
use Rattle.writer.specs.Coded.{text_of, value_of}
use Rattle.writer.specs.Texts.{Starts}
use Rattle.std.specs.Prelude.{Option, Some, None}
use Rattle.writer.specs.declared.values.Value.{Value}
use Rattle.writer.specs.declared.values.Value.TheVariants.{Text, Number}
use Rattle.writer.proofs.Spelling.{bytes_long, text_short, text_long}
use Rattle.writer.proofs.Ruled.{width_any}

pub starts_within : (b t : List ℕ) (n : ℕ) → Starts b t n → n ≤ length b
starts_within b t n s = let z : length (take n b) ≡ length t = ap length s.front in omega (arith, length-take n b, s.ends)

pub starts_count : (b t : List ℕ) (n : ℕ) → Starts b t n → n ≡ length (take n b)
starts_count b t n s = s.ends ∙ ap length (sym s.front)

text_length : (w hi lo : ℕ) → 1 ≤ w → length (text_of w hi lo) ≡ w
text_length w hi lo o = go (leb w 8) refl
  where
    go : (t : Bool) → leb w 8 ≡ t → length (text_of w hi lo) ≡ w
    go true e = ap length (text_short w hi lo (leb-true w 8 e)) ∙ bytes_long w lo
    go false e =
        let h : 8 < w = leb-false w 8 e in
        ap length (text_long w hi lo h) ∙ length-append (bytes_of (w - 8) hi) (bytes_of 8 lo)
        ∙ rw (bytes_long (w - 8) hi, bytes_long 8 lo) (let z : w - 8 + 8 ≡ w = omega arith in z)

hold_is : (k : Kind) (w : ℕ) (v : Option Value) → 1 ≤ w → columns_hold k w (value_of w v) ≡ leb (length (spelled k w (value_of w v))) w
unfolding columns_hold spelled
hold_is k w (Some (Text m)) o = rw (text_length w m.hi m.lo o, eq-eqb w w refl, le-leb w w (omega arith))
hold_is k w (Some (Number z)) o = refl
hold_is k w None o = sym (le-leb 0 w (omega arith))

adds_is : {a t u b : List ℕ} {n m k : ℕ} → Adds a n t b m → t ≡ u → m ≡ k → Adds a n u b k
adds_is {a} {t} {u} {b} {n} {m} {k} e p q = rw (← p, ← q) e

pub padded_length : (b w : ℕ) (t : List ℕ) → length t ≤ w → length (padded b w t) ≡ w
unfolding padded
padded_length b w t h = length-append (replicate (w - length t) b) t ∙ rw (length-replicate (w - length t) b) (omega arith)

pub spell_length : (k : Kind) (w : ℕ) (v : Option Value) → 1 ≤ w → goes_into k w (value_of w v) ≡ true → length (spell k w (value_of w v)) ≡ w
unfolding goes_into spell
spell_length k w v o e =
    let p = ((and_is (allows k (value_of w v)) (columns_hold k w (value_of w v))).0 e).1 in
    padded_length 32 w (spelled k w (value_of w v)) (leb-true (length (spelled k w (value_of w v))) w (sym (hold_is k w v o) ∙ p))

module _ (w : Row) (s : sized w.kind w.first w.last ≡ true) (v : Option Value) (t : Bool) where
  abbrev width : ℕ
  width = width_of (row_of w).columns

  abbrev text : List ℕ
  text = spelled (row_of w).kind width (value_of width v)

  module _ (q : t ≡ allows (row_of w).kind (value_of width v)) where
    pub goes_not : t ≡ false → false ≡ goes_into (row_of w).kind width (value_of width v)
    unfolding goes_into
    goes_not e = rw (← q, e)

    module _ (y : t ≡ true) (b : List ℕ) (n : ℕ) (f : Starts b text n) (k : ℕ) (e : k ≡ width) where
      goes : goes_into (row_of w).kind width (value_of width v) ≡ leb n k
      unfolding goes_into
      goes =
          ap₂ ◌&&◌ (sym q ∙ y) (hold_is (row_of w).kind width v (width_any w s))
          ∙ ap₂ leb (sym f.ends) (sym e)

      pub goes_wide : k < n → false ≡ goes_into (row_of w).kind width (value_of width v)
      goes_wide h = sym (goes ∙ lt-leb n k h)

      pub goes_in : n ≤ k → true ≡ goes_into (row_of w).kind width (value_of width v)
      goes_in h = sym (goes ∙ le-leb n k h)

      pub goes_there : n ≤ k → {l l' l'' : List ℕ} {i m : ℕ} → Adds l (w.first - 1) (replicate (k - n) 32) l' i → Adds l' i (take n b) l'' m
          → Adds l (w.first - 1) (spell (row_of w).kind width (value_of width v)) l'' w.last
      unfolding spell padded
      goes_there h p r =
          let is = sized_is w.kind w.first w.last s in
          let z = then p r in
          let u : replicate (k - n) 32 ++ take n b ≡ padded 32 width text = same in
          let g = f.ends in
          let j = padded_length 32 width text (omega arith) in
          adds_is z u (omega (arith, z.ends, ap length u))
        where
          same : replicate (k - n) 32 ++ take n b ≡ padded 32 width text
          same = rw (f.front, e, f.ends)
