-- The paper's row tells the code's: what the code keeps of a field can be read back from its rule.
--   kept k    = the kind that the code keeps of the rule k, and whether the field may be blank
--   row_one   = rows that are one row of the paper are one
use mathlib.Core.Path.{◌≡◌, refl, sym, ap, ◌∙◌}
use mathlib.Core.Bool.{Bool, true, false}
use Rattle.rules.specs.Kinds.{Kind, starts_non_blank, digits_only, coordinate, index, water_depth, time}
use Rattle.rules.specs.Kinds.{whole_number, signed_number, signed_decimal, decimal_number, code, may_be_blank}
use Rattle.rules.specs.Rows.{Row as PaperRow}
use Rattle.fields.specs.Paper.{kind}
use Rattle.fields.specs.declared.Kind.{Kind as CodeKind}
use Rattle.fields.specs.declared.Kind.TheVariants.{StartsNonBlank, DigitsOnly, Coordinate, Index, WaterDepth, Time}
use Rattle.fields.specs.declared.Kind.TheVariants.{WholeNumber, SignedNumber, SignedDecimal, DecimalNumber, Code}
use Rattle.records.specs.Coded.{or_blank, row_of}
use Rattle.records.specs.declared.table.Row.{Row}

kept : Kind → CodeKind × Bool
kept starts_non_blank = (StartsNonBlank, false)
kept digits_only = (DigitsOnly, false)
kept coordinate = (Coordinate, false)
kept index = (Index, false)
kept water_depth = (WaterDepth, false)
kept time = (Time, false)
kept (whole_number m n) = (WholeNumber m n, false)
kept (signed_number m n) = (SignedNumber m n, false)
kept (signed_decimal m n) = (SignedDecimal m n, false)
kept (decimal_number n) = (DecimalNumber n, false)
kept (code i) = (Code i, false)
kept (may_be_blank k) = ((kept k).0, true)

plain_back : (k : CodeKind) → kept (kind k) ≡ (k, false)
unfolding kept
plain_back StartsNonBlank = refl
plain_back DigitsOnly = refl
plain_back Coordinate = refl
plain_back Index = refl
plain_back WaterDepth = refl
plain_back Time = refl
plain_back (WholeNumber m n) = refl
plain_back (SignedNumber m n) = refl
plain_back (SignedDecimal m n) = refl
plain_back (DecimalNumber n) = refl
plain_back (Code i) = refl

back : (b : Bool) (k : CodeKind) → kept (or_blank b (kind k)) ≡ (k, b)
unfolding kept
back true k = ap (λ (z : CodeKind × Bool). (z.0, true)) (plain_back k)
back false k = plain_back k

pub row_one : (w v : Row) → row_of w ≡ row_of v → w ≡ v
row_one w v e = λ i.
    record {
      first = (e i).columns.first;
      last = (e i).columns.last;
      kind = (same i).0;
      blank = (same i).1;
      free = (e i).free_in_marker;
    }
  where
    same : ◌≡◌ {A = CodeKind × Bool} (w.kind, w.blank) (v.kind, v.blank)
    same = sym (back w.blank w.kind) ∙ ap (λ (r : PaperRow). kept r.kind) e ∙ back v.blank v.kind
