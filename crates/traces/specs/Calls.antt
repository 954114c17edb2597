-- What the calls answer, of files that are read in one way.
--   lookup_on how r s x t n c     = the answer to the lookup
--   way_back_on how r s x t n j m  = the answer to the way back
--   Table                        = what the spread table is asked: three sheets, a tape and a record, and the two slices as they are lent
--   table_of, table_on             = the same, of three files
--   Spreads put places T a l m   = a is its answer, and l and m stand in the slices afterwards; a slice d of lines has places d places
--   SpreadTable, SpreadBytes     = the same where a line is a number, and where it is two bytes
use Rattle.std.specs.Prelude.{ℕ, ◌/◌, ◌≡◌, List, length}
use Rattle.rules.specs.Sheet.{Sheet}
use Rattle.rules.specs.Check.{Answer}
use Rattle.rules.specs.Lookup.{lookup, way_back}
use Rattle.rules.specs.Spread.{line_of, component_of, place, byte_place, spread, Put, slice}
use Rattle.lines.specs.Reading.{sheet_of}
use Rattle.lines.specs.declared.Reading.{Reading}

abbrev pub lookup_on : Reading → List ℕ → List ℕ → List ℕ → List ℕ → ℕ → ℕ → Answer
lookup_on how r s x t n c = lookup (sheet_of how r) (sheet_of how s) (sheet_of how x) t n c

abbrev pub way_back_on : Reading → List ℕ → List ℕ → List ℕ → List ℕ → ℕ → ℕ → ℕ → Answer
way_back_on how r s x t n j m = way_back (sheet_of how r) (sheet_of how s) (sheet_of how x) t n j m

pub record Table : Type 0 where
  pub receivers : Sheet
  pub shots : Sheet
  pub relations : Sheet
  pub tape : List ℕ
  pub number : ℕ
  pub lines : List ℕ
  pub components : List ℕ

abbrev pub table_of : (List ℕ → Sheet) → List ℕ → List ℕ → List ℕ → List ℕ → ℕ → List ℕ → List ℕ → Table
table_of file r s x t n d e =
    record {
      receivers = file r;
      shots = file s;
      relations = file x;
      tape = t;
      number = n;
      lines = d;
      components = e;
    }

abbrev pub table_on : Reading → List ℕ → List ℕ → List ℕ → List ℕ → ℕ → List ℕ → List ℕ → Table
table_on how = table_of (sheet_of how)

pub record Spreads (put : Put) (places : List ℕ → ℕ) (T : Table) (a : Answer) (l m : List ℕ) : Type 0 where
  pub answer : a ≡ spread T.receivers T.shots T.relations T.tape T.number (places T.lines) (length T.components)
  pub lines : l
      ≡ slice put line_of T.receivers T.shots T.relations T.tape T.number (places T.lines) (length T.components) T.lines
  pub components : m
      ≡ slice place component_of T.receivers T.shots T.relations T.tape T.number (places T.lines) (length T.components) T.components

abbrev pub SpreadTable : Table → Answer → List ℕ → List ℕ → Type 0
SpreadTable = Spreads place length

abbrev pub SpreadBytes : Table → Answer → List ℕ → List ℕ → Type 0
SpreadBytes = Spreads byte_place (λ d. length d / 2)
