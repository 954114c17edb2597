-- What the call `table_line` tells, from its contract, whatever the medium.
use Prim.Native.Nat.{ℕ, zero, suc, ◌≤◌}
use native.Mathlib.Omega.{arith}
use mathlib.Core.Path.{◌≡◌, refl, sym, ap, ◌∙◌}
use mathlib.Core.List.{List}
use contract.Lifetimes.{Lfts}
use denote.Triple.Clauses.{AtExit}
use borrow.Fn.World.{ArgsD, ResD}
use Rattle.rules.specs.Plan.{№}
use Rattle.rules.specs.Sheet.{Sheet}
use Rattle.rules.specs.Check.{header_line}
use Rattle.rules.specs.Tables.{table_line}
use Rattle.rules.proofs.Tables.{table_is, table_refuses}
use Rattle.lines.specs.Reading.{sheet_of}
use Rattle.tables.specs.Paper.{Answer, paper, line_at}
use Rattle.tables.specs.Said.{Told}
use Rattle.std.specs.Prelude.{Ok, Err, IfSome}
use Rattle.codes.specs.Named.{line_or}
use Rattle.tables.proofs.One.{Counted, answer_one}
use Rattle.tables.specs.contracts.table_line as table_line
use Rattle.tables.proofs.table_line.Reads as table_line_reads

-- a line as the code has it, and its number
line_back : (l : ℕ) → (line_or (line_at l) ≡ l) × IfSome (line_at l) (λ l. 1 ≤ l)
line_back zero = (refl, tt)
line_back (suc l) = (refl, omega arith)

pub told_of : (r s x : Sheet) (b : ℕ) (c : List ℕ) (v : Answer) → paper v ≡ table_line r s x b c → Counted v → Told r s x b c v
told_of r s x b c v e h =
    record {
      line_when = λ l.
          let w = table_is r s x b c l in
          let n = line_back l in
          let same = ap header_line n.0 in
          (λ y. w.0 (sym e ∙ ap paper y ∙ same), λ y. answer_one v (Ok (line_at l)) h n.1 (e ∙ w.1 y ∙ sym same));
      refused_when = λ n f l d.
          let w = table_refuses r s x b c (№ n f l d) in
          (λ y. w.0 (sym e ∙ ap paper y), λ y. answer_one v (Err (record { number = n; file = f; line = l; column = d })) h tt (e ∙ w.1 y));
    }

-- "so that a host can show what G2 was"
pub named : (κs : Lfts 4) (a : ArgsD table_line.signature κs) (v : ResD table_line.signature κs) (w : AtExit table_line.ended κs)
    → table_line_reads.Post κs a v w
    → Told (sheet_of a.0 a.1.0.now) (sheet_of a.0 a.1.1.0.now) (sheet_of a.0 a.1.1.1.0.now) a.1.1.1.1.0
    a.1.1.1.1.1.0.now v
named κs a v w p = told_of _ _ _ a.1.1.1.1.0 a.1.1.1.1.1.0.now v p.0 p.1
