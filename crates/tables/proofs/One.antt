-- The contract of the call leaves one outcome.
use Rattle.std.proofs.Common.{◌≡◌, ◌≤◌, refl, sym, ap, ◌∙◌}
use Rattle.std.specs.Prelude.{Ok, Err, IfOk, IfSome}
use Rattle.outcome.specs.One.{One}
use Rattle.lines.specs.Paper.{told}
use Rattle.lines.proofs.One.{told_one}
use Rattle.codes.specs.Named.{line_or}
use Rattle.codes.proofs.One.{one_line}
use Rattle.tables.specs.Paper.{Answer, paper}
use Rattle.tables.specs.contracts.table_line as table_line
use Rattle.tables.proofs.table_line.Reads as table_line_reads

abbrev pub Counted : Answer → Type 0
Counted a = IfOk a (λ o. IfSome o (λ l. 1 ≤ l))

pub answer_one : (a b : Answer) → Counted a → Counted b → paper a ≡ paper b → a ≡ b
answer_one (Ok o) (Ok q) g h e = let z : line_or o ≡ line_or q = cc in ap Ok (one_line o q g h z)
answer_one (Ok o) (Err d) g h e = cc
answer_one (Err d) (Ok o) g h e = cc
answer_one (Err d) (Err d') g h e = let z : told d ≡ told d' = cc in ap Err (told_one d d' z)

pub table_line_one : One table_line.ended table_line_reads.Post
table_line_one κs a v v' w w' p p' = (answer_one v v' p.1 p'.1 (p.0 ∙ sym p'.0), refl)
