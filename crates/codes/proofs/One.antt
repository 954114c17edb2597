-- The contracts of this crate leave one outcome: any two results that meet one of them are the same.
use Rattle.std.proofs.Common.{◌≡◌, ℕ, ◌≤◌, refl, sym, ap, ◌∙◌, arith}
use Rattle.std.specs.Prelude.{Option, Some, None, IfSome}
use Rattle.outcome.specs.One.{One, alike}
use Rattle.lines.proofs.One.{verdict_one}
use Rattle.codes.specs.Named.{line_or}
use Rattle.codes.proofs.Placed.{one_place}
use Rattle.codes.specs.contracts.codes_fit as codes_fit
use Rattle.codes.proofs.codes_fit.Reads as codes_fit_reads
use Rattle.codes.specs.contracts.line_naming as line_naming
use Rattle.codes.proofs.line_naming.Reads as line_naming_reads
use Rattle.codes.specs.contracts.is_code as is_code
use Rattle.codes.proofs.is_code.Reads as is_code_reads
use Rattle.codes.specs.contracts.tables.place as place
use Rattle.codes.proofs.tables.place.Reads as place_reads
use Rattle.codes.specs.contracts.tables.named_by as NamedBy
use Rattle.codes.proofs.tables.named_by.Reads as named_by_reads

pub one_line : (o q : Option ℕ) → IfSome o (λ k. 1 ≤ k) → IfSome q (λ k. 1 ≤ k) → line_or o ≡ line_or q → o ≡ q
one_line (Some k) (Some n) g h e = ap Some e
one_line (Some k) None g h e = absurd (omega arith)
one_line None (Some n) g h e = absurd (omega arith)
one_line None None g h e = refl

pub codes_fit_one : One codes_fit.ended codes_fit_reads.Post
codes_fit_one κs a v v' w w' p p' = (verdict_one v v' (p ∙ sym p'), refl)

pub line_naming_one : One line_naming.ended line_naming_reads.Post
line_naming_one κs a v v' w w' p p' = (one_line v v' p.1 p'.1 (p.0 ∙ sym p'.0), refl)

pub place_one : One place.ended place_reads.Post
place_one κs a v v' w w' p p' = (one_place v v' p.1 p'.1 (p.0 ∙ sym p'.0), refl)

pub named_by_one : One NamedBy.ended named_by_reads.Post
named_by_one κs a v v' w w' p p' = (one_place v v' p.1 p'.1 (p.0 ∙ sym p'.0), refl)

pub is_code_one : One is_code.ended is_code_reads.Post
is_code_one κs a v v' w w' = alike
