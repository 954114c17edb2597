-- The contracts of this crate leave one outcome: for every public function, any two results that meet its contract are the same.
use Rattle.std.proofs.Common.{◌≡◌, ℕ, sym, refl, ap, ◌∙◌, arith}
use Rattle.rules.specs.Disc.{disc}
use Rattle.rules.specs.Tape.{tape}
use Rattle.rules.specs.Calls.{Choice as PaperChoice, on, none}
use Rattle.lines.specs.Reading.{medium_on, chosen_by}
use Rattle.lines.specs.declared.Medium.{Medium}
use Rattle.lines.specs.declared.Medium.TheVariants.{Disc, Tape}
use Rattle.lines.specs.declared.Reading.{Reading}
use Rattle.outcome.specs.One.{One, alike}
use Rattle.lines.specs.contracts.unplaced as unplaced
use Rattle.lines.proofs.unplaced.Reads as unplaced_reads
use Rattle.lines.specs.contracts.at_line as at_line
use Rattle.lines.proofs.at_line.Reads as at_line_reads
use Rattle.lines.specs.contracts.disc as disc
use Rattle.lines.proofs.disc.Reads as disc_reads
use Rattle.lines.specs.contracts.chosen as chosen
use Rattle.lines.proofs.chosen.Reads as chosen_reads
use Rattle.lines.specs.contracts.is_letter as is_letter
use Rattle.lines.proofs.is_letter.Reads as is_letter_reads
use Rattle.lines.specs.contracts.letters.letter as letter
use Rattle.lines.proofs.letters.letter.Reads as letter_reads
use Rattle.lines.specs.contracts.letters.kind_of as kind_of
use Rattle.lines.proofs.letters.kind_of.Reads as kind_of_reads
use Rattle.lines.specs.contracts.line_count as line_count
use Rattle.lines.proofs.line_count.Reads as line_count_reads
use Rattle.lines.specs.contracts.length_fits as length_fits
use Rattle.lines.proofs.length_fits.Reads as length_fits_reads
use Rattle.lines.specs.contracts.line_of as LineOf
use Rattle.lines.proofs.line_of.Reads as line_of_reads
use Rattle.lines.specs.contracts.own_of as own_of_lem
use Rattle.lines.proofs.own_of.Reads as own_of_reads
use Rattle.lines.specs.contracts.char_of as CharOf
use Rattle.lines.proofs.char_of.Reads as char_of_reads
use Rattle.lines.specs.contracts.page.char_of as page_char_of
use Rattle.lines.proofs.page.char_of.Reads as page_char_of_reads
use Rattle.lines.specs.contracts.page.translated as translated
use Rattle.lines.proofs.page.translated.Reads as translated_reads
use Rattle.lines.specs.contracts.proper.byte_fits as byte_fits
use Rattle.lines.proofs.proper.byte_fits.Reads as byte_fits_reads
use Rattle.lines.specs.contracts.eof.first_eof as first_eof
use Rattle.lines.proofs.eof.first_eof.Reads as first_eof_reads
use Rattle.lines.specs.contracts.stray as stray
use Rattle.lines.proofs.stray.Reads as stray_reads
use Rattle.lines.specs.contracts.show as show
use Rattle.lines.proofs.show.Reads as show_reads
use contract.Lifetimes.{Lfts}
use borrow.Fn.World.{ArgsD, ResD}
use denote.Triple.Clauses.{AtExit}
use Rattle.lines.specs.Paper.{told, paper}
use Rattle.std.specs.Prelude.{Result, Ok, Err, Option, Some, None}
use Rattle.lines.specs.declared.Refusal.{Refusal}

refusal_one : (d d' : Refusal) → d.number ≡ d'.number → d.file ≡ d'.file → d.line ≡ d'.line → d.column ≡ d'.column → d ≡ d'
refusal_one d d' n f l c =
    let same : ◌≡◌ {A = Refusal} (record { number = d.number; file = d.file; line = d.line; column = d.column })
    (record { number = d'.number; file = d'.file; line = d'.line; column = d'.column }) = cc in
    same

pub told_one : (d d' : Refusal) → told d ≡ told d' → d ≡ d'
told_one d d' e = refusal_one d d' (cc) (cc) (cc) (cc)

pub verdict_one : (a b : Result (Unit {0}) Refusal) → paper a ≡ paper b → a ≡ b
verdict_one (Ok u) (Ok v) e = refl
verdict_one (Ok u) (Err d) e = cc
verdict_one (Err d) (Ok u) e = cc
verdict_one (Err d) (Err d') e = ap Err (refusal_one d d' (cc) (cc) (cc) (cc))

pub disc_one : One disc.ended disc_reads.Post
disc_one κs a v v' w w' = alike

-- the media differ in the bytes of a line
width : PaperChoice → ℕ
width (on M) = M.stride
width none = 0

choice_one : (a b : Option Reading) → chosen_by a ≡ chosen_by b → a ≡ b
unfolding disc tape width
choice_one (Some how) (Some other) e = ap Some (reading_one how.medium other.medium (ap width e))
  where
    reading_one : (m n : Medium) → (medium_on m).stride ≡ (medium_on n).stride → ◌≡◌ {A = Reading} (record { medium = m }) (record { medium = n })
    reading_one Disc Disc z = refl
    reading_one Disc Tape z = absurd (omega arith)
    reading_one Tape Disc z = absurd (omega arith)
    reading_one Tape Tape z = refl
choice_one (Some how) None e = absurd (let z : ◌≡◌ {A = ℕ} 0 1 = cc in omega arith)
choice_one None (Some how) e = absurd (let z : ◌≡◌ {A = ℕ} 0 1 = cc in omega arith)
choice_one None None e = refl

pub chosen_one : One chosen.ended chosen_reads.Post
chosen_one κs a v v' w w' p p' = (choice_one v v' (p ∙ sym p'), refl)

pub is_letter_one : One is_letter.ended is_letter_reads.Post
is_letter_one κs a v v' w w' = alike

pub letter_one : One letter.ended letter_reads.Post
letter_one κs a v v' w w' = alike

pub kind_of_one : One kind_of.ended kind_of_reads.Post
kind_of_one κs a v v' w w' = alike

pub line_count_one : One line_count.ended line_count_reads.Post
line_count_one κs a v v' w w' = alike

pub length_fits_one : One length_fits.ended length_fits_reads.Post
length_fits_one κs a v v' w w' p p' = (verdict_one v v' (p ∙ sym p'), refl)

pub line_of_one : One LineOf.ended line_of_reads.Post
line_of_one κs a v v' w w' = alike

pub own_of_one : One own_of_lem.ended own_of_reads.Post
own_of_one κs a v v' w w' = alike

pub char_of_one : One CharOf.ended char_of_reads.Post
char_of_one κs a v v' w w' = alike

pub page_char_of_one : One page_char_of.ended page_char_of_reads.Post
page_char_of_one κs a v v' w w' = alike

pub translated_one : One translated.ended translated_reads.Post
translated_one κs a v v' w w' = alike

pub byte_fits_one : One byte_fits.ended byte_fits_reads.Post
byte_fits_one κs a v v' w w' = alike

pub first_eof_one : One first_eof.ended first_eof_reads.Post
first_eof_one κs a v v' w w' = alike

pub stray_one : One stray.ended stray_reads.Post
stray_one κs a v v' w w' = alike

-- a part is where it lies and what it holds
pub show_one : (κs : Lfts 1) (a : ArgsD show.signature κs) (v v' : ResD show.signature κs) (s s' : AtExit show.ended κs)
    → show_reads.Post κs a v s → show_reads.Post κs a v' s' → (v.ref_ptr ≡ v'.ref_ptr) × (v.now ≡ v'.now)
show_one κs a v v' s s' p p' = (p.1 ∙ sym p'.1, p.0 ∙ sym p'.0)

pub unplaced_one : One unplaced.ended unplaced_reads.Post
unplaced_one κs a v v' w w' p p' = (told_one v v' (p ∙ sym p'), refl)

pub at_line_one : One at_line.ended at_line_reads.Post
at_line_one κs a v v' w w' p p' = (verdict_one v v' (p ∙ sym p'), refl)
