-- The contracts of this crate leave one outcome: for every public function, any two results that meet its contract are the same.
use native.Mathlib.Nat.{le_refl}
use mathlib.Core.Path.{◌≡◌, refl, sym, ◌∙◌}
use Rattle.std.specs.Prelude.{Option, None, Some}
use Rattle.outcome.specs.One.{One, alike}
use Rattle.fields.specs.contracts.bytes.blank as blank
use Rattle.fields.proofs.bytes.blank.Reads as blank_reads
use Rattle.fields.specs.contracts.kinds.digits_only as digits_only
use Rattle.fields.proofs.kinds.digits_only.Reads as digits_only_reads
use Rattle.fields.specs.contracts.bytes.index_of as index_of
use Rattle.fields.proofs.bytes.index_of.Reads as index_of_reads
use Rattle.fields.specs.contracts.kinds.starts_non_blank as starts_non_blank
use Rattle.fields.proofs.kinds.starts_non_blank.Reads as starts_non_blank_reads
use Rattle.fields.specs.contracts.kinds.coordinate as coordinate
use Rattle.fields.proofs.kinds.coordinate.Reads as coordinate_reads
use Rattle.fields.specs.contracts.kinds.index as index
use Rattle.fields.proofs.kinds.index.Reads as index_Reads
use Rattle.fields.specs.contracts.kinds.water_depth as water_depth
use Rattle.fields.proofs.kinds.water_depth.Reads as water_depth_reads
use Rattle.fields.specs.contracts.kinds.whole_number as whole_number
use Rattle.fields.proofs.kinds.whole_number.Reads as whole_number_reads
use Rattle.fields.specs.contracts.kinds.signed_number as signed_number
use Rattle.fields.proofs.kinds.signed_number.Reads as signed_number_reads
use Rattle.fields.specs.contracts.kinds.signed_decimal as kind_signed_decimal
use Rattle.fields.proofs.kinds.signed_decimal.Reads as kind_signed_decimal_reads
use Rattle.fields.specs.contracts.kinds.decimal_number as decimal_number
use Rattle.fields.proofs.kinds.decimal_number.Reads as decimal_number_reads
use Rattle.fields.specs.contracts.kinds.time as time
use Rattle.fields.proofs.kinds.time.Reads as time_reads
use Rattle.fields.specs.contracts.bytes.two as two
use Rattle.fields.proofs.bytes.two.Reads as two_reads
use Rattle.fields.specs.contracts.kinds.code as code
use Rattle.fields.proofs.kinds.code.Reads as code_Reads
use Rattle.fields.specs.contracts.numbers.digits as digits
use Rattle.fields.proofs.numbers.digits.Reads as digits_reads
use Rattle.fields.specs.contracts.numbers.whole as whole
use Rattle.fields.proofs.numbers.whole.Reads as whole_reads
use Rattle.fields.specs.contracts.numbers.signed as signed
use Rattle.fields.proofs.numbers.signed.Reads as signed_Reads
use Rattle.fields.specs.contracts.numbers.decimal as decimal
use Rattle.fields.proofs.numbers.decimal.Reads as decimal_reads
use Rattle.fields.specs.contracts.numbers.signed_decimal as signed_decimal
use Rattle.fields.proofs.numbers.signed_decimal.Reads as signed_decimal_reads
use Rattle.fields.specs.contracts.numbers.water as water
use Rattle.fields.proofs.numbers.water.Reads as water_reads
use Rattle.fields.specs.contracts.ranges.between as between
use Rattle.fields.proofs.ranges.between.Reads as between_reads
use Rattle.fields.specs.contracts.ranges.within as within
use Rattle.fields.proofs.ranges.within.Reads as within_reads
use Rattle.fields.specs.contracts.ranges.formed as formed
use Rattle.fields.proofs.ranges.formed.Reads as formed_reads
use Rattle.fields.specs.contracts.ranges.size as size
use Rattle.fields.proofs.ranges.size.Reads as size_reads
use Rattle.fields.specs.contracts.ranges.value as value
use Rattle.fields.proofs.ranges.value.Reads as value_reads
use Rattle.fields.specs.contracts.names.pack as pack
use Rattle.fields.proofs.names.pack.Reads as pack_reads
use Rattle.fields.specs.contracts.names.name as name
use Rattle.fields.proofs.names.name.Reads as name_reads
use Rattle.fields.specs.contracts.names.same_name as same_name
use Rattle.fields.proofs.names.same_name.Reads as same_name_reads
use Rattle.fields.specs.contracts.fits as fits
use Rattle.fields.proofs.fits.Reads as fits_reads
use Rattle.fields.specs.Paper.{number}
use Rattle.fields.specs.declared.Number.{Number}
use Rattle.fields.specs.declared.Number.TheVariants.{Plus, Minus}
use Rattle.fields.specs.contracts.families.digit1 as digit1
use Rattle.fields.proofs.families.digit1.Reads as digit1_reads
use Rattle.fields.specs.contracts.families.is_code as is_code
use Rattle.fields.proofs.families.is_code.Reads as is_code_reads
use Rattle.fields.specs.contracts.figures.number as figures_number
use Rattle.fields.proofs.figures.number.Reads as figures_number_reads
use Rattle.fields.specs.contracts.figures.index as figures_index
use Rattle.fields.proofs.figures.index.Reads as figures_index_reads

pub number_one : (a b : Option Number) → number a ≡ number b → a ≡ b
number_one None None e = refl
number_one None (Some (Plus n)) e = cc
number_one None (Some (Minus n)) e = cc
number_one (Some (Plus m)) None e = cc
number_one (Some (Plus m)) (Some (Plus n)) e = cc
number_one (Some (Plus m)) (Some (Minus n)) e = cc
number_one (Some (Minus m)) None e = cc
number_one (Some (Minus m)) (Some (Plus n)) e = cc
number_one (Some (Minus m)) (Some (Minus n)) e = cc

pub blank_one : One blank.ended blank_reads.Post
blank_one κs a v v' w w' = alike

pub digits_only_one : One digits_only.ended digits_only_reads.Post
digits_only_one κs a v v' w w' = alike

pub index_of_one : One index_of.ended index_of_reads.Post
index_of_one κs a v v' w w' = alike

pub starts_non_blank_one : One starts_non_blank.ended starts_non_blank_reads.Post
starts_non_blank_one κs a v v' w w' p p' = (p _ (le_refl _) ∙ sym (p' _ (le_refl _)), refl)

pub coordinate_one : One coordinate.ended coordinate_reads.Post
coordinate_one κs a v v' w w' = alike

pub index_one : One index.ended index_Reads.Post
index_one κs a v v' w w' p p' = (p _ (le_refl _) ∙ sym (p' _ (le_refl _)), refl)

pub water_depth_one : One water_depth.ended water_depth_reads.Post
water_depth_one κs a v v' w w' = alike

pub whole_number_one : One whole_number.ended whole_number_reads.Post
whole_number_one κs a v v' w w' = alike

pub signed_number_one : One signed_number.ended signed_number_reads.Post
signed_number_one κs a v v' w w' = alike

pub kind_signed_decimal_one : One kind_signed_decimal.ended kind_signed_decimal_reads.Post
kind_signed_decimal_one κs a v v' w w' = alike

pub decimal_number_one : One decimal_number.ended decimal_number_reads.Post
decimal_number_one κs a v v' w w' = alike

pub time_one : One time.ended time_reads.Post
time_one κs a v v' w w' = alike

pub two_one : One two.ended two_reads.Post
two_one κs a v v' w w' = alike

pub code_one : One code.ended code_Reads.Post
code_one κs a v v' w w' = alike

pub digits_one : One digits.ended digits_reads.Post
digits_one κs a v v' w w' p p' = (number_one v v' (p ∙ sym p'), refl)

pub whole_one : One whole.ended whole_reads.Post
whole_one κs a v v' w w' p p' = (number_one v v' (p ∙ sym p'), refl)

pub signed_one : One signed.ended signed_Reads.Post
signed_one κs a v v' w w' p p' = (number_one v v' (p ∙ sym p'), refl)

pub decimal_one : One decimal.ended decimal_reads.Post
decimal_one κs a v v' w w' p p' = (number_one v v' (p ∙ sym p'), refl)

pub signed_decimal_one : One signed_decimal.ended signed_decimal_reads.Post
signed_decimal_one κs a v v' w w' p p' = (number_one v v' (p ∙ sym p'), refl)

pub water_one : One water.ended water_reads.Post
water_one κs a v v' w w' p p' = (number_one v v' (p ∙ sym p'), refl)

pub between_one : One between.ended between_reads.Post
between_one κs a v v' w w' = alike

pub within_one : One within.ended within_reads.Post
within_one κs a v v' w w' = alike

pub formed_one : One formed.ended formed_reads.Post
formed_one κs a v v' w w' = alike

pub size_one : One size.ended size_reads.Post
size_one κs a v v' w w' = alike

pub value_one : One value.ended value_reads.Post
value_one κs a v v' w w' = alike

pub pack_one : One pack.ended pack_reads.Post
pack_one κs a v v' w w' = alike

pub name_one : One name.ended name_reads.Post
name_one κs a v v' w w' = alike

pub same_name_one : One same_name.ended same_name_reads.Post
same_name_one κs a v v' w w' = alike

pub fits_one : One fits.ended fits_reads.Post
fits_one κs a v v' w w' = alike

pub figures_number_one : One figures_number.ended figures_number_reads.Post
figures_number_one κs a v v' w w' p p' = (p.0 ∙ sym p'.0, refl)

pub figures_index_one : One figures_index.ended figures_index_reads.Post
figures_index_one κs a v v' w w' p p' = (p.0 ∙ sym p'.0, refl)

pub digit1_one : One digit1.ended digit1_reads.Post
digit1_one κs a v v' w w' = alike

pub is_code_one : One is_code.ended is_code_reads.Post
is_code_one κs a v v' w w' = alike
