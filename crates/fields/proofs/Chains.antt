-- Tests of all columns, as a chain of an iterator answers them.
use Rattle.std.proofs.Common.{◌≡◌, ℕ, List, [], ◌∷◌, nat_eq, refl}
use Rattle.std.specs.List.{list_all}
use Rattle.std.specs.Char.{is_ascii_digit}
use Rattle.rules.specs.Text.{blank}
use Rattle.rules.specs.Numbers.{digit}
use Rattle.rules.specs.Kinds.{all_digits}

pub blank_by_test : (bs : List ℕ) → list_all (λ b. nat_eq b 32) bs ≡ blank bs
unfolding blank
blank_by_test [] = refl
blank_by_test (b ∷ bs) = rw (blank_by_test bs)

pub digits_by_test : (bs : List ℕ) → list_all is_ascii_digit bs ≡ all_digits bs
unfolding all_digits digit
digits_by_test [] = refl
digits_by_test (b ∷ bs) = rw (digits_by_test bs)
