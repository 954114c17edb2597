-- Keys of a name and a third number.
--   named m a                = that key
--   named_same, named_less   = compared by the name, then by the third number
--   by_number, by_index      = where the third number is a number and an index, or an index and a number: by both
--   number_first             = below by the name, then the number, then the index
use Prim.Native.Nat.{ℕ, ◌+◌, ◌*◌, ◌<◌}
use mathlib.Core.Path.{◌≡◌, sym, ap, ap₂, ◌∙◌}
use mathlib.Core.Bool.{Bool, false, ◌&&◌, ◌||◌, and_assoc, and_comm}
use lib.Dec.{eqb, ltb}
use Rattle.rules.specs.Names.{Name, same_name, less_name}
use Rattle.fields.specs.Packed.{name_of}
use Rattle.fields.specs.Texts.{Wide}
use Rattle.fields.proofs.Texts.{names_equal, names_below}
use Rattle.fields.proofs.Pairs.{pair_same, pair_less, first_by, or_never}
use Rattle.keys.specs.Compare.{same_key, less_or}
use Rattle.keys.specs.declared.Key.{Key}

abbrev pub named : Name → ℕ → Key
named m a = record { first = (name_of m).hi; second = (name_of m).lo; third = a }

module _ (m n : Name) (u : Wide m) (v : Wide n) where
  named_same : (a b : ℕ) → same_key (named m a) (named n b) ≡ (same_name m n && eqb a b)
  unfolding same_key
  named_same a b =
      sym (and_assoc (eqb (name_of m).hi (name_of n).hi) (eqb (name_of m).lo (name_of n).lo) (eqb a b))
      ∙ ap (λ (t : Bool). t && eqb a b) (names_equal m n u v)

  named_less : (a b : ℕ) → less_or (named m a) (named n b) false ≡ (less_name (λ b. b) m n || (same_name m n && ltb a b))
  unfolding less_or
  named_less a b =
      (rw (← or_never (ltb a b) (eqb a b)))
      ∙ sym (first_by (ltb (name_of m).hi (name_of n).hi) (eqb (name_of m).hi (name_of n).hi) (ltb (name_of m).lo (name_of n).lo)
      (eqb (name_of m).lo (name_of n).lo) (ltb a b))
      ∙ ap₂ (λ (s t : Bool). s || (t && ltb a b)) (names_below m n u v) (names_equal m n u v)

  module _ (p i q j : ℕ) where
    pub by_number : i < 256 → j < 256
        → same_key (named m (256 * p + i)) (named n (256 * q + j)) ≡ (same_name m n && (eqb p q && eqb i j))
    by_number h g = named_same (256 * p + i) (256 * q + j) ∙ ap (λ (t : Bool). same_name m n && t) (pair_same 256 p i q j h g)

    pub by_index : p < 4294967296 → q < 4294967296
        → same_key (named m (4294967296 * i + p)) (named n (4294967296 * j + q)) ≡ (same_name m n && (eqb p q && eqb i j))
    by_index h g =
        named_same (4294967296 * i + p) (4294967296 * j + q)
        ∙ ap (λ (t : Bool). same_name m n && t) (pair_same 4294967296 i p j q h g ∙ and_comm (eqb i j) (eqb p q))

    pub number_first : i < 256 → j < 256
        → less_or (named m (256 * p + i)) (named n (256 * q + j)) false
        ≡ (less_name (λ b. b) m n || (same_name m n && (ltb p q || (eqb p q && ltb i j))))
    number_first h g =
        named_less (256 * p + i) (256 * q + j)
        ∙ ap (λ (t : Bool). less_name (λ b. b) m n || (same_name m n && t)) (pair_less 256 p i q j h g)
