-- How the places of a slice are put, and how many there are.
--   same          = a slice of numbers, or of bytes, as it stands
--   count, half   = a place for each number; a place for each two bytes
--   Apart put     = a put looks at its own channel only, replaces what it put before, and leaves other places alone
--   Puts held put room = that, and a put keeps how many places there are; and two slices that are read alike are the same
--   numbers, bytes = so is it of both
use Rattle.std.specs.Prelude.{ℕ, ◌≡◌, ◌*◌, ◌+◌, ◌/◌, ◌%◌, List, length}
use Rattle.std.proofs.Common.{◌∙◌, ap, arith}
use Rattle.std.proofs.Math.ListN.{set, length-set}
use lib.Seq.{set-set, set_comm}
use Rattle.rules.specs.Spread.{place, byte_place, Put}

abbrev pub same : List ℕ → List ℕ
same d = d

abbrev pub count : List ℕ → ℕ
count d = length d

abbrev pub half : List ℕ → ℕ
half d = length d / 2

pub record Apart (put : Put) : Type 0 where
  pub same : (u v : ℕ → ℕ) (i : ℕ) (l : List ℕ) → u (i + 1) ≡ v (i + 1) → put u i l ≡ put v i l
  pub again : (u v : ℕ → ℕ) (i : ℕ) (l : List ℕ) → put v i (put u i l) ≡ put v i l
  pub apart : (u v : ℕ → ℕ) (i j : ℕ) (l : List ℕ) → (i ≡ j → ⊥) → put v j (put u i l) ≡ put u i (put v j l)

pub record Puts {A : Type 0} (held : List A → List ℕ) (put : Put) (room : List ℕ → ℕ) : Type 0 where
  pub one : (a b : List A) → held a ≡ held b → a ≡ b
  pub size : (v : ℕ → ℕ) (i : ℕ) (l : List ℕ) → room (put v i l) ≡ room l
  pub places : Apart put

pub numbers : Puts same place count
numbers =
    record {
      one = λ a b e. e;
      size = λ v i l. length-set l i (v (i + 1));
      places =
          record {
            same = λ u v i l e. ap (set l i) e;
            again = λ u v i l. set-set l i (u (i + 1)) (v (i + 1));
            apart = λ u v i j l n. set_comm l i j (u (i + 1)) (v (j + 1)) n;
          };
    }

-- two bytes
module _ (l : List ℕ) (a b : ℕ) (n : b ≡ a → ⊥) where
  pub pair_again : (x y x' y' : ℕ) → set (set (set (set l a x) b y) a x') b y' ≡ set (set l a x') b y'
  pair_again x y x' y' =
      ap (λ (d : List ℕ). set d b y') (set_comm (set l a x) b a y x' n ∙ ap (λ (d : List ℕ). set d b y) (set-set l a x x'))
      ∙ set-set (set l a x') b y y'

pair_apart : (l : List ℕ) (a b c d x y z w : ℕ) → (a ≡ c → ⊥) → (b ≡ c → ⊥) → (a ≡ d → ⊥) → (b ≡ d → ⊥)
    → set (set (set (set l a x) b y) c z) d w ≡ set (set (set (set l c z) d w) a x) b y
pair_apart l a b c d x y z w ac bc ad bd =
    ap (λ (e : List ℕ). set e d w) (set_comm (set l a x) b c y z bc ∙ ap (λ (e : List ℕ). set e b y) (set_comm l a c x z ac))
    ∙ set_comm (set (set l c z) a x) b d y w bd
    ∙ ap (λ (e : List ℕ). set e b y) (set_comm (set l c z) a d x w ad)

pub bytes : Puts same byte_place half
bytes =
    record {
      one = λ a b e. e;
      size =
          λ v i l.
          ap (λ (n : ℕ). n / 2)
          (length-set (set l (2 * i) (v (i + 1) % 256)) (2 * i + 1) (v (i + 1) / 256) ∙ length-set l (2 * i) (v (i + 1) % 256));
      places =
          record {
            same = λ u v i l e. ap (λ (n : ℕ). set (set l (2 * i) (n % 256)) (2 * i + 1) (n / 256)) e;
            again = λ u v i l. pair_again l (2 * i) (2 * i + 1) (λ e. omega arith) (u (i + 1) % 256) (u (i + 1) / 256) (v (i + 1) % 256) (v (i + 1) / 256);
            apart =
                λ u v i j l n.
                pair_apart l (2 * i) (2 * i + 1) (2 * j) (2 * j + 1) (u (i + 1) % 256) (u (i + 1) / 256) (v (j + 1) % 256) (v (j + 1) / 256)
                (λ e. n (omega arith)) (λ e. omega arith) (λ e. omega arith) (λ e. n (omega arith));
          };
    }
