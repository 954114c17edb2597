-- The table of the code is the code page of the rules, by one computed test, and a line is translated column by column.
use Rattle.std.proofs.Common.{◌≡◌, ℕ, zero, suc, ◌+◌, ◌-◌, ◌<◌, ◌≤◌, true, not, ◌&&◌, eqb, ltb, List, [], ◌∷◌, length, get_or, set, sym, refl, ap, ◌∙◌, subst}
use Rattle.std.proofs.Common.{add-one, arith, lit≤, get_or-set_other, get_or-set_same, ext_get_or, le-ltb, lt-ltb, eq-eqb, ne_eqb, eqb-true}
use Rattle.rules.specs.Places.{pick, every}
use Rattle.rules.specs.Text.{bytes}
use Rattle.rules.specs.Names.{ranked}
use Rattle.rules.specs.Tape.{page, char_in, place_of, byte_in, tape}
use Rattle.rules.proofs.Tests.{more, and_is, every_is, agree}
use Rattle.rules.proofs.Medium.{ranked_length, ranked_at}
use Rattle.rules.proofs.Media.{tape_lawful}

abbrev pub chars : List ℕ
chars =
    0 ∷ 0 ∷ 0 ∷ 0 ∷ 0 ∷ 0 ∷ 0 ∷ 0 ∷ 0 ∷ 0 ∷ 0 ∷ 0 ∷ 0 ∷ 0 ∷ 0 ∷ 0
    ∷ 0 ∷ 0 ∷ 0 ∷ 0 ∷ 0 ∷ 0 ∷ 0 ∷ 0 ∷ 0 ∷ 0 ∷ 0 ∷ 0 ∷ 0 ∷ 0 ∷ 0 ∷ 0
    ∷ 0 ∷ 0 ∷ 0 ∷ 0 ∷ 0 ∷ 0 ∷ 0 ∷ 0 ∷ 0 ∷ 0 ∷ 0 ∷ 0 ∷ 0 ∷ 0 ∷ 0 ∷ 0
    ∷ 0 ∷ 0 ∷ 0 ∷ 0 ∷ 0 ∷ 0 ∷ 0 ∷ 0 ∷ 0 ∷ 0 ∷ 0 ∷ 0 ∷ 0 ∷ 0 ∷ 0 ∷ 0
    ∷ 32 ∷ 0 ∷ 0 ∷ 0 ∷ 0 ∷ 0 ∷ 0 ∷ 0 ∷ 0 ∷ 0 ∷ 0 ∷ 46 ∷ 60 ∷ 40 ∷ 43 ∷ 0
    ∷ 38 ∷ 0 ∷ 0 ∷ 0 ∷ 0 ∷ 0 ∷ 0 ∷ 0 ∷ 0 ∷ 0 ∷ 0 ∷ 0 ∷ 42 ∷ 41 ∷ 59 ∷ 0
    ∷ 45 ∷ 47 ∷ 0 ∷ 0 ∷ 0 ∷ 0 ∷ 0 ∷ 0 ∷ 0 ∷ 0 ∷ 0 ∷ 44 ∷ 37 ∷ 95 ∷ 62 ∷ 63
    ∷ 0 ∷ 0 ∷ 0 ∷ 0 ∷ 0 ∷ 0 ∷ 0 ∷ 0 ∷ 0 ∷ 0 ∷ 58 ∷ 0 ∷ 0 ∷ 39 ∷ 61 ∷ 0
    ∷ 0 ∷ 97 ∷ 98 ∷ 99 ∷ 100 ∷ 101 ∷ 102 ∷ 103 ∷ 104 ∷ 105 ∷ 0 ∷ 0 ∷ 0 ∷ 0 ∷ 0 ∷ 0
    ∷ 0 ∷ 106 ∷ 107 ∷ 108 ∷ 109 ∷ 110 ∷ 111 ∷ 112 ∷ 113 ∷ 114 ∷ 0 ∷ 0 ∷ 0 ∷ 0 ∷ 0 ∷ 0
    ∷ 0 ∷ 0 ∷ 115 ∷ 116 ∷ 117 ∷ 118 ∷ 119 ∷ 120 ∷ 121 ∷ 122 ∷ 0 ∷ 0 ∷ 0 ∷ 0 ∷ 0 ∷ 0
    ∷ 0 ∷ 0 ∷ 0 ∷ 0 ∷ 0 ∷ 0 ∷ 0 ∷ 0 ∷ 0 ∷ 0 ∷ 0 ∷ 0 ∷ 0 ∷ 0 ∷ 0 ∷ 0
    ∷ 0 ∷ 65 ∷ 66 ∷ 67 ∷ 68 ∷ 69 ∷ 70 ∷ 71 ∷ 72 ∷ 73 ∷ 0 ∷ 0 ∷ 0 ∷ 0 ∷ 0 ∷ 0
    ∷ 0 ∷ 74 ∷ 75 ∷ 76 ∷ 77 ∷ 78 ∷ 79 ∷ 80 ∷ 81 ∷ 82 ∷ 0 ∷ 0 ∷ 0 ∷ 0 ∷ 0 ∷ 0
    ∷ 0 ∷ 0 ∷ 83 ∷ 84 ∷ 85 ∷ 86 ∷ 87 ∷ 88 ∷ 89 ∷ 90 ∷ 0 ∷ 0 ∷ 0 ∷ 0 ∷ 0 ∷ 0
    ∷ 48 ∷ 49 ∷ 50 ∷ 51 ∷ 52 ∷ 53 ∷ 54 ∷ 55 ∷ 56 ∷ 57 ∷ 0 ∷ 0 ∷ 0 ∷ 0 ∷ 0 ∷ 0
    ∷ []

chars_right : every 256 (λ b. eqb (get_or chars b 0) (char_in page b)) ≡ true
unfolding every pick page char_in bytes
chars_right = refl

pub chars_at : (b : ℕ) → b < 256 → get_or chars b 0 ≡ char_in page b
chars_at b h = eqb-true (get_or chars b 0) (char_in page b) ((every_is 256 (λ b. eqb (get_or chars b 0) (char_in page b))).0 chars_right b h)

-- the first c columns of t are the characters of those of l
abbrev pub Translated : List ℕ → List ℕ → ℕ → Type 0
Translated l t c = (length t ≡ 80) × ((i : ℕ) → i < c → get_or t i 0 ≡ char_in page (get_or l i 0))

pub translated_more : (l t : List ℕ) (c b : ℕ) → c < 80 → b ≡ char_in page (get_or l c 0) → Translated l t c → (i : ℕ) → i < c + 1
    → get_or (set t c b) i 0 ≡ char_in page (get_or l i 0)
translated_more l t c b h e w i g =
    more (rw (← (add-one c)) g)
    (λ q. let ne : i ≡ c → ⊥ = λ e. omega arith in get_or-set_other t c i b 0 ne ∙ w.1 i q)
    (λ q.
    let n = w.0 in
    ap (λ (j : ℕ). get_or (set t c b) j 0) q ∙ get_or-set_same t c b 0 (omega arith) ∙ e ∙ ap (λ (j : ℕ). char_in page (get_or l j 0)) (sym q))

pub translated_all : (l t : List ℕ) → length l ≡ 80 → Translated l t 80 → t ≡ ranked (char_in page) l
translated_all l t m w =
    let n = w.0 in
    let r = ranked_length (char_in page) l in
    ext_get_or 0 t (ranked (char_in page) l) (n ∙ sym (r ∙ m)) (λ i g. w.1 i (omega arith) ∙ sym (ranked_at (char_in page) l i (omega arith)))

-- a byte is taken where it has a character
pub taken_is : (b n : ℕ) → n ≡ char_in page b → not (eqb n 0) ≡ ltb 0 (char_in page b)
taken_is b n e = rw (← e) (go n)
  where
    go : (n : ℕ) → not (eqb n 0) ≡ ltb 0 n
    go zero = refl
    go (suc n) = rw (ne_eqb (suc n) 0 (λ z. let y : 0 < suc n = omega arith in omega arith), lt-ltb 0 (suc n) (omega arith))

-- the first c columns of t are characters
abbrev pub NoGap : List ℕ → ℕ → Type 0
NoGap t c = (i : ℕ) → i < c → get_or t i 0 ≡ 0 → ⊥

-- so that each of the bytes that they translate is taken
pub no_gap_taken : (l t : List ℕ) → length l ≡ 80 → t ≡ ranked (char_in page) l → NoGap t 80 → (c : ℕ) → c < 80
    → ltb 0 (char_in page (get_or l c 0)) ≡ true
no_gap_taken l t m e w c h =
    let q = ap (λ (u : List ℕ). get_or u c 0) e ∙ ranked_at (char_in page) l c (omega arith) in
    lt-ltb 0 (char_in page (get_or l c 0)) (let n = w c h in let p : char_in page (get_or l c 0) ≡ 0 → ⊥ = λ z. n (q ∙ z) in omega arith)

-- the bytes of capital letters stand in three runs
abbrev capital_at : ℕ → ℕ
capital_at c = pick (ltb c 74) (c + 128) (pick (ltb c 83) (c + 135) (c + 143))

capitals : every 26 (λ i. eqb (capital_at (65 + i)) (byte_in page (65 + i)) && eqb (char_in page (byte_in page (65 + i))) (65 + i)) ≡ true
unfolding every pick page char_in place_of byte_in bytes
capitals = refl

module _ (c : ℕ) (l : 65 ≤ c) (h : c ≤ 90) where
  both : (capital_at c ≡ byte_in page c) × (char_in page (byte_in page c) ≡ c)
  both =
      let e : 65 + (c - 65) ≡ c = omega arith in
      let w = (and_is _ _).0 ((every_is 26 _).0 capitals (c - 65) (omega arith)) in
      subst (λ (c : ℕ). (capital_at c ≡ byte_in page c) × (char_in page (byte_in page c) ≡ c)) e (eqb-true _ _ w.0, eqb-true _ _ w.1)

  pub first_run : c < 74 → c + 128 ≡ byte_in page c
  unfolding pick
  first_run g = rw (lt-ltb c 74 g) at both.0

  pub second_run : 74 ≤ c → c < 83 → c + 135 ≡ byte_in page c
  unfolding pick
  second_run o g = rw (le-ltb c 74 o, lt-ltb c 83 g) at both.0

  pub third_run : 74 ≤ c → 83 ≤ c → c + 143 ≡ byte_in page c
  unfolding pick
  third_run o g = rw (le-ltb c 74 o, le-ltb c 83 g) at both.0

  -- a byte is the letter's where its character is the letter
  pub letter_told : (b d : ℕ) → d ≡ byte_in page c → eqb b d ≡ eqb (char_in page b) c
  unfolding tape
  letter_told b d e =
      agree _ _
      (λ t. eq-eqb _ _ (ap (char_in page) (eqb-true b d t ∙ e) ∙ both.1))
      (λ t.
      let q = eqb-true (char_in page b) c t in
      eq-eqb b d (sym (tape_lawful.told 1 b (lit≤ tt) (lt-ltb 0 (char_in page b) (omega arith))) ∙ ap (byte_in page) q ∙ sym e))
