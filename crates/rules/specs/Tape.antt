-- The tape form: records of 80 bytes, EBCDIC code page 037, ended by one with EOF in columns 1-3.
--   run n s    = the characters of s, which stand together in the code page from byte n on
--   page       = the characters that are taken
--   char_in, byte_in = the character of a byte, and the byte of a character; 0 for one that is not taken
--   tape       = the medium
use Rattle.std.specs.Prelude.{ℕ, suc, ◌+◌, ◌-◌, ◌&&◌, List, [], ◌∷◌, eqb, leb, ltb, length, get_or, take}
use Prim.Native.String.{String}
use Rattle.rules.specs.Places.{pick}
use Rattle.rules.specs.Text.{same, bytes}
use Rattle.rules.specs.Medium.{Medium}

pub record Run : Type 0 where
  pub start : ℕ
  pub chars : List ℕ

abbrev pub run : ℕ → String → Run
run n s = record { start = n; chars = bytes s }

unfoldable pub page : List Run
page =
    run 64 " "
    ∷ run 75 ".<(+"
    ∷ run 80 "&"
    ∷ run 92 "*);"
    ∷ run 96 "-/"
    ∷ run 107 ",%_>?"
    ∷ run 122 ":"
    ∷ run 125 "'="
    ∷ run 129 "abcdefghi"
    ∷ run 145 "jklmnopqr"
    ∷ run 162 "stuvwxyz"
    ∷ run 193 "ABCDEFGHI"
    ∷ run 209 "JKLMNOPQR"
    ∷ run 226 "STUVWXYZ"
    ∷ run 240 "0123456789" ∷ []

unfoldable pub char_in : List Run → ℕ → ℕ
char_in [] b = 0
char_in (r ∷ rs) b =
    let more = char_in rs b in
    pick (leb r.start b && ltb b (r.start + length r.chars)) (get_or r.chars (b - r.start) 0) more

-- the place of a character among others, from 1; 0 where it is none of them
unfoldable pub place_of : List ℕ → ℕ → ℕ
place_of [] c = 0
place_of (d ∷ ds) c = let n = place_of ds c in pick (eqb c d) 1 (pick (eqb n 0) 0 (suc n))

unfoldable pub byte_in : List Run → ℕ → ℕ
byte_in [] c = 0
byte_in (r ∷ rs) c =
    let n = place_of r.chars c in
    let more = byte_in rs c in
    pick (eqb n 0) more (r.start + n - 1)

unfoldable pub tape : Medium
tape =
    record {
      stride = 80;
      closing = 1;
      takes = λ c b. ltb 0 (char_in page b);
      char_of = char_in page;
      byte_of = byte_in page;
      ends = λ l. same (take 3 l) (197 ∷ 214 ∷ 198 ∷ []);
    }
