-- "only blank, letters, digits and `. , ; : ( ) - + / & ' % * = ? _ < >` are taken": the tape form in words.
--   characters     = the characters that are taken
--   byte_on f k c   = the byte in column c of record k of a file
--   CleanTape f k  = 3 of line k: each of its bytes is, in code page 037, a character that is taken
use Rattle.std.specs.Prelude.{ℕ, ◌+◌, ◌-◌, ◌*◌, ◌≤◌, ◌≡◌, true, List, get_or}
use Prim.Native.String.{String}
use Rattle.rules.specs.Text.{one_of}
use Rattle.rules.specs.Tape.{page, char_in}

abbrev pub characters : String
characters = " .,;:()-+/&'%*=?_<>0123456789ABCDEFGHIJKLMNOPQRSTUVWXYZabcdefghijklmnopqrstuvwxyz"

abbrev pub byte_on : List ℕ → ℕ → ℕ → ℕ
byte_on f k c = get_or f (80 * k + (c - 1)) 0

abbrev pub CleanTape : List ℕ → ℕ → Type 0
CleanTape f k = (c : ℕ) → 1 ≤ c → c ≤ 80 → one_of characters (char_in page (byte_on f k c)) ≡ true
