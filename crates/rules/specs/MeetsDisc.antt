-- "A line is 80 columns, then CR (13) and LF (10): 82 bytes. .. Columns 1 to 80 hold bytes 32 to 126": the disc form in words.
--   Printable b    = a byte of columns 1 to 80
--   Proper c b     = byte b may stand in column c of the 82
--   byte_at f k c   = the byte in column c of line k of a file
--   Clean f k      = 3 of line k: each of its bytes may stand in its column
use Rattle.std.specs.Prelude.{ℕ, ◌+◌, ◌-◌, ◌*◌, ◌≤◌, ◌≡◌, List, get_or}

abbrev pub Printable : ℕ → Type 0
Printable b = (32 ≤ b) × (b ≤ 126)

abbrev pub Proper : ℕ → ℕ → Type 0
Proper c b = (c ≤ 80 → Printable b) × ((c ≤ 80 → ⊥) → (c ≡ 81 → b ≡ 13) × ((c ≡ 81 → ⊥) → b ≡ 10))

abbrev pub byte_at : List ℕ → ℕ → ℕ → ℕ
byte_at f k c = get_or f (82 * k + (c - 1)) 0

abbrev pub Clean : List ℕ → ℕ → Type 0
Clean f k = (c : ℕ) → 1 ≤ c → c ≤ 82 → Proper c (byte_at f k c)
