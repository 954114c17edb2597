-- "Small sets to try": set A and its changes, as bytes.
--   put c t l          = line l with the text t from column c on
--   code_header n t     = header line n, of three digits, with the code t
--   headers            = H00 to H20, H18 holding `UTM;`, then the tables of 1, G1 and V1
--   point_line          = a line of R or S: letter, line name, point, code
--   relation_line       = a line of X: source point, channels and increment, receiver line name, receivers
--   r_of, x_of           = an R file of three points, an X file of those lines
--   r_a, s_a, x_a         = set A
--   eof, tape_of f      = the record that ends a tape, and the tape of a disc file: its lines in the tape's own bytes, then that record
use Rattle.std.specs.Prelude.{ℕ, zero, suc, ◌+◌, ◌-◌, ◌/◌, List, [], ◌∷◌, ◌++◌, take, drop, replicate, length}
use Prim.Native.String.{String}
use Rattle.rules.specs.Text.{bytes}
use Rattle.rules.specs.Names.{ranked}
use Rattle.rules.specs.Tape.{page, byte_in}
use Rattle.rules.specs.Headers.{two_digits}
use Rattle.rules.specs.Codes.{three_digits}

abbrev pub blank_line : List ℕ
blank_line = replicate 80 32 ++ (13 ∷ 10 ∷ [])

abbrev pub put : ℕ → List ℕ → List ℕ → List ℕ
put c t l = take (c - 1) l ++ (t ++ drop (c - 1 + length t) l)

abbrev pub header : ℕ → List ℕ
header n = put 1 (bytes "H") (put 2 (two_digits n) blank_line)

abbrev pub headers_from : ℕ → ℕ → List ℕ
headers_from zero k = []
headers_from (suc n) k = header k ++ headers_from n (suc k)

abbrev pub code_header : ℕ → String → List ℕ
code_header n t = put 1 (bytes "H") (put 2 (three_digits n) (put 33 (bytes t) blank_line))

abbrev pub types : List ℕ
types = headers_from 18 0 ++ (put 33 (bytes "UTM;") (header 18) ++ headers_from 2 19)

abbrev pub headers : List ℕ
headers = types ++ (code_header 400 "1," ++ (code_header 600 "G1" ++ code_header 700 "V1"))

abbrev pub point_line : String → String → String → String → List ℕ
point_line letter name point code =
    put 1 (bytes letter) (put 2 (bytes name) (put 18 (bytes point) (put 26 (bytes "1") (put 27 (bytes code)
    (put 33 (bytes " 0.0   0") (put 47 (bytes "      0.0       0.0   0.0113071245") blank_line))))))

abbrev pub relation_line : String → String → String → String → List ℕ
relation_line point channels name receivers =
    put 1 (bytes "X100     1111L1") (put 30 (bytes point) (put 38 (bytes "1")
    (put 39 (bytes channels) (put 48 (bytes name) (put 64 (bytes receivers) (put 80 (bytes "1") blank_line))))))

abbrev pub r_of : String → String → String → String → List ℕ
r_of name a b c =
    headers ++ (point_line "R" name a "G1" ++ (point_line "R" name b "G1" ++ point_line "R" name c "G1"))

abbrev pub x_of : List ℕ → List ℕ
x_of lines = headers ++ lines

abbrev pub r_a : List ℕ
r_a = r_of "L1" "     101" "     102" "     103"

abbrev pub s_a : List ℕ
s_a = headers ++ point_line "S" "L1" "     501" "V1"

abbrev pub line_a : List ℕ
line_a = relation_line "     501" "   1   31" "L1" "     101     103"

abbrev pub x_a : List ℕ
x_a = x_of line_a

abbrev pub eof : List ℕ
eof = 197 ∷ 214 ∷ 198 ∷ replicate 77 64

abbrev pub records_of : ℕ → List ℕ → List ℕ
records_of zero f = []
records_of (suc n) f = ranked (byte_in page) (take 80 f) ++ records_of n (drop 82 f)

abbrev pub tape_of : List ℕ → List ℕ
tape_of f = records_of (length f / 82) f ++ eof
