-- "Refusal numbers, in the order they are looked for", in words: each rule with what it says, what it is to break it, and the place.
--   look R B           = one rule: R is what it says, B w that it is broken and w is the refusal
--   By B v             = B, and the refusal is v
--   InColumn B v       = B of a column, and the refusal is v of that column
--   o then p           = o is looked for, then p
--   line_by_line n o     = o 0, then o 1, .. then o (n - 1)
--   Kept o             = each rule of it is met
--   First o w          = w is its first breach: a rule is broken by w, and each rule before it is met
--   form_order i f      = "1, 2, 29, then line by line 3 (whole line), 4, 5 by field from the left, 6"
--   line_order, header_order, used_order, codes_order, shot_order, relation_order = the parts of a line, of a header, of the code tables, of S and of X
--   related x k R B v  = a rule of line k of X, where that is a relation line
--   order r s x        = "First the form of R, then S, then X. .. Last 15."
--   Refuses r s x w    = the set is refused by w
use Rattle.std.specs.Prelude.{ℕ, ◌+◌, ◌<◌, min, ◌≡◌, ◌⊎◌}
use Rattle.rules.specs.Plan.{Refusal, №, file_r, file_s, file_x}
use Rattle.rules.specs.Layout.{letter_column}
use Rattle.rules.specs.Sheet.{Sheet, most_lines, all_lines}
use Rattle.rules.specs.MeetsForm.{Rule29, Breach29}
use Rattle.rules.specs.MeetsForm.{Data, Rule1, Rule2, Rule3, Rule4, Rule5, Rule6, Breach1, Breach2, Breach3, Breach4, Breach5, Breach6}
use Rattle.rules.specs.MeetsHeaders.{Heads, Rule7, Rule8, Rule9, Breach7, Breach8, Breach9}
use Rattle.rules.specs.Codes.{code_span}
use Rattle.rules.specs.MeetsCodes.{Rule24, Rule25, Breach24, Breach25}
use Rattle.rules.specs.MeetsSet.{Rule10, Rule11, Rule12, Rule13, Rule14, Rule15, Rule16, Rule17, Rule18, Rule19}
use Rattle.rules.specs.MeetsSet.{Breach10, Breach11, Breach12, Breach13, Breach14, Breach15, Breach16, Breach17, Breach18, Breach19}

infixr 40 ◌then◌
pub data Order : Type 1 where
  look : Type 0 → (Refusal → Type 0) → Order
  ◌then◌ : Order → Order → Order
  line_by_line : ℕ → (ℕ → Order) → Order

abbrev pub Kept : Order → Type 0
Kept (look R B) = R
Kept (o then p) = Kept o × Kept p
Kept (line_by_line n o) = (k : ℕ) → k < n → Kept (o k)

abbrev pub First : Order → Refusal → Type 0
First (look R B) w = B w
First (o then p) w = First o w ⊎ (Kept o × First p w)
First (line_by_line n o) w = (k : ℕ) × (k < n) × ((j : ℕ) → j < k → Kept (o j)) × First (o k) w

abbrev pub By : Type 0 → Refusal → Refusal → Type 0
By B v w = B × (v ≡ w)

abbrev pub InColumn : (ℕ → Type 0) → (ℕ → Refusal) → Refusal → Type 0
InColumn B v w = (c : ℕ) × B c × (v c ≡ w)

abbrev pub line_order : ℕ → Sheet → ℕ → Order
line_order i f k =
    look (Rule3 f k) (InColumn (Breach3 f k) (№ 3 i (k + 1)))
    then look (Rule4 i f k) (By (Breach4 i f k) (№ 4 i (k + 1) letter_column))
    then look (Rule5 i f.layout (f.row k)) (InColumn (Breach5 i f.layout (f.row k)) (№ 5 i (k + 1)))
    then look (Rule6 i f k) (InColumn (Breach6 i f k) (№ 6 file_x (k + 1)))

abbrev pub form_order : ℕ → Sheet → Order
form_order i f =
    look (Rule1 f) (By (Breach1 f) (№ 1 i (min (all_lines f + 1) (most_lines + 1)) 0))
    then look (Rule2 f) (By (Breach2 f) (№ 2 i (most_lines + 1) 0))
    then look (Rule29 f) (λ w. (l : ℕ) × By (Breach29 f l) (№ 29 i l 0) w)
    then line_by_line f.count (line_order i f)

abbrev pub header_order : ℕ → Sheet → Sheet → Order
header_order i r f = look (Rule9 r f) (λ w. (k : ℕ) × InColumn (Breach9 r f k) (№ 9 i (k + 1)) w)

-- "24 first, then 25 over R, S, X"
abbrev pub used_order : ℕ → Sheet → Sheet → Order
used_order i r f =
    line_by_line f.count (λ k. look (Rule25 i r f k) (By (Breach25 i r f k) (№ 25 i (k + 1) (code_span f.layout i).first)))

abbrev pub codes_order : Sheet → Sheet → Sheet → Order
codes_order r s x =
    line_by_line r.count (λ k. look (Rule24 r k) (By (Breach24 r k) (№ 24 file_r (k + 1) r.layout.header_code.first)))
    then used_order file_r r r then used_order file_s r s then used_order file_x r x

abbrev pub shot_order : Sheet → ℕ → Order
shot_order s k =
    look (Rule11 s k) (By (Breach11 s k) (№ 11 file_s (k + 1) s.layout.day.first))
    then look (Rule12 s k) (By (Breach12 s k) (№ 12 file_s (k + 1) s.layout.name.first))

abbrev pub related : Sheet → ℕ → Type 0 → Type 0 → Refusal → Order
related x k R B v = look (Data x k → R) (By (Data x k × B) v)

abbrev pub relation_order : Sheet → Sheet → Sheet → ℕ → Order
relation_order r s x k =
    related x k (Rule13 s x k) (Breach13 s x k) (№ 13 file_x (k + 1) x.layout.source.first)
    then related x k (Rule14 s x k) (Breach14 s x k) (№ 14 file_x (k + 1) x.layout.source.first)
    then related x k (Rule16 x k) (Breach16 x k) (№ 16 file_x (k + 1) x.layout.tape.first)
    then related x k (Rule17 x k) (Breach17 x k) (№ 17 file_x (k + 1) x.layout.from.first)
    then related x k (Rule18 r x k) (Breach18 r x k) (№ 18 file_x (k + 1) x.layout.from_receiver.first)
    then related x k (Rule19 x k) (Breach19 x k) (№ 19 file_x (k + 1) x.layout.from_receiver.first)

abbrev pub order : Sheet → Sheet → Sheet → Order
order r s x =
    form_order file_r r then form_order file_s s then form_order file_x x
    then look (Rule7 r) (λ w. (h : ℕ) × Heads r h × By (Breach7 r) (№ 7 file_r (h + 1) 0) w)
    then line_by_line r.count (λ k. look (Rule8 r k) (By (Breach8 r k) (№ 8 file_r (k + 1) r.layout.header_text.first)))
    then header_order file_s r s then header_order file_x r x
    then codes_order r s x
    then line_by_line r.count (λ k. look (Rule10 r k) (By (Breach10 r k) (№ 10 file_r (k + 1) r.layout.name.first)))
    then line_by_line s.count (shot_order s)
    then line_by_line x.count (relation_order r s x)
    then line_by_line s.count (λ k. look (Rule15 s x k) (By (Breach15 s x k) (№ 15 file_s (k + 1) letter_column)))

abbrev pub Refuses : Sheet → Sheet → Sheet → Refusal → Type 0
Refuses r s x w = First (order r s x) w
