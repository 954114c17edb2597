-- What the code computes of a relation line, from the values that it holds.
--   paper_reach q   = a reach of the paper that q codes
use Prim.Native.Nat.{ℕ, ◌-◌, ◌*◌, ◌/◌, ◌%◌, ◌≤◌, ◌<◌}
use native.Mathlib.Nat.{div-le_self, mod-le, mul-le-mul_left}
use native.Mathlib.Omega.{arith}
use mathlib.Core.Path.{◌≡◌, sym, ap, ◌∙◌}
use mathlib.Core.Bool.{◌&&◌}
use mathlib.Core.List.{[], ◌∷◌}
use lib.Dec.{leb, eqb}
use Rattle.rules.specs.Names.{Name as PaperName, text}
use Rattle.rules.specs.Relations.{Reach as PaperReach}
use Rattle.rules.specs.Cover.{lowest, highest, receiver_on, leads, meet}
use Rattle.rules.proofs.Cover.{meet_overlap}
use Rattle.fields.specs.declared.Name.{Name}
use Rattle.fields.specs.Packed.{packed_after, packed, name_of}
use Rattle.fields.proofs.Texts.{names_equal}
use Rattle.fields.specs.Texts.{Wide}
use Rattle.records.specs.Coded.{coded_reach}
use Rattle.records.specs.declared.relation.Reach.{Reach}

alone : (n : ℕ) → n ≡ packed (n ∷ [])
unfolding packed_after
alone n = omega arith

abbrev paper_name : Name → PaperName
paper_name m = text (0 ∷ 0 ∷ 0 ∷ 0 ∷ 0 ∷ 0 ∷ 0 ∷ m.hi ∷ m.lo ∷ [])

name_coded : (m : Name) → m ≡ name_of (paper_name m)
unfolding packed_after
name_coded m = λ i. record { hi = alone m.hi i; lo = alone m.lo i }

abbrev pub paper_reach : Reach → PaperReach
paper_reach q =
    record {
      tape = q.tape ∷ [];
      number = q.number;
      from = q.from;
      upto = q.upto;
      step = q.step;
      receiver = paper_name q.receiver;
      from_receiver = q.from_receiver;
      to_receiver = q.to_receiver;
      receiver_index = q.receiver_index;
    }

pub reach_coded : (q : Reach) → q ≡ coded_reach (paper_reach q)
reach_coded q = λ i.
    record {
      tape = alone q.tape i;
      number = q.number;
      from = q.from;
      upto = q.upto;
      step = q.step;
      receiver = name_coded q.receiver i;
      from_receiver = q.from_receiver;
      to_receiver = q.to_receiver;
      receiver_index = q.receiver_index;
    }

-- so what is promised of every reach that a value codes is one
pub one_value : {A : Type 0} (q : Reach) (f : PaperReach → A) (v w : A) → ((p : PaperReach) → q ≡ coded_reach p → v ≡ f p)
    → ((p : PaperReach) → q ≡ coded_reach p → w ≡ f p) → v ≡ w
one_value q f v w h g = h (paper_reach q) (reach_coded q) ∙ sym (g (paper_reach q) (reach_coded q))

-- from a channel to its receiver
pub leads_to : (p : PaperReach) (q : Reach) → q ≡ coded_reach p → (c : ℕ) → receiver_on p ((c - q.from) / q.step) ≡ leads p c
unfolding leads
leads_to p q e c = ap (λ (q : Reach). receiver_on p ((c - q.from) / q.step)) e

-- what keeps them in range
pub quotient_small : (c f i : ℕ) → c < 4294967296 → (c - f) / i < 4294967296
quotient_small c f i h = let d = div-le_self (c - f) i in omega arith

pub remainder_small : (c f i : ℕ) → c < 4294967296 → (c - f) % i < 4294967296
remainder_small c f i h = let r = mod-le (c - f) i in omega arith

pub product_small : (d i : ℕ) → d < 4294967296 → i < 256 → d * i < 1099511627776
product_small d i h g = let l : d * i ≤ d * 256 = mul-le-mul_left d (omega arith) in omega arith

-- receivers in common
pub meet_is : (p q : PaperReach) (a b : Reach) → a ≡ coded_reach p → b ≡ coded_reach q → Wide p.receiver → Wide q.receiver
    → meet p q ≡ ((eqb a.receiver.hi b.receiver.hi && eqb a.receiver.lo b.receiver.lo)
    && (eqb a.receiver_index b.receiver_index && (leb (lowest p) (highest q) && leb (lowest q) (highest p))))
meet_is p q a b e f w v = rw (e, f, names_equal p.receiver q.receiver w v) (sym (meet_overlap p q))
