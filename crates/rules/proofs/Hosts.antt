-- "A C host gets one 64-bit number": a refusal is never below 2^40, any other answer always is, and the parts come back.
--   Sized a        = the parts of an answer are within what the paper names
--   tells          = the number is from 2^40 on exactly where the answer is a refusal
--   refusal_parts, trace_parts = the parts of a refusal and of a trace, from the number
--   file_sized, cross_sized, lookup_sized, back_sized, spread_sized, table_sized = what the calls answer is so, on every medium
use Prim.Native.Nat.{ℕ, zero, suc, ◌*◌, ◌/◌, ◌%◌, ◌^◌, ◌≤◌, ◌<◌}
use native.Mathlib.Nat.{lt-suc_self}
use native.Mathlib.Omega.{arith}
use mathlib.Core.Path.{◌≡◌, refl, sym, subst}
use mathlib.Core.Logic.{◌↔◌, inl, inr, ⊎_elim}
use mathlib.Core.Bool.{Bool, true, false}
use mathlib.Core.List.{List}
use Rattle.rules.specs.Places.{pick, sum}
use Rattle.rules.specs.Plan.{Refusal, №, Verdict, fine, refused, Plan, ◌before◌, run}
use Rattle.rules.specs.Layout.{sps93}
use Rattle.rules.specs.Sheet.{Sheet, most_lines}
use Rattle.rules.specs.Medium.{Medium, sheet}
use Rattle.rules.specs.Lines.{is_data}
use Rattle.rules.specs.Relations.{reach_at}
use Rattle.rules.specs.Cover.{traces}
use Rattle.rules.specs.Check.{Answer, accepted, refusal, trace, channel, highest, header_line, no_trace, formed, all_traces, rules, verdict, answer, cross}
use Rattle.rules.specs.Questions.{rule20}
use Rattle.rules.specs.OneFile.{one_file, kind_asked, file_form}
use Rattle.rules.specs.Lookup.{lookup, way_back}
use Rattle.rules.specs.Tables.{table_line}
use Rattle.rules.specs.Spread.{rule21, spread_verdict, spread}
use Rattle.rules.specs.Hosts.{packed, host_number}
use Rattle.rules.specs.Meets.{Meets}
use Rattle.rules.specs.Listed.{Listed}
use Rattle.rules.proofs.Form.{data_is}
use Rattle.rules.proofs.Meets.{verdict_meets}
use Rattle.rules.proofs.Accepted.{sound}
use Rattle.rules.proofs.Traces.{found_view, back_view, traced_range, back_range}
use Rattle.rules.proofs.Demand3.{asked_then}
use Rattle.rules.proofs.Spreads.{few}
use Rattle.rules.proofs.OneFile.{letter_kind}
use Rattle.rules.proofs.Tables.{naming_few}
use Rattle.rules.proofs.Medium.{Lawful}
use Rattle.rules.proofs.Listed.{Only, run_only, kind_listed, rules_listed, asked_listed, room_listed}
use Rattle.rules.proofs.ListedSizes.{listed_within}

abbrev pub Sized : Answer → Type 0
Sized (accepted a b c t d) = t < 2 ^ 40
Sized (refusal w) = Listed w
Sized (trace l m d) = (l ≤ 9999) × ((1 ≤ m) × (m ≤ 9))
Sized (channel c) = (1 ≤ c) × (c ≤ 9999)
Sized (highest c) = c ≤ 9999
Sized (header_line l) = l ≤ 9999
Sized no_trace = Unit {0}
Sized formed = Unit {0}

pub refusal_parts : (n f l c : ℕ) → Listed (№ n f l c)
    → (packed (№ n f l c) / 2 ^ 40 ≡ n)
    × ((packed (№ n f l c) / 2 ^ 32 % 256 ≡ f) × ((packed (№ n f l c) / 256 % 2 ^ 24 ≡ l) × (packed (№ n f l c) % 256 ≡ c)))
unfolding packed
refusal_parts n f l c w =
    let v = listed_within n f l c w in
    let a = v.1.0 in
    let b = v.1.1.0 in
    let d = v.1.1.1 in
    (omega arith, (omega arith, (omega arith, omega arith)))

pub trace_parts : (l m : ℕ) (d : Bool) → l ≤ 9999 → m ≤ 9
    → (host_number (trace l m d) / 2 ^ 32 ≡ pick d 1 0)
    × ((host_number (trace l m d) % 2 ^ 32 / 16 ≡ l) × (host_number (trace l m d) % 16 ≡ m))
unfolding host_number pick
trace_parts l m true g h = (omega arith, (omega arith, omega arith))
trace_parts l m false g h = (omega arith, (omega arith, omega arith))

refusal_above : (w : Refusal) → Listed w → 2 ^ 40 ≤ packed w
unfolding packed
refusal_above (№ n f l c) h = let a = (listed_within n f l c h).0.0 in omega arith

-- an answer that is no refusal
below : (a : Answer) → host_number a < 2 ^ 40 → ((w : Refusal) → a ≡ refusal w → ⊥)
    → (2 ^ 40 ≤ host_number a) ↔ ((w : Refusal) × (a ≡ refusal w))
below a l n = (λ h. absurd (omega arith), λ w. absurd (n w.0 w.1))

pub tells : (a : Answer) → Sized a → (2 ^ 40 ≤ host_number a) ↔ ((w : Refusal) × (a ≡ refusal w))
unfolding host_number pick
tells (accepted a b c t d) z = below (accepted a b c t d) z (λ w e. let y : ◌≡◌ {A = ℕ} 0 1 = cc in omega arith)
tells (refusal w) z = (λ _. (w, refl), λ _. refusal_above w z)
tells (trace l m true) z =
    let p = z.0 in
    let q = z.1.1 in
    below (trace l m true) (omega arith) (λ w e. let y : ◌≡◌ {A = ℕ} 0 1 = cc in omega arith)
tells (trace l m false) z =
    let p = z.0 in
    let q = z.1.1 in
    below (trace l m false) (omega arith) (λ w e. let y : ◌≡◌ {A = ℕ} 0 1 = cc in omega arith)
tells (channel c) z = let p = z.1 in below (channel c) (omega arith) (λ w e. let y : ◌≡◌ {A = ℕ} 0 1 = cc in omega arith)
tells (highest c) z = below (highest c) (omega arith) (λ w e. let y : ◌≡◌ {A = ℕ} 0 1 = cc in omega arith)
tells (header_line l) z = below (header_line l) (omega arith) (λ w e. let y : ◌≡◌ {A = ℕ} 0 1 = cc in omega arith)
tells no_trace z = below no_trace (omega arith) (λ w e. let y : ◌≡◌ {A = ℕ} 0 1 = cc in omega arith)
tells formed z = below formed (omega arith) (λ w e. let y : ◌≡◌ {A = ℕ} 0 1 = cc in omega arith)

-- a plan, and what is answered where it refuses nothing
answer_sized : (p : Plan) (a : Answer) → Only Listed p → (run p ≡ fine → Sized a) → Sized (answer (run p) a)
unfolding answer
answer_sized p a o f = go (run p) refl
  where
    go : (v : Verdict) → run p ≡ v → Sized (answer v a)
    go fine e = f e
    go (refused w) e = run_only Listed p w o e

-- the traces of a set
sum_few : (n : ℕ) (g : ℕ → ℕ) → ((k : ℕ) → k < n → g k ≤ 9999) → sum n g ≤ 9999 * n
unfolding sum
sum_few zero g f = omega arith
sum_few (suc n) g f =
    let i = sum_few n g (λ k h. f k (omega arith)) in
    let l = f n (lt-suc_self n) in
    omega arith

pick_few : (t : Bool) (m : ℕ) → (t ≡ true → m ≤ 9999) → pick t m 0 ≤ 9999
unfolding pick
pick_few true m f = f refl
pick_few false m f = omega arith

module _ (M : Medium) (g : Lawful M) where
  abbrev file : List ℕ → Sheet
  file = sheet M sps93

  pub file_sized : (b : ℕ) (f : List ℕ) → Sized (file_form b (file f))
  unfolding file_form one_file kind_asked rule20
  file_sized b f =
      answer_sized (one_file b (file f)) formed (
        (λ _. asked_listed),
        λ m. ⊎_elim (λ v. kind_listed M g f _ (inl v.1))
            (λ u. ⊎_elim (λ v. kind_listed M g f _ (inr (inl v.1))) (λ v. kind_listed M g f _ (inr (inr v.1))) u) ((letter_kind b).0 m),
      )
      (λ _. tt)

  module _ (r s x : List ℕ) where
    traces_few : Meets (file r) (file s) (file x) → all_traces (file x) < 2 ^ 40
    unfolding all_traces traces most_lines sheet sps93
    traces_few ok =
        let n = ok.form_x.rule2 in
        let l =
        sum_few (file x).count (λ k. pick (is_data (file x) k) (traces (reach_at (file x) k)) 0)
        (λ k h.
        pick_few (is_data (file x) k) (traces (reach_at (file x) k))
        (λ e.
        let w = sound (file r) (file s) (file x) ok k h ((data_is (file x) k).0 e) in
        let a = w.first in
        let b = w.most in
        omega arith)) in
        omega arith

    met : run (rules (file r) (file s) (file x)) ≡ fine → Meets (file r) (file s) (file x)
    unfolding verdict
    met e = (verdict_meets (file r) (file s) (file x)).0 e

    pub cross_sized : Sized (cross (file r) (file s) (file x))
    unfolding cross verdict
    cross_sized = answer_sized (rules (file r) (file s) (file x)) _ (rules_listed M g r s x) (λ e. traces_few (met e))

    -- a question: 20, then the set's own
    question_sized : (b : Bool) (a : Answer) → (Meets (file r) (file s) (file x) → Sized a)
        → Sized (answer (run (rule20 b before rules (file r) (file s) (file x))) a)
    unfolding rule20
    question_sized b a f =
        answer_sized (rule20 b before rules (file r) (file s) (file x)) a ((λ _. asked_listed), λ _. rules_listed M g r s x)
        (λ e. f (met ((asked_then b (rules (file r) (file s) (file x)) (run (rules (file r) (file s) (file x))) refl).0 e).1))

    module _ (t : List ℕ) (n : ℕ) where
      pub lookup_sized : (c : ℕ) → Sized (lookup (file r) (file s) (file x) t n c)
      unfolding lookup most_lines
      lookup_sized c =
          question_sized _ _
          (λ ok.
          ⊎_elim
          (λ w. let v = traced_range (file r) (file s) (file x) ok t n c _ _ _ w.2 in subst Sized (sym w.2) v.1)
          (λ w. subst Sized (sym w.1) tt) (found_view (file r) (file x) t n c))

      pub back_sized : (j m : ℕ) → Sized (way_back (file r) (file s) (file x) t n j m)
      unfolding way_back sheet sps93
      back_sized j m =
          question_sized _ _
          (λ ok.
          ⊎_elim
          (λ w. let v = back_range (file r) (file s) (file x) ok t n _ j m w.1.2 in subst Sized (sym w.1.2) v)
          (λ w. subst Sized (sym w.1) tt) (back_view (file r) (file x) t n j m))

      pub spread_sized : (a b : ℕ) → Sized (spread (file r) (file s) (file x) t n a b)
      unfolding spread spread_verdict rule20 rule21 sheet sps93
      spread_sized a b =
          answer_sized _ _
          ((λ _. asked_listed), λ _. (rules_listed M g r s x, λ _ _. room_listed))
          (λ e. few (file r) (file s) (file x) t n a b e)

    pub table_sized : (b : ℕ) (c : List ℕ) → Sized (table_line (file r) (file s) (file x) b c)
    unfolding table_line most_lines
    table_sized b c = question_sized _ _ (λ ok. naming_few (file r) _ _ ok.form_r.rule2)
