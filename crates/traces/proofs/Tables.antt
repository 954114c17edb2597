-- The spread table: what is answered after 20, the set's own refusals and 21, and what an answer tells of the slices.
use Prim.Native.Nat.{ℕ, ◌+◌, ◌≤◌, ◌<◌, min}
use native.Mathlib.Omega.{arith}
use mathlib.Core.Path.{◌≡◌, sym, ap, ◌∙◌}
use mathlib.Core.Bool.{true, false, ◌&&◌}
use mathlib.Core.List.{List}
use lib.Dec.{leb}
use lib.ListN.{set}
use borrow.Author.Tests.{le-leb, leb-true}
use Rattle.rules.specs.Plan.{Refusal, Verdict, fine, refused, №, run}
use Rattle.rules.specs.Layout.{sps93}
use Rattle.rules.specs.Check.{Answer as PaperAnswer, refusal, highest, verdict, answer}
use Rattle.rules.specs.Questions.{record_asked, rule20}
use Rattle.rules.specs.Lookup.{found}
use Rattle.rules.specs.Spread.{component_of, highest_of, turns, place, rule21, spread_verdict, spread, Put, slice}
use Rattle.rules.proofs.Tests.{and_is}
use Rattle.lines.proofs.Tests.{untrue}
use Rattle.rules.proofs.Steps.{need_met, need_broken, before_met, before_broken}
use Rattle.rules.proofs.Meets.{verdict_meets}
use Rattle.rules.proofs.Demand3.{asked_is, answered}
use Rattle.rules.proofs.Turns.{turns_as}
use Rattle.rules.proofs.Spreads.{spread_fine, refused_stays, filled}
use Rattle.lines.specs.Reading.{sheet_of}
use Rattle.lines.specs.declared.Reading.{Reading}
use Rattle.lines.proofs.Sheets.{layout_is}
use Rattle.spread.specs.Asked.{Asked, Accepted}
use Rattle.spread.specs.Taken.{filled_components, component_at}
use Rattle.spread.proofs.Whole.{component_at_lem}
use Rattle.traces.proofs.Sets.{in_set}

-- a highest channel is no refusal
no_refusal : {A : Type 0} {w : Refusal} {h : ℕ} → refusal w ≡ highest h → A
no_refusal e = absurd (let z : ◌≡◌ {A = ℕ} 0 1 = cc in omega arith)

refusal_told : (v : Verdict) (h : ℕ) (w : Refusal) → refusal w ≡ answer v (highest h) → v ≡ refused w
unfolding answer
refusal_told fine h w e = no_refusal e
refusal_told (refused u) h w e = cc

-- a slice that is too short
pub short : (h a b : ℕ) → min a b < h → (leb h a && leb h b) ≡ false
short h a b l =
    untrue _
    (λ t.
    let w = (and_is (leb h a) (leb h b)).0 t in
    let y = leb-true h a w.0 in
    let z = leb-true h b w.1 in
    omega arith)

module _ (how : Reading) (r s x t : List ℕ) (n a b : ℕ) where
  abbrev Says : PaperAnswer → Type 0
  Says p = p ≡ spread (sheet_of how r) (sheet_of how s) (sheet_of how x) t n a b

  refuses : (w : Refusal) → spread_verdict (sheet_of how r) (sheet_of how s) (sheet_of how x) t n a b ≡ refused w → Says (refusal w)
  unfolding spread answer
  refuses w z = rw z

  pub not_asked : record_asked sps93 t n ≡ false → Says (refusal (№ 20 0 0 0))
  unfolding spread_verdict rule20
  not_asked z =
      refuses (№ 20 0 0 0) (sym (before_broken _ _ (№ 20 0 0 0) (need_broken _ _ (rw (layout_is how x) z))))

  module _ (y : record_asked sps93 t n ≡ true) where
    asked_fine : fine ≡ run (rule20 (record_asked (sheet_of how x).layout t n))
    unfolding rule20
    asked_fine = need_met _ _ (rw (layout_is how x) y)

    pub set_refuses : (w : Refusal) → verdict (sheet_of how r) (sheet_of how s) (sheet_of how x) ≡ refused w → Says (refusal w)
    unfolding spread_verdict verdict
    set_refuses w z = refuses w (sym (before_broken _ _ w (sym z) ∙ before_met _ _ asked_fine))

    module _ (ok : verdict (sheet_of how r) (sheet_of how s) (sheet_of how x) ≡ fine) (h : ℕ) (q : h ≡ highest_of (sheet_of how x) t n) where
      last_rule : run (rule21 (highest_of (sheet_of how x) t n) a b) ≡ spread_verdict (sheet_of how r) (sheet_of how s) (sheet_of how x) t n a b
      unfolding spread_verdict verdict
      last_rule = before_met _ _ (sym ok) ∙ before_met _ _ asked_fine

      pub too_short : (leb h a && leb h b) ≡ false → Says (refusal (№ 21 0 0 0))
      unfolding rule21
      too_short z = refuses (№ 21 0 0 0) (sym (need_broken _ _ (rw (← q) z) ∙ last_rule))

      pub says_highest : h ≤ a → h ≤ b → Says (highest h)
      unfolding spread answer rule21
      says_highest l m =
          let z : spread_verdict (sheet_of how r) (sheet_of how s) (sheet_of how x) t n a b ≡ fine =
          sym (need_met _ _ (rw (← q, le-leb h a l, le-leb h b m)) ∙ last_rule) in
          rw (z, q)

  -- a refusal leaves a slice
  pub leaves : (w : Refusal) → Says (refusal w) → (put : Put) (part : PaperAnswer → ℕ) (d : List ℕ)
      → d ≡ slice put part (sheet_of how r) (sheet_of how s) (sheet_of how x) t n a b d
  unfolding spread
  leaves w e put part d = sym (refused_stays (sheet_of how r) (sheet_of how s) (sheet_of how x) t n a b put part d w (refusal_told _ _ _ e))

  -- the highest channel stands for a table that is filled
  module _ (h : ℕ) (e : Says (highest h)) where
    judged_fine : spread_verdict (sheet_of how r) (sheet_of how s) (sheet_of how x) t n a b ≡ fine
    unfolding spread
    judged_fine = ((answered _ _ (highest h) (λ w y. no_refusal (sym y))).0 (sym e)).0

    pub may_fill : (Accepted (sheet_of how r) (sheet_of how x) × Asked t n)
        × ((highest_of (sheet_of how x) t n ≤ a) × (highest_of (sheet_of how x) t n ≤ b))
    may_fill =
        let w = (spread_fine (sheet_of how r) (sheet_of how s) (sheet_of how x) t n a b).0 judged_fine in (
          (
            in_set how r s x ((verdict_meets (sheet_of how r) (sheet_of how s) (sheet_of how x)).1 w.1.0),
            rw (layout_is how x) at ((asked_is (sheet_of how x).layout t n).1 w.0),
          ),
          w.1.1,
        )

    pub lines_filled : (put : Put) (part : PaperAnswer → ℕ) (d l : List ℕ)
        → l ≡ turns (put (λ c. part (found (sheet_of how r) (sheet_of how x) t n c))) (highest_of (sheet_of how x) t n) d
        → l ≡ slice put part (sheet_of how r) (sheet_of how s) (sheet_of how x) t n a b d
    lines_filled put part d l y = y ∙ sym (filled (sheet_of how r) (sheet_of how s) (sheet_of how x) t n a b put part d judged_fine)

    pub components_filled : (d l : List ℕ) → l ≡ filled_components (sheet_of how x) t n d
        → l ≡ slice place component_of (sheet_of how r) (sheet_of how s) (sheet_of how x) t n a b d
    components_filled d l y =
        lines_filled place component_of d l
        (y
        ∙ turns_as (place (component_at (sheet_of how x) t n)) (place (λ c. component_of (found (sheet_of how r) (sheet_of how x) t n c)))
        (highest_of (sheet_of how x) t n) d
        (λ i _ m. ap (set m i) (sym (component_at_lem (sheet_of how r) (sheet_of how x) t n (i + 1)))))
