-- Day and time as one number, and 11 of a line by that of the last shot before it.
use Prim.Native.Nat.{ℕ, ◌+◌, ◌*◌, ◌<◌}
use native.Mathlib.Omega.{arith}
use mathlib.Core.Path.{◌≡◌, refl, sym, ap, ◌∙◌}
use mathlib.Core.Bool.{Bool, true, false, not, ◌&&◌}
use mathlib.Core.List.{List}
use Rattle.std.specs.Prelude.{Option, Some, None}
use Rattle.std.specs.Option.{option_or}
use lib.Dec.{ltb}
use Rattle.rules.specs.Places.{pick, of_last}
use Rattle.rules.specs.Plan.{fine, refused, №, run}
use Rattle.rules.specs.Text.{cols}
use Rattle.rules.specs.Numbers.{size, whole}
use Rattle.rules.specs.Layout.{Layout, sps93, at}
use Rattle.rules.specs.Sheet.{Sheet}
use Rattle.rules.specs.Lines.{is_header, is_marker, is_data, is_point}
use Rattle.rules.specs.Points.{point, point_at, number_of}
use Rattle.rules.specs.Order.{earlier, rule11}
use Rattle.rules.proofs.Tests.{clash}
use Rattle.rules.proofs.Steps.{need_met, need_broken, when_on, when_off}
use Rattle.form.specs.Known.{Known}
use Rattle.form.proofs.Known.{point_time}
use Rattle.fields.proofs.Pairs.{pair_less}
use Rattle.lines.specs.declared.Reading.{Reading}
use Rattle.lines.specs.Reading.{sheet_of}
use Rattle.lines.proofs.Sheets.{layout_is}
use Rattle.points.specs.Last.{last_of, time_of, stamp, last_stamp}
use Rattle.points.proofs.Last.{last_is, last_on, last_off}

module _ (s : Sheet) (k : ℕ) where
  pub stamp_there : is_point s k ≡ true → stamp s k ≡ Some (time_of s k)
  unfolding stamp pick
  stamp_there e = rw e

  pub stamp_none : is_point s k ≡ false → stamp s k ≡ None
  unfolding stamp pick
  stamp_none e = rw e

-- that of the last shot before the next line
pub no_stamp : (s : Sheet) → last_stamp s 0 ≡ None
unfolding last_stamp last_of
no_stamp s = refl

pub next_stamp : (s : Sheet) (k : ℕ) → last_stamp s (k + 1) ≡ option_or (stamp s k) (last_stamp s k)
unfolding last_stamp
next_stamp s k = go (is_point s k) refl
  where
    go : (b : Bool) → is_point s k ≡ b → last_of (is_point s) (time_of s) (k + 1) ≡ option_or (stamp s k) (last_of (is_point s) (time_of s) k)
    go true y = rw (stamp_there s k y) (last_on (is_point s) (time_of s) k y)
    go false y = rw (stamp_none s k y) (last_off (is_point s) (time_of s) k y)

-- as the code reads it from the line
module _ (how : Reading) (f : List ℕ) (k : ℕ) where
  abbrev l : List ℕ
  l = (sheet_of how f).row k

  pub stamp_is : stamp (sheet_of how f) k
      ≡ pick (not (is_header l) && not (is_marker sps93 l)) (Some (1000000 * size (whole (cols l 72 74)) + size (whole (cols l 75 80)))) None
  unfolding stamp is_point is_data point_at point number_of at sps93
  stamp_is = rw (layout_is how f)

-- a stamp is before the last one
abbrev pub late : Option ℕ → Option ℕ → Bool
late (Some t) (Some last) = ltb t last
late (Some t) None = false
late None last = false

-- 11
module _ (s : Sheet) (w : Known 2 s) (k : ℕ) (h : k < s.count) where
  in_time : is_point s k ≡ true → of_last (is_point s) (λ j. not (earlier (point_at s k) (point_at s j))) k ≡ not (late (stamp s k) (last_stamp s k))
  unfolding last_stamp earlier
  in_time p =
      rw (stamp_there s k p)
      (last_is (is_point s) _ (time_of s) (λ m. not (late (Some (time_of s k)) m)) refl k
      (λ j l y.
      ap not
      (pair_less 1000000 (point_at s k).day (point_at s k).time (point_at s j).day (point_at s j).time (point_time 2 s w k h)
      (point_time 2 s w j (omega arith)))))

  pub eleven_fine : late (stamp s k) (last_stamp s k) ≡ false → run (rule11 s k) ≡ fine
  unfolding rule11
  eleven_fine e = go (is_point s k) refl
    where
      go : (t : Bool) → is_point s k ≡ t → run (rule11 s k) ≡ fine
      go true p = sym (need_met _ _ (in_time p ∙ ap not e) ∙ when_on _ _ p)
      go false p = sym (when_off _ _ p)

  pub eleven_broken : late (stamp s k) (last_stamp s k) ≡ true → s.layout ≡ sps93 → run (rule11 s k) ≡ refused (№ 11 2 (k + 1) 72)
  unfolding rule11 sps93
  eleven_broken e z = go (is_point s k) refl
    where
      go : (t : Bool) → is_point s k ≡ t → run (rule11 s k) ≡ refused (№ 11 2 (k + 1) 72)
      go true p = rw (← (ap (λ (L : Layout). L.day.first) z)) (sym (need_broken _ _ (in_time p ∙ ap not e) ∙ when_on _ _ p))
      go false p = clash (rw (stamp_none s k p) at e)
