-- What the numbers of the forms of three files and that of their cross-check say of each other.
use Prim.Native.Nat.{ℕ, ◌^◌, ◌<◌}
use native.Mathlib.Omega.{arith}
use mathlib.Core.Path.{◌≡◌, refl, sym, ap, ◌∙◌}
use Rattle.rules.specs.Hosts.{host_number}
use Rattle.std.specs.Prelude.{Ok, Err}
use Rattle.lines.specs.Paper.{Verdict}
use Rattle.lines.specs.declared.Refusal.{Refusal}
use Rattle.form.specs.Paper.{answered}
use Rattle.sets.specs.declared.Counts.{Counts}
use Rattle.sets.specs.Paper.{Answer, paper}
use Rattle.sets.specs.Parts.{Parts}
use Rattle.sps.specs.Said.{TellsForm, TellsSet, TellsParts}

-- 0 exactly where the file is well formed
zero_fine : (v : Verdict) (n : ℕ) → TellsForm n v → n ≡ 0 → v ≡ Ok tt
zero_fine (Ok _) n z e = refl
zero_fine (Err d) n z e = absurd (let h = z.0 in omega arith)

fine_zero : (v : Verdict) (n : ℕ) → n ≡ host_number (answered v) → v ≡ Ok tt → n ≡ 0
unfolding host_number
fine_zero v n e y = e ∙ ap (λ (u : Verdict). host_number (answered u)) y

refused_some : (v : Verdict) (n : ℕ) → n ≡ host_number (answered v) → (n ≡ 0 → ⊥) → (d : Refusal) × (v ≡ Err d)
unfolding host_number
refused_some (Ok _) n e h = absurd (h e)
refused_some (Err d) n e h = (d, refl)

accepted_some : (a : Answer) (t : ℕ) → TellsSet t a → t < 2 ^ 40 → (c : Counts) × (a ≡ Ok c)
accepted_some (Ok c) t z h = (c, refl)
accepted_some (Err d) t z h = absurd (let g = z.0 in omega arith)

-- a set that is refused as a file is
same_refusal : (a : Answer) (t : ℕ) → t ≡ host_number (paper a) → (v : Verdict) (n : ℕ) → n ≡ host_number (answered v) → (d : Refusal)
    → v ≡ Err d → a ≡ Err d → t ≡ n
same_refusal a t e v n p d y z =
    e ∙ ap (λ (u : Answer). host_number (paper u)) z ∙ sym (p ∙ ap (λ (u : Verdict). host_number (answered u)) y)

module _ (u v w : Verdict) (a : Answer) (p : Parts u v w a) (n m k t : ℕ) (en : n ≡ host_number (answered u)) (em : m ≡ host_number (answered v))
    (ek : k ≡ host_number (answered w)) (et : t ≡ host_number (paper a)) where
  pub tells_parts : TellsForm n u → TellsForm m v → TellsSet t a → TellsParts n m k t
  tells_parts tn tm tt =
      record {
        accepted_only = λ h.
            let b = accepted_some a t tt h in
            let f = p.all_formed b.0 b.1 in
            (fine_zero u n en f.0, (fine_zero v m em f.1.0, fine_zero w k ek f.1.1));
        as_r = λ h.
            let b = refused_some u n en h in
            same_refusal a t et u n en b.0 b.1 (p.as_r b.0 b.1);
        as_s = λ zn h.
            let b = refused_some v m em h in
            same_refusal a t et v m em b.0 b.1 (p.as_s b.0 (zero_fine u n tn zn) b.1);
        as_x = λ zn zm h.
            let b = refused_some w k ek h in
            same_refusal a t et w k ek b.0 b.1
            (p.as_x b.0 (zero_fine u n tn zn) (zero_fine v m tm zm) b.1);
      }
