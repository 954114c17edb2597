-- What `lines::page::translated` leaves to show.
use Rattle.std.proofs.Common.{◌≡◌, refl, ◌∙◌, arith, length-set, rules}
use Rattle.lines.proofs.CodePage.{chars_at, translated_more, translated_all}
use Rattle.lines.proofs.page.translated.Goals as goal

pub loop-c-init : goal.loop-c-init
loop-c-init c = (chars_at, (refl, λ i h. absurd (omega arith)))

pub look-requires : goal.look-requires
look-requires c = c.loop-c.invariant.0

pub loop-c-preserved : goal.loop-c-preserved
loop-c-preserved c = let at = c.loop-c in
    let w = at.invariant.1 in (
      at.invariant.0,
      (
        length-set at.t at.c _ ∙ w.0,
        translated_more c.args.l at.t at.c _ (omega arith) c.look.ensures.value w,
      ),
    )

pub returns : goal.returns
returns c = record {
  value = let at = c.loop-c in
      let e : at.c ≡ 80 = omega arith in
      translated_all _ at.t (search rules) (rw e at at.invariant.1);
}
