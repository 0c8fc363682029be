use Rattle.std.proofs.Common.{sym, ap, ◌∙◌, eq-eqb}
use Rattle.std.proofs.lemmas.Bool.{eqb-true, false≢true}
use Rattle.types.proofs.SameRange.{range_from_tests}
use Rattle.types.specs.declared.aspect.FormatAspects.{FormatAspects}
use Rattle.view_checks.proofs.Selections.{same_aspects}
use Rattle.view_checks.proofs.selection.same_parts.Goals as goal
use Rattle.view_checks.proofs.selection.same_parts.Goals.{then-eq, else-eq}

-- levels and layers were found equal, and the aspects are compared
pub returns-then-eq-2 : goal.returns-then-eq-2
returns-then-eq-2 c =
    let a = c.args.a.now in
    let b = c.args.b.now in
    elim c.if-eq.branch [
      | then-eq w ↦ (
        λ h. record {
          levels = range_from_tests a.mips b.mips (sym c.eq.ensures ∙ w.if-eq.true);
          layers = range_from_tests a.layers b.layers (sym w.eq-then-eq.ensures ∙ sym w.value-is ∙ c.if-eq-2.true);
          aspects = same_aspects a.aspects b.aspects (eqb-true _ _ (sym c.eq-then-eq-2.ensures ∙ h));
        },
        λ e. c.eq-then-eq-2.ensures ∙ eq-eqb _ _ (ap (λ (set : FormatAspects). set.0) e.aspects),
      )
      | else-eq w ↦ absurd (false≢true (sym w.if-eq.false ∙ sym w.value-is ∙ c.if-eq-2.true))
    ]
