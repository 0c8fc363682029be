use Rattle.std.proofs.Common.{not, sym, ap, ◌∙◌}
use Rattle.checks.proofs.ViewFormats.{stop_foreign, apart}
use Rattle.types.proofs.SameFormat.{same_tags}
use Rattle.checks.proofs.view_formats.look_for_twin.Goals as goal

pub returns-then-ne : goal.returns-then-ne
returns-then-ne c =
    stop_foreign c.args.format c.args.view_formats.now c.loop-view_format.view_format-index c.loop-view_format.twin_listed
    c.loop-view_format-test.true (sym c.if-is_twin.ensures) (apart _ (c.if-ne.ensures ∙ ap not (same_tags _ _)))
    ∙ sym c.loop-view_format.invariant
