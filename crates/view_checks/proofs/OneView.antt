-- What a view is worked out to is one view.
use Rattle.std.proofs.Common.{◌≡◌, ℕ, sym, ◌∙◌}
use Rattle.types.proofs.SameRange.{same_range}
use Rattle.types.specs.Ranges.{Spans}
use Rattle.types.specs.declared.range.Range.{Range}
use Rattle.types.specs.declared.texture.Texture.{Texture}
use Rattle.types.specs.declared.view.TextureView.{TextureView}
use Rattle.view_checks.specs.Views.{OnlyView, WorkedOut}
use Rattle.view_checks.specs.declared.resolve.ResolvedView.{ResolvedView}

one_range : (first count total : ℕ) (a b : Range) → Spans first count total a → Spans first count total b → a ≡ b
one_range first count total a b p q =
    same_range a b (p.starts ∙ sym q.starts) (p.ends ∙ sym q.ends) (p.of_total ∙ sym q.of_total)

module _ (features : ℕ) (t : Texture) (v : ResolvedView) (view : TextureView) (w : WorkedOut features t v view) where
  pub only : OnlyView features t v view
  only other o = λ i. record {
    format = (o.format ∙ sym w.format) i;
    dimension = (o.dimension ∙ sym w.dimension) i;
    usage = (o.usage ∙ sym w.usage) i;
    mips = one_range _ _ _ other.mips view.mips o.mips w.mips i;
    layers = one_range _ _ _ other.layers view.layers o.layers w.layers i;
    aspect = (o.aspect ∙ sym w.aspect) i;
    aspects = record { 0 = (o.aspects ∙ sym w.aspects) i };
    samples = (o.samples ∙ sym w.samples) i;
    hal_format = (o.hal_format ∙ sym w.hal_format) i;
    hal_usage = record { 0 = (o.hal_usage ∙ sym w.hal_usage) i };
    render_extent = (o.render_extent ∙ sym w.render_extent) i;
  }
