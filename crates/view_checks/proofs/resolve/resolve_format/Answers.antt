use Rattle.std.proofs.Common.{◌≡◌, Some, None, Option, refl, ap, ◌∙◌}
use Rattle.std.specs.Option.{option_or, unwrap_or}
use Rattle.types.specs.Formats.{part_of}
use Rattle.types.specs.declared.aspect.TextureAspect.{TextureAspect}
use Rattle.types.specs.declared.format.TextureFormat.{TextureFormat}
use Rattle.view_checks.proofs.resolve.resolve_format.Goals as goal
use Rattle.view_checks.specs.Resolved.{filled_format}

-- by whether the format was omitted
filled : (f : TextureFormat) (aspect : TextureAspect) (asked : Option TextureFormat) → unwrap_or (option_or asked (part_of f aspect)) f ≡ filled_format f aspect asked
filled f aspect (Some x) = refl
filled f aspect None = refl

pub returns : goal.returns
returns c =
    c.unwrap_or.ensures
    ∙ ap (λ (o : Option TextureFormat). unwrap_or o c.args.texture)
    (c.or.ensures ∙ ap (λ (o : Option TextureFormat). option_or c.args.format o) c.aspect_specific_format.ensures)
    ∙ filled c.args.texture c.args.aspect c.args.format
