use Rattle.std.proofs.Common.{◌≡◌, ◌++◌, subst}
use Rattle.checks.proofs.Joins.{broke, went_on, passed_answer, value_answer}
use Rattle.checks.proofs.texture.check_format.Goals as goal
use Rattle.checks.specs.Check.{outcome}
use Rattle.checks.specs.Checks.{feature_checks, multisample_checks, format_usage_checks}
use Rattle.types.specs.Formats.{guaranteed_features, required_features_of}
use Rattle.types.specs.declared.format_features.TextureFormatFeatures.{TextureFormatFeatures}

pub returns-in_err-check_multisampling : goal.returns-in_err-check_multisampling
returns-in_err-check_multisampling c =
    let d = c.args.desc.now in
    let n = c.args.features.0 in
    let row = c.in_ok-format_features.format_features in
    let g = guaranteed_features d.format n in
    let needed = feature_checks n d.format (required_features_of d.format) in
    subst (λ (w : TextureFormatFeatures). c.from_residual-in_err-check_multisampling.result ≡ outcome (needed ++ (multisample_checks n w.flags.0 d ++ format_usage_checks n d)))
    (value_answer needed g row c.in_ok-format_features.ensures)
    (went_on needed (multisample_checks n row.flags.0 d ++ format_usage_checks n d) _ _ (passed_answer needed g row c.in_ok-format_features.ensures)
    (broke (multisample_checks n row.flags.0 d) (format_usage_checks n d) _ _ c.from_residual-in_err-check_multisampling.ensures.1 c.in_err-check_multisampling.ensures))
