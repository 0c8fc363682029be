use Rattle.std.proofs.Common.{[], refl, ap, ◌∙◌}
use Rattle.checks.proofs.Joins.{refused_answer, passed_answer, value_answer}
use Rattle.types.specs.Formats.{guaranteed_features}
use Rattle.types.specs.declared.format_features.TextureFormatFeatures.{TextureFormatFeatures}
use Rattle.view_checks.proofs.Answer.{refused, accepted}
use Rattle.view_checks.proofs.Groups.{after_ability, after_aspect, after_dimension, after_levels, past_usage, past_ability, past_aspect, past_dimension, past_levels}
use Rattle.view_checks.proofs.view.check_view_descriptor.Goals as goal
use Rattle.view_checks.specs.Checks.{ability_checks, aspect_checks, dimension_checks, layer_checks, level_checks}
use Rattle.view_checks.specs.Views.{view_uses}

pub returns-in_err-format_features : goal.returns-in_err-format_features
returns-in_err-format_features c =
    let v = c.resolve_view_descriptor-view.result in
    let t = c.args.texture.now in
    let n = c.args.device.now.features.0 in
    refused c.args.device.now t c.args.desc.now v c.resolve_view_descriptor-view.ensures _ (ability_checks n v) (after_ability n t v) _
    c.from_residual-in_err-format_features.ensures.1
    (refused_answer (ability_checks n v) (guaranteed_features v.format n) _ c.in_err-format_features.ensures)
    (past_usage n t v c.in_ok-check_usage.ensures)

pub returns-in_err-check_aspect : goal.returns-in_err-check_aspect
returns-in_err-check_aspect c =
    let v = c.resolve_view_descriptor-view.result in
    let t = c.args.texture.now in
    let n = c.args.device.now.features.0 in
    let able = passed_answer (ability_checks n v) (guaranteed_features v.format n) _ c.in_ok-format_features.ensures in
    refused c.args.device.now t c.args.desc.now v c.resolve_view_descriptor-view.ensures _ (aspect_checks t v) (after_aspect n t v) _
    c.from_residual-in_err-check_aspect.ensures.1 c.in_err-check_aspect.ensures
    (past_ability n t v c.in_ok-check_usage.ensures able)

pub returns-in_err-check_dimension : goal.returns-in_err-check_dimension
returns-in_err-check_dimension c =
    let v = c.resolve_view_descriptor-view.result in
    let t = c.args.texture.now in
    let n = c.args.device.now.features.0 in
    let able = passed_answer (ability_checks n v) (guaranteed_features v.format n) _ c.in_ok-format_features.ensures in
    refused c.args.device.now t c.args.desc.now v c.resolve_view_descriptor-view.ensures _ (dimension_checks n t v) (after_dimension n t v) _
    c.from_residual-in_err-check_dimension.ensures.1 c.in_err-check_dimension.ensures
    (past_aspect n t v c.in_ok-check_usage.ensures able c.in_ok-check_aspect.ensures)

pub returns-in_err-mips : goal.returns-in_err-mips
returns-in_err-mips c =
    let v = c.resolve_view_descriptor-view.result in
    let t = c.args.texture.now in
    let n = c.args.device.now.features.0 in
    let able = passed_answer (ability_checks n v) (guaranteed_features v.format n) _ c.in_ok-format_features.ensures in
    refused c.args.device.now t c.args.desc.now v c.resolve_view_descriptor-view.ensures _ (level_checks t v) (after_levels n t v) _
    c.from_residual-in_err-mips.ensures.1 c.in_err-mips.ensures.value
    (past_dimension n t v c.in_ok-check_usage.ensures able c.in_ok-check_aspect.ensures c.in_ok-check_dimension.ensures)

pub returns-in_err-layers : goal.returns-in_err-layers
returns-in_err-layers c =
    let v = c.resolve_view_descriptor-view.result in
    let t = c.args.texture.now in
    let n = c.args.device.now.features.0 in
    let able = passed_answer (ability_checks n v) (guaranteed_features v.format n) _ c.in_ok-format_features.ensures in
    let past =
    past_levels n t v c.in_ok-check_usage.ensures able c.in_ok-check_aspect.ensures c.in_ok-check_dimension.ensures
    c.in_ok-mips.ensures.value
    in
    refused c.args.device.now t c.args.desc.now v c.resolve_view_descriptor-view.ensures _ (layer_checks t v) [] _
    c.from_residual-in_err-layers.ensures.1 c.in_err-layers.ensures.value past

pub returns : goal.returns
returns c =
    let v = c.resolve_view_descriptor-view.result in
    let t = c.args.texture.now in
    let n = c.args.device.now.features.0 in
    let answer = c.in_ok-format_features.ensures in
    let able = passed_answer (ability_checks n v) (guaranteed_features v.format n) _ answer in
    let past =
    past_levels n t v c.in_ok-check_usage.ensures able c.in_ok-check_aspect.ensures c.in_ok-check_dimension.ensures
    c.in_ok-mips.ensures.value
    in
    accepted c.args.device.now t c.args.desc.now v c.resolve_view_descriptor-view.ensures _ (c.in_ok-layers.ensures.value ∙ past)
    (record {
      format = refl;
      dimension = refl;
      usage = refl;
      mips = c.in_ok-mips.ensures.range;
      layers = c.in_ok-layers.ensures.range;
      aspect = refl;
      aspects = c.selected_aspects.ensures;
      samples = refl;
      hal_format = c.hal_format.ensures;
      hal_usage =
          c.hal_usage.ensures
          ∙ ap (λ (row : TextureFormatFeatures). view_uses v row.flags.0) (value_answer (ability_checks n v) (guaranteed_features v.format n) _ answer);
      render_extent = c.render_extent.ensures;
    })
