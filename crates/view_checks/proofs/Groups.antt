-- The checks of a view by groups: what comes after each group, and what passes where all of them pass.
use Rattle.std.proofs.Common.{◌≡◌, ℕ, List, ◌++◌, Ok, ◌∙◌}
use Rattle.std.specs.List.{AllByRecursion}
use Rattle.checks.proofs.Joins.{passes}
use Rattle.checks.proofs.Passed.{Passes, front, back}
use Rattle.checks.specs.Check.{Check, outcome}
use Rattle.types.specs.declared.texture.Texture.{Texture}
use Rattle.view_checks.specs.Checks.{ability_checks, aspect_checks, dimension_checks, layer_checks, level_checks, usage_checks, view_checks}
use Rattle.view_checks.specs.declared.error.CreateTextureViewError.{CreateTextureViewError}
use Rattle.view_checks.specs.declared.resolve.ResolvedView.{ResolvedView}

module _ (features : ℕ) (t : Texture) (v : ResolvedView) where
  abbrev pub after_levels : List (Check CreateTextureViewError)
  after_levels = layer_checks t v

  abbrev pub after_dimension : List (Check CreateTextureViewError)
  after_dimension = level_checks t v ++ after_levels

  abbrev pub after_aspect : List (Check CreateTextureViewError)
  after_aspect = dimension_checks features t v ++ after_dimension

  abbrev pub after_ability : List (Check CreateTextureViewError)
  after_ability = aspect_checks t v ++ after_aspect

  abbrev pub after_usage : List (Check CreateTextureViewError)
  after_usage = ability_checks features v ++ after_ability

  -- past groups that passed, the rest decides
  module _ (usage : Ok tt ≡ outcome (usage_checks t.usage v.usage)) where
    pub past_usage : outcome after_usage ≡ outcome (view_checks features t v)
    past_usage = passes (usage_checks t.usage v.usage) after_usage tt usage

    module _ (ability : Ok tt ≡ outcome (ability_checks features v)) where
      pub past_ability : outcome after_ability ≡ outcome (view_checks features t v)
      past_ability = passes (ability_checks features v) after_ability tt ability ∙ past_usage

      module _ (aspect : Ok tt ≡ outcome (aspect_checks t v)) where
        pub past_aspect : outcome after_aspect ≡ outcome (view_checks features t v)
        past_aspect = passes (aspect_checks t v) after_aspect tt aspect ∙ past_ability

        module _ (dimension : Ok tt ≡ outcome (dimension_checks features t v)) where
          pub past_dimension : outcome after_dimension ≡ outcome (view_checks features t v)
          past_dimension = passes (dimension_checks features t v) after_dimension tt dimension ∙ past_aspect

          module _ (levels : Ok tt ≡ outcome (level_checks t v)) where
            pub past_levels : outcome after_levels ≡ outcome (view_checks features t v)
            past_levels = passes (level_checks t v) after_levels tt levels ∙ past_dimension

  -- where all checks pass, those of each group do
  module _ (h : AllByRecursion Passes (view_checks features t v)) where
    rest_usage : AllByRecursion Passes after_usage
    rest_usage = back (usage_checks t.usage v.usage) after_usage h

    rest_ability : AllByRecursion Passes after_ability
    rest_ability = back (ability_checks features v) after_ability rest_usage

    rest_aspect : AllByRecursion Passes after_aspect
    rest_aspect = back (aspect_checks t v) after_aspect rest_ability

    rest_dimension : AllByRecursion Passes after_dimension
    rest_dimension = back (dimension_checks features t v) after_dimension rest_aspect

    pub usage_passes : AllByRecursion Passes (usage_checks t.usage v.usage)
    usage_passes = front (usage_checks t.usage v.usage) after_usage h

    pub ability_passes : AllByRecursion Passes (ability_checks features v)
    ability_passes = front (ability_checks features v) after_ability rest_usage

    pub aspect_passes : AllByRecursion Passes (aspect_checks t v)
    aspect_passes = front (aspect_checks t v) after_aspect rest_ability

    pub dimension_passes : AllByRecursion Passes (dimension_checks features t v)
    dimension_passes = front (dimension_checks features t v) after_dimension rest_aspect

    pub levels_pass : AllByRecursion Passes (level_checks t v)
    levels_pass = front (level_checks t v) after_levels rest_dimension

    pub layers_pass : AllByRecursion Passes (layer_checks t v)
    layers_pass = back (level_checks t v) after_levels rest_dimension
