use Rattle.std.proofs.Common.{map}
use Rattle.checks.proofs.Groups.{usages, sizes, after_usage, after_size, after_dimension, after_blocks}
use Rattle.checks.proofs.Joins.{broke, broke_size, went_on, lifted_ok}
use Rattle.checks.proofs.texture.check_shape.Goals as goal
use Rattle.checks.specs.Checks.{as_dimension, dimension_checks, block_checks}

pub returns-in_err-check_texture_dimension_size :
    goal.returns-in_err-check_texture_dimension_size
returns-in_err-check_texture_dimension_size c =
    let d = c.args.desc.now in
    let v = c.args.device.now in
    went_on (usages d) (after_usage v d) _ _ c.in_ok-check_usage.ensures
    (broke_size (sizes v d) (after_size v d) _ _ c.from_residual-in_err-check_texture_dimension_size.ensures.1
    c.in_err-check_texture_dimension_size.ensures)

pub returns-in_err-check_dimension : goal.returns-in_err-check_dimension
returns-in_err-check_dimension c =
    let d = c.args.desc.now in
    let v = c.args.device.now in
    went_on (usages d) (after_usage v d) _ _ c.in_ok-check_usage.ensures
    (went_on (map as_dimension (sizes v d)) (after_size v d) _ _ (lifted_ok (sizes v d) _ c.in_ok-check_texture_dimension_size.ensures)
    (broke (dimension_checks d) (after_dimension v d) _ _ c.from_residual-in_err-check_dimension.ensures.1 c.in_err-check_dimension.ensures))

pub returns-in_err-check_blocks : goal.returns-in_err-check_blocks
returns-in_err-check_blocks c =
    let d = c.args.desc.now in
    let v = c.args.device.now in
    went_on (usages d) (after_usage v d) _ _ c.in_ok-check_usage.ensures
    (went_on (map as_dimension (sizes v d)) (after_size v d) _ _ (lifted_ok (sizes v d) _ c.in_ok-check_texture_dimension_size.ensures)
    (went_on (dimension_checks d) (after_dimension v d) _ _ c.in_ok-check_dimension.ensures
    (broke (block_checks d) (after_blocks v d) _ _ c.from_residual-in_err-check_blocks.ensures.1 c.in_err-check_blocks.ensures)))

pub returns : goal.returns
returns c =
    let d = c.args.desc.now in
    let v = c.args.device.now in
    went_on (usages d) (after_usage v d) _ _ c.in_ok-check_usage.ensures
    (went_on (map as_dimension (sizes v d)) (after_size v d) _ _ (lifted_ok (sizes v d) _ c.in_ok-check_texture_dimension_size.ensures)
    (went_on (dimension_checks d) (after_dimension v d) _ _ c.in_ok-check_dimension.ensures
    (went_on (block_checks d) (after_blocks v d) _ _ c.in_ok-check_blocks.ensures
    c.check_sliced_3d.ensures)))
