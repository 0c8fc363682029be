use Rattle.std.proofs.Common.{Bool}
use Rattle.checks.proofs.Decided.{decided}
use Rattle.checks.proofs.Groups.{after_shape, after_mips, after_format}
use Rattle.checks.proofs.Joins.{broke_answer, went_on_answer}
use Rattle.checks.proofs.texture.check_texture_descriptor.Goals as goal
use Rattle.checks.specs.Checks.{shape_checks, mip_checks, format_checks, is_twin_listed}
use Rattle.types.specs.declared.descriptor.TextureDescriptor.{TextureDescriptor}

abbrev listed : TextureDescriptor → Bool
listed d = is_twin_listed d.format d.view_formats.now

pub returns-in_err-check_shape : goal.returns-in_err-check_shape
returns-in_err-check_shape c =
    let d = c.args.desc.now in
    let v = c.args.device.now in
    let e = broke_answer (shape_checks v d) (after_shape v d) (listed d) _ _ c.from_residual.ensures.1 c.in_err-check_shape.ensures in
    record { value = e; webgpu = decided v d _ e }

pub returns-in_err-check_mips : goal.returns-in_err-check_mips
returns-in_err-check_mips c =
    let d = c.args.desc.now in
    let v = c.args.device.now in
    let e =
    went_on_answer (shape_checks v d) (after_shape v d) (listed d) _ _ c.in_ok-check_shape.ensures
    (broke_answer (mip_checks d) (after_mips v d) (listed d) _ _ c.from_residual-in_err-check_mips.ensures.1 c.in_err-check_mips.ensures)
    in
    record { value = e; webgpu = decided v d _ e }

pub returns-in_err-check_format : goal.returns-in_err-check_format
returns-in_err-check_format c =
    let d = c.args.desc.now in
    let v = c.args.device.now in
    let e =
    went_on_answer (shape_checks v d) (after_shape v d) (listed d) _ _ c.in_ok-check_shape.ensures
    (went_on_answer (mip_checks d) (after_mips v d) (listed d) _ _ c.in_ok-check_mips.ensures
    (broke_answer (format_checks v.features.0 d) (after_format v d) (listed d) _ _ c.from_residual-in_err-check_format.ensures.1
    c.in_err-check_format.ensures))
    in
    record { value = e; webgpu = decided v d _ e }

pub returns : goal.returns
returns c =
    let d = c.args.desc.now in
    let v = c.args.device.now in
    let e =
    went_on_answer (shape_checks v d) (after_shape v d) (listed d) _ _ c.in_ok-check_shape.ensures
    (went_on_answer (mip_checks d) (after_mips v d) (listed d) _ _ c.in_ok-check_mips.ensures
    (went_on_answer (format_checks v.features.0 d) (after_format v d) (listed d) _ _ c.in_ok-check_format.ensures
    c.check_view_formats.ensures))
    in
    record { value = e; webgpu = decided v d _ e }
