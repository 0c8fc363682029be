use Rattle.std.proofs.Common.{◌≡◌, arith, rules}
use Rattle.types.proofs.Digits.{level_digits}
use Rattle.types.proofs.extent.Extent3d.max_mips.Goals as goal
use Rattle.types.specs.Extent.{max_mips}

pub returns-in-D2-clause-digits : goal.returns-in-D2-clause-digits
returns-in-D2-clause-digits c =
    let size = c.args.self in
    let e : c.min.result ≡ max_mips size c.args.dimension = search rules in
    level_digits size _ (omega arith) (omega arith) (omega arith) c.args.dimension e

pub returns-in-D3-clause-digits : goal.returns-in-D3-clause-digits
returns-in-D3-clause-digits c =
    let size = c.args.self in
    let e : c.min-in-D3.result ≡ max_mips size c.args.dimension = search rules in
    level_digits size _ (omega arith) (omega arith) (omega arith) c.args.dimension e
