use Rattle.answers.proofs.Codes.{decoded, no_dimension}
use Rattle.answers.proofs.coded.TextureDimensionCoded.from_code.Goals as goal
use Rattle.answers.specs.Faults.{NoDimension}
use Rattle.types.specs.Dimension.{dimension_code}

pub returns-clause-value : goal.returns-clause-value
returns-clause-value c = rw c.ok.ensures.value (decoded dimension_code NoDimension no_dimension c.args.code c.try_from.result c.try_from.ensures)
