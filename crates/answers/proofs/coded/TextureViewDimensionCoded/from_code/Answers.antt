use Rattle.answers.proofs.Codes.{decoded, no_view_dimension}
use Rattle.answers.proofs.coded.TextureViewDimensionCoded.from_code.Goals as goal
use Rattle.answers.specs.Faults.{NoViewDimension}
use Rattle.types.specs.Dimension.{view_dimension_code}

pub returns-clause-value : goal.returns-clause-value
returns-clause-value c = rw c.ok.ensures.value (decoded view_dimension_code NoViewDimension no_view_dimension c.args.code c.try_from.result c.try_from.ensures)
