use Rattle.types.proofs.SameFormat.{same_tags}
use Rattle.types.proofs.format.equal_by_code.Goals as goal

pub returns : goal.returns
returns c = same_tags
