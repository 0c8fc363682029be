use Rattle.types.proofs.Clearing.{clearable}
use Rattle.types.proofs.conv.textures_can_be_cleared.Goals as goal

pub returns : goal.returns
returns c = clearable
