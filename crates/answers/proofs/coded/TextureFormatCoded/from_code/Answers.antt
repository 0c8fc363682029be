use Rattle.answers.proofs.Codes.{no_format}
use Rattle.answers.proofs.coded.TextureFormatCoded.from_code.Goals as goal

pub returns-in-Err-clause-value : goal.returns-in-Err-clause-value
returns-in-Err-clause-value c = no_format c.args.code c.in-Err.ensures.1
