use Rattle.std.proofs.Common.{arith}
use Rattle.std.proofs.lemmas.Grind.{common_steps}
use Rattle.answers.proofs.parse.numbers.Goals as goal

-- the words so far are numerals, and write the numbers so far
pub loop-word-preserved : goal.loop-word-preserved
loop-word-preserved c = (grind (arith, common_steps), grind (arith, common_steps))
