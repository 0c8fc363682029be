use Rattle.std.proofs.Common.{inl, inr, arith}
use Rattle.std.proofs.lemmas.Grind.{common_steps}
use Rattle.answers.proofs.Faults.{hands_on}
use Rattle.answers.proofs.parse.view_answer.Goals as goal
use Rattle.answers.specs.Faults.{ViewFault}
use Rattle.answers.specs.Lines.{texts_of}

pub returns : goal.returns
returns c =
    record {
      nine = grind (arith, common_steps);
      format = grind (arith, common_steps);
      dimension = grind (arith, common_steps);
      usage = grind (arith, common_steps);
      aspect = grind (arith, common_steps);
      first_level = grind (arith, common_steps);
      levels = grind (arith, common_steps);
      first_layer = grind (arith, common_steps);
      layers = grind (arith, common_steps);
      answer = grind (arith, common_steps);
    }

-- the fourth word and the ninth
pub returns-in_err-texture_aspect : goal.returns-in_err-texture_aspect
returns-in_err-texture_aspect c =
    hands_on _ _ (ViewFault (texts_of c.args.words.now)) _ c.from_residual-in_err-texture_aspect.ensures.1
    (inr (grind (arith, common_steps), inr (inr (inr (inl (grind (arith, common_steps)))))))

pub returns-in_err-yes_or_no : goal.returns-in_err-yes_or_no
returns-in_err-yes_or_no c =
    hands_on _ _ (ViewFault (texts_of c.args.words.now)) _ c.from_residual-in_err-yes_or_no.ensures.1
    (inr (grind (arith, common_steps), inr (inr (inr (inr (inr (inr (inr (inr (grind (arith, common_steps)))))))))))
