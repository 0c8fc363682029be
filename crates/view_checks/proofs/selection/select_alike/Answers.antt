use Rattle.view_checks.proofs.Selections.{triples_decided}
use Rattle.view_checks.proofs.selection.select_alike.Goals as goal

pub returns-clause-triples : goal.returns-clause-triples
returns-clause-triples c =
    λ features others t of_a of_b. triples_decided c.args.a.now c.args.b.now features others t of_a of_b _ c.same_parts.ensures
