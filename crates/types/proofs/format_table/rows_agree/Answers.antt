use Rattle.types.proofs.Rows.{row_law}
use Rattle.types.proofs.format_table.rows_agree.Goals as goal

pub returns : goal.returns
returns c = row_law
