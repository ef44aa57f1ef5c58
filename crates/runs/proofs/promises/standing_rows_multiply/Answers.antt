-- The value of a product of standing rows.
use Rattle.runs.proofs.Rows.{product_value}
use Rattle.runs.proofs.promises.standing_rows_multiply.Goals as goal

pub returns : goal.returns
returns c = product_value
