use Rattle.model.proofs.ReadBack.{read_back}
use Rattle.model.proofs.columns.columns_read_back.Goals as goal

pub returns : goal.returns
returns c = read_back
