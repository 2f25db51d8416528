use Rattle.dvi_out.proofs.WorkedFiles as laws
use Rattle.dvi_out.proofs.laws.worked_files.Goals as goal

pub returns : goal.returns
returns c = laws.worked_files
