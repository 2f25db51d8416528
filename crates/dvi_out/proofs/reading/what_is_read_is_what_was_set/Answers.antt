-- The law on files.
use Rattle.dvi_out.proofs.reading.what_is_read_is_what_was_set.Goals as goal
use Rattle.dvi_out.proofs.ReadFiles.{read_is_set}

pub returns : goal.returns
returns c = read_is_set
