-- The law on the bytes of commands.
use Rattle.dvi_out.proofs.reading.commands_are_read_back.Goals as goal
use Rattle.dvi_out.proofs.ReadBack.{commands_read_back}

pub returns : goal.returns
returns c = commands_read_back
