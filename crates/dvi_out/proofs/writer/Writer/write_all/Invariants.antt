use Rattle.std.proofs.Common.{◌≡◌, take}
use Rattle.std.specs.List.{fold}
use Rattle.dvi_out.specs.Buffer.{written}
use Rattle.dvi_out.specs.BufferOf.{buffer_of}
use Rattle.dvi_out.proofs.writer.Writer.write_all.Given as goal

abbrev pub invariant-loop-i : goal.invariant-loop-i
invariant-loop-i l =
    buffer_of l.self
    ≡ fold (written l.sources.defined.now l.sources.fonts.now) (buffer_of l.initial.self) (take l.i l.commands)
