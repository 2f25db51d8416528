use Rattle.std.proofs.Common.{rules, arith}
use Rattle.dvi_out.specs.BufferOf.{buffer_of}
use Rattle.dvi_out.proofs.Drawing.{bytes_written, fresh_written}
use Rattle.dvi_out.proofs.pages.write_page.Goals as goal

pub returns-clause-bytes : goal.returns-clause-bytes
returns-clause-bytes c =
    bytes_written (buffer_of c.write_all.new.self) c.args.commands.now c.args.defined.now c.args.fonts.now
    (first_of (search rules, grind arith))

pub returns-clause-fresh : goal.returns-clause-fresh
returns-clause-fresh c =
    fresh_written (buffer_of c.write_all.new.self) c.args.commands.now c.args.defined.now c.args.fonts.now
    (first_of (search rules, grind arith))
