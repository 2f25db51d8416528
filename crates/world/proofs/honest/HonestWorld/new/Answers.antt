-- The empty map keeps no files.
use Rattle.std.proofs.Common.{refl}
use Rattle.world.specs.Memory.{files_of}
use Rattle.world.proofs.honest.HonestWorld.new.Goals as goal

pub returns-clause-empty : goal.returns-clause-empty
unfolding files_of
returns-clause-empty c = rw (c.new.ensures.empty, c.new-2.ensures.items) refl

pub returns-clause-told : goal.returns-clause-told
unfolding files_of
returns-clause-told c = rw (c.new.ensures.empty, c.new-2.ensures.items) refl
