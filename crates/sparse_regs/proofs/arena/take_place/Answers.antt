-- A new place is empty, so that all else shows what it did.
use Rattle.std.proofs.Common.{◌≡◌, length, arith, rules}
use Rattle.std.proofs.lemmas.Grind.{common_steps}
use Rattle.sparse_regs.proofs.Shaping.{spare-appended, kept-appended, count-appended}
use Rattle.sparse_regs.proofs.arena.take_place.Goals as goal

pub returns-in-None-clause-spare : goal.returns-in-None-clause-spare
returns-in-None-clause-spare g c =
    let none : length c.args.free.now.items ≡ 0 = grind (arith, common_steps) in
    let none' : length c.pop.new.self.items ≡ 0 = grind (arith, common_steps) in
    spare-appended c.args.places.now.items c.add_place.new.places.items c.args.free.now.items c.pop.new.self.items c.add_place.result c.requires.counted none none' c.add_place.ensures.items c.add_place.ensures.at

pub returns-in-None-clause-kept : goal.returns-in-None-clause-kept
returns-in-None-clause-kept g c = kept-appended c.args.places.now.items c.add_place.new.places.items c.add_place.ensures.items

pub returns-in-None-clause-count : goal.returns-in-None-clause-count
returns-in-None-clause-count g c = count-appended c.args.places.now.items c.add_place.new.places.items c.add_place.ensures.items
