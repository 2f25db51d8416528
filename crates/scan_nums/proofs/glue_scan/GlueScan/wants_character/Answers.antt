-- The state says where a letter is taken and a name isn't.
use Rattle.std.proofs.Common.{◌∙◌}
use Rattle.scan_nums.proofs.GlueCharacter.{character_wanted}
use Rattle.scan_nums.proofs.glue_scan.GlueScan.wants_character.Goals as goal

pub returns : goal.returns
returns c = λ taken stands. c.is_character.ensures ∙ character_wanted c.args.self.now.mu c.args.self.now.state taken stands
