-- Each state hands its token to its function.
use Rattle.scan_nums.specs.Taken.{Seen}
use Rattle.scan_nums.specs.declared.dimen_state.DimenState.TheVariants.{Character, Digits, Word, Physical, PhysicalWord, Fil, Space}
use Rattle.scan_nums.proofs.DimenLaws.{leads_state}
use Rattle.scan_nums.proofs.dimen_scan.take_token.Goals as goal

pub returns-in-Character-clause-leads : goal.returns-in-Character-clause-leads
returns-in-Character-clause-leads c =
    leads_state c.args.kind.mu c.args.kind.orders c.args.state (Character c.in-Character.negative) (Seen c.args.token c.args.meaning.now) _ c.in-Character.is (c.take_character.ensures.leads c.args.kind.mu c.args.kind.orders)

pub returns-in-Digits-clause-leads : goal.returns-in-Digits-clause-leads
returns-in-Digits-clause-leads c =
    leads_state c.args.kind.mu c.args.kind.orders c.args.state (Digits c.in-Digits.negative c.in-Digits.constant) (Seen c.args.token c.args.meaning.now) _ c.in-Digits.is c.take_digit.ensures.leads

pub returns-in-Word-clause-leads : goal.returns-in-Word-clause-leads
returns-in-Word-clause-leads c =
    leads_state c.args.kind.mu c.args.kind.orders c.args.state (Word c.in-Word.negative c.in-Word.factor c.in-Word.letters) (Seen c.args.token c.args.meaning.now) _ c.in-Word.is (c.take_letter.ensures.leads c.args.kind.mu c.args.kind.orders)

pub returns-in-Physical-clause-leads : goal.returns-in-Physical-clause-leads
returns-in-Physical-clause-leads c =
    leads_state c.args.kind.mu c.args.kind.orders c.args.state (Physical c.in-Physical.negative c.in-Physical.factor) (Seen c.args.token c.args.meaning.now) _ c.in-Physical.is (c.take_physical.ensures.leads c.args.kind.mu c.args.kind.orders)

pub returns-in-PhysicalWord-clause-leads : goal.returns-in-PhysicalWord-clause-leads
returns-in-PhysicalWord-clause-leads c =
    leads_state c.args.kind.mu c.args.kind.orders c.args.state (PhysicalWord c.in-PhysicalWord.negative c.in-PhysicalWord.factor c.in-PhysicalWord.letters) (Seen c.args.token c.args.meaning.now) _ c.in-PhysicalWord.is (c.take_physical_letter.ensures.leads c.args.kind.mu c.args.kind.orders)

pub returns-in-Fil-clause-leads : goal.returns-in-Fil-clause-leads
returns-in-Fil-clause-leads c =
    leads_state c.args.kind.mu c.args.kind.orders c.args.state (Fil c.in-Fil.extent c.in-Fil.order) (Seen c.args.token c.args.meaning.now) _ c.in-Fil.is (c.take_fil.ensures.leads c.args.kind.mu c.args.kind.orders)

pub returns-in-Space-clause-leads : goal.returns-in-Space-clause-leads
returns-in-Space-clause-leads c =
    leads_state c.args.kind.mu c.args.kind.orders c.args.state (Space c.in-Space.extent c.in-Space.order) (Seen c.args.token c.args.meaning.now) _ c.in-Space.is (c.take_space.ensures.leads c.args.kind.mu c.args.kind.orders)
