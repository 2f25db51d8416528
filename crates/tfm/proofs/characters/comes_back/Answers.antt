use Rattle.std.proofs.Common.{◌≡◌, ap, sym, ◌∙◌, arith}
use Rattle.tfm.specs.FontMetricsCharacters.{larger_than, comes_to}
use Rattle.tfm.proofs.LoopLemmas.{told_to_come, coming_is_told}
use Rattle.tfm.proofs.characters.comes_back.Goals as goal

pub returns-clause-highest : goal.returns-clause-highest
returns-clause-highest c =
    let bytes = c.args.bytes.now in
    let l = c.args.lengths in
    let chain = larger_than bytes l c.args.top in
    let same : c.comes_to.result ≡ comes_to bytes l c.args.top 256 chain = c.comes_to.ensures ∙ ap (comes_to bytes l c.args.top 256) c.larger-first.ensures in
    (λ told. told_to_come bytes l c.args.top 256 chain (sym same ∙ told), λ come. same ∙ coming_is_told bytes l c.args.top 256 chain (omega arith) come)
