-- The word that a `Rewriter` holds.
use Rattle.std.specs.Prelude.{ℕ, List, refl}
use Rattle.std.specs.Coded.{Coded, code_by, coded×, coded_ℕ, coded_list}
use Rattle.nodes.specs.declared.node.Node.{Node}
use Rattle.nodes.specs.contracts.node.Node as node
use Rattle.lig_kern.specs.declared.element.Element.{Element}
use Rattle.lig_kern.specs.contracts.element.Element as element
use Rattle.lig_kern.specs.declared.rewriter.Rewriter.{Rewriter}
use Rattle.lig_kern.specs.Rewriting.{Word, word_at}

abbrev pub word_of : Rewriter → Word
word_of rewriter = word_at rewriter.font rewriter.set.items rewriter.here rewriter.over rewriter.ahead.items

-- a word is stored as the tuple of its fields
abbrev pub word_code : Coded Word
word_code =
    code_by (ℕ × (List Node × (Element × (ℕ × List Element))))
    (coded× coded_ℕ (coded× (coded_list node.the_row.coded) (coded× element.the_row.coded (coded× coded_ℕ (coded_list element.the_row.coded)))))
    (λ w. (w.font, (w.set, (w.here, (w.over, w.ahead)))))
    (λ p. word_at p.0 p.1.0 p.1.1.0 p.1.1.1.0 p.1.1.1.1)
    (λ _. refl)
