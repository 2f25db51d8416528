-- A new name comes at the end.
use Rattle.std.proofs.Common.{◌≡◌, ◌∙◌, [], ◌∷◌, ◌++◌, length, sym, ap, rules}
use Rattle.tokens.proofs.Linking.{length-names_of}
use Rattle.tokens.proofs.Interning.{interned-new_as}
use Rattle.tokens.proofs.names.NameTable.put.Goals as goal

pub returns-clause-ok : goal.returns-clause-ok
returns-clause-ok c =
    let count : c.len-id.result ≡ length c.self.inside.entries.items = search rules in
    interned-new_as _ _ _ _ c.requires
    (c.in_ok-add.ensures.ok ∙ ap (λ name. c.args.self.now ++ name ∷ []) c.in_ok-name.ensures.items)
    (count ∙ sym (length-names_of _) ∙ ap length c.self.view_is)
