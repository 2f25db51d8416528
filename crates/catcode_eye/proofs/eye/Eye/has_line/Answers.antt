use Rattle.std.proofs.Common.{◌≡◌, ◌∙◌, ap, Bool, ℕ, false, length, nat_lt, List, sym, drop, Option, rules}
use Rattle.catcode_eye.specs.Lines.{unread_lines}
use Rattle.catcode_eye.specs.Outlook.{Outlook, has_line}
use Rattle.catcode_eye.proofs.Taking.{has_line-drop}
use Rattle.catcode_eye.proofs.eye.Eye.has_line.Goals as goal

left : (eye : Outlook) (mark : Option ℕ) (is_empty : Bool) (unread size : ℕ) (bytes : List ℕ)
    → unread_lines mark is_empty (drop unread bytes) ≡ eye.unread → is_empty ≡ false → size ≡ length bytes
    → nat_lt unread size ≡ has_line eye.unread
left eye mark is_empty unread size bytes view whole len =
    ap (nat_lt unread) len ∙ has_line-drop mark unread bytes
    ∙ ap (λ e. has_line (unread_lines mark e (drop unread bytes))) (sym whole) ∙ ap has_line view

pub returns-else-self : goal.returns-else-self
returns-else-self c =
    left c.args.self.now c.self.inside.mark c.self.inside.has_empty_line c.self.inside.unread c.len.result c.self.inside.bytes.items
    (ap (λ (o : Outlook). o.unread) c.self.view_is) c.if-self.false (search rules)
