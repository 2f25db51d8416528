use Rattle.std.proofs.Common.{◌≡◌, ◌∙◌, ap, sym, arith, rules, drop}
use Rattle.std.specs.List.{before_first}
use Rattle.catcode_eye.specs.Lines.{byte_named, is_mark, lines}
use Rattle.catcode_eye.specs.Outlook.{Outlook}
use Rattle.catcode_eye.proofs.Taking.{next_line-too_long, next_line-taken, outlook-first, outlook-same, rest-taken}
use Rattle.catcode_eye.proofs.eye.Eye.next_line.Goals as goal

pub returns-in_default-clause-ends : goal.returns-in_default-clause-ends
returns-in_default-clause-ends c =
    next_line-too_long c.args.endline c.args.self.now _ _
    (outlook-first c.args.self.now c.self.inside.mark c.self.inside.has_empty_line c.self.inside.unread c.self.inside.bytes.items c.as_slice.result.now
    (ap (λ (o : Outlook). o.unread) c.self.view_is) c.as_slice.ensures.value c.self.invariant.3 c.if-not-has_line.ensures)
    c.in_default.ensures.too_long

pub returns-clause-gives : goal.returns-clause-gives
returns-clause-gives c =
    let order = c.in-Some.ensures.order in
    let named : c.byte_named.result ≡ byte_named c.args.endline = search rules in
    next_line-taken c.args.endline c.args.self.now _ _ _
    (outlook-first c.args.self.now c.self.inside.mark c.self.inside.has_empty_line c.self.inside.unread c.self.inside.bytes.items c.as_slice.result.now
    (ap (λ (o : Outlook). o.unread) c.self.view_is) c.as_slice.ensures.value c.self.invariant.3 c.if-not-has_line.ensures)
    c.in-Some.ensures.fits
    (outlook-same _ _ _ _
    (ap (lines c.self.inside.mark) (c.in_ok-bounds.ensures.behind ∙ ap (drop c.in-Some.bounds.next) (sym c.as_slice.ensures.value) ∙ c.in-Some.ensures.behind))
    (rest-taken c.self.inside.unread c.in-Some.bounds.end c.self.inside.bytes.items c.as_slice.result.now _
    (before_first (is_mark c.self.inside.mark) (drop c.self.inside.unread c.as_slice.result.now)) _ _
    c.as_slice.ensures.value order.0 (omega (arith, order.1, order.2)) c.in-Some.ensures.kept c.in_ok-bounds.ensures.line named))
