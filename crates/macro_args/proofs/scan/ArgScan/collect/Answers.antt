-- One token of an argument.
use Rattle.std.proofs.Common.{arith, ◌∙◌}
use Rattle.std.proofs.lemmas.Result.{IfOk-weaker}
use Rattle.macro_args.proofs.ScanLaws.{judges, passed, going, refused, found, as_long}
use Rattle.macro_args.proofs.scan.ArgScan.collect.Goals as goal

pub returns-in-Passed : goal.returns-in-Passed
returns-in-Passed c =
    passed _ _ c.args.begin c.args.end c.args.token _ _ c.self.view_is
    (judges _ _ _ _ _ _ _ _ _ _ c.as_slice.ensures (c.as_slice-2.ensures.value ∙ c.in_ok-push.ensures.items)
    (omega (arith, c.self.inside.tokens.ok, c.self.inside.tokens.small))
    c.with-self-inside.ensures c.delimiter-delimiter.ensures c.judged.ensures c.in-Passed.is)
    c.begin_argument.ensures

pub returns-in-Going : goal.returns-in-Going
returns-in-Going c =
    going _ _ c.args.begin c.args.end c.args.token _ _ c.self.view_is c.in_ok-push.ensures.items
    (judges _ _ _ _ _ _ _ _ _ _ c.as_slice.ensures (c.as_slice-2.ensures.value ∙ c.in_ok-push.ensures.items)
    (omega (arith, c.self.inside.tokens.ok, c.self.inside.tokens.small))
    c.with-self-inside.ensures c.delimiter-delimiter.ensures c.judged.ensures c.in-Going.is)

pub returns-in-Found : goal.returns-in-Found
returns-in-Found c = IfOk-weaker c.end_argument.result _ _
    (λ verdict ends at sound.
    found _ _ _ c.args.begin c.args.end _ c.args.token _ _ verdict c.self.view_is c.in_ok-push.ensures.items
    (judges _ _ _ _ _ _ _ _ _ _ c.as_slice.ensures (c.as_slice-2.ensures.value ∙ c.in_ok-push.ensures.items)
    (omega (arith, c.self.inside.tokens.ok, c.self.inside.tokens.small))
    c.with-self-inside.ensures c.delimiter-delimiter.ensures c.judged.ensures c.in-Found.is)
    (as_long _ c.args.begin c.args.end _ _ c.as_slice.ensures c.delimiter-delimiter.ensures)
    ends at sound)
    c.end_argument.ensures

pub returns-in-Refused : goal.returns-in-Refused
returns-in-Refused c =
    refused _ _ c.args.begin c.args.end c.args.token _ c.in-Refused.refusal c.self.view_is
    (judges _ _ _ _ _ _ _ _ _ _ c.as_slice.ensures (c.as_slice-2.ensures.value ∙ c.in_ok-push.ensures.items)
    (omega (arith, c.self.inside.tokens.ok, c.self.inside.tokens.small))
    c.with-self-inside.ensures c.delimiter-delimiter.ensures c.judged.ensures c.in-Refused.is)
