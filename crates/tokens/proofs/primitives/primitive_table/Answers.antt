-- Each primitive comes behind those in front of it.
use Rattle.std.proofs.Common.{arith, sym, ◌∙◌, ap}
use Rattle.std.proofs.lemmas.List.{take_all}
use Rattle.tokens.specs.Names.{name_at, interned}
use Rattle.tokens.specs.Primitives.{primitive_names, primitive_names-distinct, length-primitive_names}
use Rattle.tokens.proofs.Interning.{interned_take}
use Rattle.tokens.proofs.primitives.primitive_table.Goals as goal

pub returns : goal.returns
returns c =
    c.loop-code.invariant ∙ take_all c.loop-code.code primitive_names (omega (arith, length-primitive_names))

pub loop-code-preserved : goal.loop-code-preserved
loop-code-preserved c =
    interned_take primitive_names c.intern.new.self c.loop-code.code c.in_ok-intern.field-0.0 primitive_names-distinct
    (omega (arith, length-primitive_names))
    (ap (λ names. interned names (name_at primitive_names c.loop-code.code)) (sym c.loop-code.invariant)
    ∙ ap (λ name. interned c.loop-code.names name) (sym (c.as_bytes.ensures.value ∙ c.primitive_name.ensures))
    ∙ c.in_ok-intern.ensures.ok)
