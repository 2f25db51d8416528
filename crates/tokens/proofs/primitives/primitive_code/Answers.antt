-- The first name that is equal, or none.
use Rattle.std.proofs.Common.{arith, sym, ◌∙◌}
use Rattle.std.proofs.lemmas.Slice.Eq.{bytes_eq-Decides}
use Rattle.tokens.specs.Names.{place_of-first, place_of-absent}
use Rattle.tokens.specs.Primitives.{primitive_names, length-primitive_names}
use Rattle.tokens.proofs.primitives.primitive_code.Goals as goal

pub returns-then-eq : goal.returns-then-eq
returns-then-eq c =
    sym (place_of-first primitive_names c.args.name.now c.loop-code.code (omega (arith, length-primitive_names))
    (sym c.primitive_name.ensures ∙ sym c.as_bytes.ensures.value ∙ (bytes_eq-Decides _ _).0 (sym c.eq.ensures ∙ c.if-eq.true))
    c.loop-code.invariant)

pub returns : goal.returns
returns c =
    sym (place_of-absent primitive_names c.args.name.now
    (λ j below. c.loop-code.invariant j (omega (arith, length-primitive_names))))
