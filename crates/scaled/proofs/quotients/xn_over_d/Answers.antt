use Rattle.std.proofs.Common.{◌≡◌, ◌^◌, ◌<◌, ◌≤◌, ◌∙◌, ap, sym, refl, pos, ◌*ℤ◌, unsigned_abs, int_div, int_rem, to_z, of_z, w32, w64, arith, rules}
use Rattle.std.proofs.lemmas.Bool.{false≢true}
use Rattle.scaled.proofs.QuotientLaws.{IsTruncated-pair, multiple_of-some, multiple_of-none, narrowed}
use Rattle.scaled.proofs.quotients.xn_over_d.Goals as goal
use Rattle.scaled.proofs.quotients.xn_over_d.Goals.{Then-unsigned_abs, Else-unsigned_abs}

-- the quotient and the rest, before the casts and after them
quotient_is : (c : Then-unsigned_abs) → c.truncated-quotient.result.0 ≡ int_div (c.args.x *ℤ pos c.args.n) (pos c.args.d)
quotient_is c = search rules

rest_is : (c : Then-unsigned_abs) → c.truncated-quotient.result.1 ≡ int_rem (c.args.x *ℤ pos c.args.n) (pos c.args.d)
rest_is c = search rules

small : (c : Then-unsigned_abs) → unsigned_abs c.truncated-quotient.result.0 < 2 ^ 30
small c = search rules

cast_quotient : (c : Then-unsigned_abs) → to_z w32 (of_z w32 (to_z w64 (of_z w64 c.truncated-quotient.result.0))) ≡ int_div (c.args.x *ℤ pos c.args.n) (pos c.args.d)
cast_quotient c = narrowed c.truncated-quotient.result.0 (omega (arith, small c)) ∙ quotient_is c

cast_rest : (c : Then-unsigned_abs) → to_z w32 (of_z w32 (to_z w64 (of_z w64 c.truncated-quotient.result.1))) ≡ int_rem (c.args.x *ℤ pos c.args.n) (pos c.args.d)
cast_rest c = narrowed c.truncated-quotient.result.1 (omega (arith, c.truncated-quotient.ensures.truncated.rest)) ∙ rest_is c

exact_small : (c : Then-unsigned_abs) → unsigned_abs (int_div (c.args.x *ℤ pos c.args.n) (pos c.args.d)) < 2 ^ 30
exact_small c = omega (arith, ap unsigned_abs (quotient_is c), small c)

pub returns-then-unsigned_abs-clause-value : goal.returns-then-unsigned_abs-clause-value
returns-then-unsigned_abs-clause-value c =
    multiple_of-some c.args.x c.args.n c.args.d _ _ (cast_quotient c) (cast_rest c) (omega (arith, ap unsigned_abs (cast_quotient c), exact_small c))

pub returns-then-unsigned_abs-clause-none : goal.returns-then-unsigned_abs-clause-none
returns-then-unsigned_abs-clause-none c =
    (λ e. absurd (false≢true (sym e)), λ large. absurd (omega (arith, large, exact_small c)))

pub returns-then-unsigned_abs-clause-truncated : goal.returns-then-unsigned_abs-clause-truncated
returns-then-unsigned_abs-clause-truncated c =
    IsTruncated-pair _ c.args.d _ _ c.requires.divisor (cast_quotient c) (cast_rest c)

-- the other branch
else_quotient_is : (c : Else-unsigned_abs) → c.truncated-quotient.result.0 ≡ int_div (c.args.x *ℤ pos c.args.n) (pos c.args.d)
else_quotient_is c = search rules

large : (c : Else-unsigned_abs) → 2 ^ 30 ≤ unsigned_abs c.truncated-quotient.result.0
large c = search rules

pub returns-else-unsigned_abs-clause-value : goal.returns-else-unsigned_abs-clause-value
returns-else-unsigned_abs-clause-value c =
    multiple_of-none c.args.x c.args.n c.args.d c.truncated-quotient.result.0 (else_quotient_is c) (large c)

pub returns-else-unsigned_abs-clause-none : goal.returns-else-unsigned_abs-clause-none
returns-else-unsigned_abs-clause-none c =
    (λ _. omega (arith, ap unsigned_abs (else_quotient_is c), large c), λ _. refl)
