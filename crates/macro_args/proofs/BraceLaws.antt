-- Braces of lists that are put together, and how many they may be.
use Rattle.std.specs.Prelude.{◌≡◌, ℕ, ◌+◌, ◌-◌, ◌<◌, ◌≤◌, ◌^◌, ◌==◌, Bool, true, false, List, [], ◌∷◌, ◌++◌, length, if◌then◌else◌, ◌⊎◌, refl}
use Rattle.std.proofs.Common.{arith, sym, ap, subst, ◌∙◌, take, get_or, length-take, inl, inr}
use Rattle.std.proofs.lemmas.List.{take_more}
use Rattle.std.proofs.lemmas.Bool.{and_from, and_parts, eq-eqb, eqb-true, eqb-false, false_from_ne_true}
use Rattle.tokens.specs.declared.token.Token.{Token}
use Rattle.macro_args.specs.declared.braces.Braces.{Braces}
use Rattle.macro_args.specs.BraceCount.{is_left, is_right, with_left, with_right, with_brace, braces_behind, no_braces, braces_of, are_none, is_balanced}

pub braces_behind-append : (braces : Braces) (xs ys : List Token)
    → braces_behind braces (xs ++ ys) ≡ braces_behind (braces_behind braces xs) ys
braces_behind-append braces [] ys = refl
braces_behind-append braces (x ∷ xs) ys = braces_behind-append (with_brace braces x) xs ys

-- one token more
pub braces_of-more : (tokens : List Token) (token : Token) → braces_of (tokens ++ token ∷ []) ≡ with_brace (braces_of tokens) token
braces_of-more tokens token = braces_behind-append no_braces tokens (token ∷ [])

-- no more than so many of each
pub record AtMost (braces : Braces) (most : ℕ) : Type 0 where
  pub lone : braces.lone ≤ most
  pub unclosed : braces.unclosed ≤ most

right_at_most : (is_closed : Bool) (braces : Braces) (most : ℕ) → AtMost braces most
    → AtMost (if is_closed then record { lone = braces.lone + 1; unclosed = 0 } else record { lone = braces.lone; unclosed = braces.unclosed - 1 }) (most + 1)
right_at_most true braces most h = record { lone = omega (arith, h.lone); unclosed = omega arith }
right_at_most false braces most h = record { lone = omega (arith, h.lone); unclosed = omega (arith, h.unclosed) }

one_at_most : (left right : Bool) (braces : Braces) (most : ℕ) → AtMost braces most
    → AtMost (if left then with_left braces else if right then with_right braces else braces) (most + 1)
one_at_most true right braces most h = record { lone = omega (arith, h.lone); unclosed = omega (arith, h.unclosed) }
one_at_most false true braces most h = right_at_most (braces.unclosed == 0) braces most h
one_at_most false false braces most h = record { lone = omega (arith, h.lone); unclosed = omega (arith, h.unclosed) }

behind_at_most : (braces : Braces) (tokens : List Token) (most : ℕ) → AtMost braces most
    → AtMost (braces_behind braces tokens) (most + length tokens)
behind_at_most braces [] most h = record { lone = omega (arith, h.lone); unclosed = omega (arith, h.unclosed) }
behind_at_most braces (token ∷ tokens) most h =
    let k : AtMost (braces_behind (with_brace braces token) tokens) (most + 1 + length tokens) =
    behind_at_most (with_brace braces token) tokens (most + 1) (one_at_most (is_left token) (is_right token) braces most h)
    in
    record { lone = omega (arith, k.lone); unclosed = omega (arith, k.unclosed) }

pub braces_at_most : (tokens : List Token) → AtMost (braces_of tokens) (length tokens)
braces_at_most tokens =
    let k : AtMost (braces_of tokens) (0 + length tokens) =
    behind_at_most no_braces tokens 0 (record { lone = omega arith; unclosed = omega arith })
    in
    record { lone = omega (arith, k.lone); unclosed = omega (arith, k.unclosed) }

-- a count is exact where the list is one that fits memory
pub exact : (braces after : Braces) (tokens : List Token) (token : Token) → length tokens + 1 < 2 ^ 64
    → braces ≡ braces_of tokens
    → (braces.lone + 1 < 2 ^ 64 → braces.unclosed + 1 < 2 ^ 64 → after ≡ with_brace braces token)
    → after ≡ braces_of (tokens ++ token ∷ [])
exact braces after tokens token fits counted counts =
    let within : AtMost braces (length tokens) =
    (let P : Braces → Type 0 = λ b. AtMost b (length tokens) in subst P (sym counted) (braces_at_most tokens))
    in
    counts (omega (arith, within.lone)) (omega (arith, within.unclosed))
    ∙ ap (λ b. with_brace b token) counted
    ∙ sym (braces_of-more tokens token)

-- the same along a list
pub exact_along : (braces after : Braces) (tokens : List Token) (i : ℕ) (d : Token) → i < length tokens → length tokens < 2 ^ 64
    → braces ≡ braces_of (take i tokens)
    → (braces.lone + 1 < 2 ^ 64 → braces.unclosed + 1 < 2 ^ 64 → after ≡ with_brace braces (get_or tokens i d))
    → after ≡ braces_of (take (i + 1) tokens)
exact_along braces after tokens i d inside fits counted counts =
    exact braces after (take i tokens) (get_or tokens i d) (omega (arith, length-take i tokens)) counted counts
    ∙ ap braces_of (sym (take_more tokens i d inside))

-- ---- two lists, one behind the other

-- the braces of two lists, from those of each
pub record Joins (first second both : Braces) : Type 0 where
  pub lone : both.lone ≡ first.lone + (second.lone - first.unclosed)
  pub unclosed : both.unclosed ≡ (first.unclosed - second.lone) + second.unclosed

one_right : (is_closed : Bool) (first rest own both : Braces) → (first.unclosed == 0) ≡ is_closed
    → Joins (if is_closed then record { lone = first.lone + 1; unclosed = 0 } else record { lone = first.lone; unclosed = first.unclosed - 1 }) rest both
    → Joins (record { lone = 1; unclosed = 0 }) rest own → Joins first own both
one_right true first rest own both test along alone =
    let none : first.unclosed ≡ 0 = eqb-true first.unclosed 0 test in
    record {
      lone = omega (arith, along.lone, alone.lone);
      unclosed = omega (arith, along.unclosed, alone.unclosed, alone.lone);
    }
one_right false first rest own both test along alone =
    let some : first.unclosed ≡ 0 → ⊥ = eqb-false first.unclosed 0 test in
    record {
      lone = omega (arith, along.lone, alone.lone);
      unclosed = omega (arith, along.unclosed, alone.unclosed, alone.lone);
    }

one_more : (left right : Bool) (first rest own both : Braces)
    → Joins (if left then with_left first else if right then with_right first else first) rest both
    → Joins (if left then with_left no_braces else if right then with_right no_braces else no_braces) rest own
    → Joins first own both
one_more true right first rest own both along alone = record {
  lone = omega (arith, along.lone, alone.lone);
  unclosed = omega (arith, along.unclosed, alone.unclosed, alone.lone);
}
one_more false true first rest own both along alone = one_right (first.unclosed == 0) first rest own both refl along alone
one_more false false first rest own both along alone = record {
  lone = omega (arith, along.lone, alone.lone);
  unclosed = omega (arith, along.unclosed, alone.unclosed, alone.lone);
}

behind_joins : (first : Braces) (tokens : List Token) → Joins first (braces_of tokens) (braces_behind first tokens)
behind_joins first [] = record { lone = omega arith; unclosed = omega arith }
behind_joins first (token ∷ tokens) =
    one_more (is_left token) (is_right token) first (braces_of tokens) (braces_of (token ∷ tokens)) (braces_behind first (token ∷ tokens))
    (behind_joins (with_brace first token) tokens) (behind_joins (with_brace no_braces token) tokens)

pub append_joins : (xs ys : List Token) → Joins (braces_of xs) (braces_of ys) (braces_of (xs ++ ys))
append_joins xs ys =
    let P : Braces → Type 0 = λ b. Joins (braces_of xs) (braces_of ys) b in
    subst P (sym (braces_behind-append no_braces xs ys)) (behind_joins (braces_of xs) ys)

none_of : (braces : Braces) → braces.lone ≡ 0 → braces.unclosed ≡ 0 → are_none braces ≡ true
none_of braces l u = and_from _ _ (eq-eqb braces.lone 0 l) (eq-eqb braces.unclosed 0 u)

-- where a text without a lone right brace has all braces of the whole, there are none before it
pub balanced_in_front : (xs ys : List Token) → (braces_of ys).lone ≡ 0 → (braces_of ys).lone ≡ (braces_of (xs ++ ys)).lone
    → (braces_of ys).unclosed ≡ (braces_of (xs ++ ys)).unclosed → true ≡ is_balanced xs
balanced_in_front xs ys none lone unclosed =
    let j : Joins (braces_of xs) (braces_of ys) (braces_of (xs ++ ys)) = append_joins xs ys in
    sym (none_of (braces_of xs) (omega (arith, j.lone, j.unclosed)) (omega (arith, j.lone, j.unclosed)))

-- where it has others, there are some
pub unbalanced_in_front : (xs ys : List Token)
    → ((braces_of ys).lone ≡ (braces_of (xs ++ ys)).lone → ⊥) ⊎ ((braces_of ys).unclosed ≡ (braces_of (xs ++ ys)).unclosed → ⊥)
    → false ≡ is_balanced xs
unbalanced_in_front xs ys differ =
    sym (false_from_ne_true (is_balanced xs) (λ balanced.
    let parts = and_parts ((braces_of xs).lone == 0) ((braces_of xs).unclosed == 0) balanced in
    let lone : (braces_of xs).lone ≡ 0 = eqb-true _ 0 parts.0 in
    let unclosed : (braces_of xs).unclosed ≡ 0 = eqb-true _ 0 parts.1 in
    let j : Joins (braces_of xs) (braces_of ys) (braces_of (xs ++ ys)) = append_joins xs ys in
    let same : (braces_of ys).lone ≡ (braces_of (xs ++ ys)).lone = omega (arith, j.lone) in
    let same_open : (braces_of ys).unclosed ≡ (braces_of (xs ++ ys)).unclosed = omega (arith, j.unclosed) in
    elim differ [ inl h ↦ h same | inr h ↦ h same_open ]))
