-- Texts at the end of a list.
use Rattle.std.specs.Prelude.{◌≡◌, ℕ, ◌+◌, ◌-◌, ◌<◌, ◌≤◌, Bool, true, false, ◌&&◌, ◌||◌, ◌⊎◌, List, ◌++◌, length, refl}
use Rattle.std.proofs.Common.{zero, suc, arith, sym, ap, ◌∙◌, take, drop, get_or, drop-cons, add-one, zero-add, length-drop, inl, inr}
use Rattle.std.proofs.lemmas.Bool.{false_from_ne_true}
use Rattle.std.proofs.lemmas.List.{drop_all, take-append-drop}
use Rattle.tokens.specs.declared.token.Token.{Token}
use Rattle.tokens.specs.Token.{same_token}
use Rattle.tokens.specs.TokenList.{same_tokens, same_tokens-equal}
use Rattle.macro_args.specs.declared.braces.Braces.{Braces}
use Rattle.macro_args.specs.BraceCount.{braces_of, is_balanced}
use Rattle.macro_args.specs.Arguments.{ends_with, before, stands_at_end, is_begun_by, is_part}
use Rattle.macro_args.proofs.BraceLaws.{balanced_in_front, unbalanced_in_front}

-- lists are compared place by place
pub same_tokens-drop : (xs ys : List Token) (i : ℕ) (d : Token) → i < length xs → length xs ≡ length ys
    → same_tokens (drop i xs) (drop i ys) ≡ (same_token (get_or xs i d) (get_or ys i d) && same_tokens (drop (i + 1) xs) (drop (i + 1) ys))
same_tokens-drop xs ys i d inside same =
    let within : i < length ys = omega arith in
    rw (add-one, drop-cons xs i d inside, drop-cons ys i d within)

pub found_different : (xs ys : List Token) (i : ℕ) (d : Token) → i < length xs → length xs ≡ length ys
    → same_tokens xs ys ≡ same_tokens (drop i xs) (drop i ys) → same_token (get_or xs i d) (get_or ys i d) ≡ false
    → false ≡ same_tokens xs ys
found_different xs ys i d inside same so_far differs =
    sym (so_far ∙ same_tokens-drop xs ys i d inside same ∙ ap (λ b. b && same_tokens (drop (i + 1) xs) (drop (i + 1) ys)) differs)

pub same_so_far : (xs ys : List Token) (i : ℕ) (d : Token) → i < length xs → length xs ≡ length ys
    → same_tokens xs ys ≡ same_tokens (drop i xs) (drop i ys) → same_token (get_or xs i d) (get_or ys i d) ≡ true
    → same_tokens xs ys ≡ same_tokens (drop (i + 1) xs) (drop (i + 1) ys)
same_so_far xs ys i d inside same so_far equal =
    so_far ∙ same_tokens-drop xs ys i d inside same ∙ ap (λ b. b && same_tokens (drop (i + 1) xs) (drop (i + 1) ys)) equal

pub same_to_the_end : (xs ys : List Token) (i : ℕ) → length xs ≤ i → length xs ≡ length ys
    → same_tokens xs ys ≡ same_tokens (drop i xs) (drop i ys) → true ≡ same_tokens xs ys
same_to_the_end xs ys i past same so_far =
    let past_other : length ys ≤ i = omega arith in
    sym (so_far ∙ rw (drop_all i xs past, drop_all i ys past_other))

-- a longer text is no end of a list
pub longer_is_no_end : (tokens text : List Token) → length tokens < length text → false ≡ ends_with tokens text
longer_is_no_end tokens text longer =
    sym (false_from_ne_true (ends_with tokens text) (λ equal.
    let rest : List Token = drop (length tokens - length text) tokens in
    let same : rest ≡ text = same_tokens-equal rest text equal in
    absurd (omega (arith, length-drop (length tokens - length text) tokens, ap length same))))

-- a list that ends with a text is what stands before it, with the text behind
pub parted_at_end : (tokens text : List Token) → ends_with tokens text ≡ true → before tokens text ++ text ≡ tokens
parted_at_end tokens text ends =
    let count : ℕ = length tokens - length text in
    ap (λ t. take count tokens ++ t) (sym (same_tokens-equal (drop count tokens) text ends)) ∙ take-append-drop count tokens

-- the braces of a text at the end of a list say whether what stands before is balanced
pub others_before : (tokens text : List Token) (own braces : Braces) → own ≡ braces_of text → braces ≡ braces_of tokens
    → ends_with tokens text ≡ true → (own.lone ≡ braces.lone → ⊥) ⊎ (own.unclosed ≡ braces.unclosed → ⊥)
    → false ≡ is_balanced (before tokens text)
others_before tokens text own braces counted all ends differ =
    let whole : braces ≡ braces_of (before tokens text ++ text) = all ∙ ap braces_of (sym (parted_at_end tokens text ends)) in
    unbalanced_in_front (before tokens text) text (elim differ [
      | inl h ↦ inl (λ e. h (ap (λ b. b.lone) counted ∙ e ∙ sym (ap (λ b. b.lone) whole)))
      | inr h ↦ inr (λ e. h (ap (λ b. b.unclosed) counted ∙ e ∙ sym (ap (λ b. b.unclosed) whole)))
    ])

pub none_before : (tokens text : List Token) (own braces : Braces) → own ≡ braces_of text → braces ≡ braces_of tokens
    → ends_with tokens text ≡ true → own.lone ≡ braces.lone → own.unclosed ≡ braces.unclosed → own.lone ≡ 0
    → true ≡ is_balanced (before tokens text)
none_before tokens text own braces counted all ends lone unclosed none =
    let whole : braces ≡ braces_of (before tokens text ++ text) = all ∙ ap braces_of (sym (parted_at_end tokens text ends)) in
    balanced_in_front (before tokens text) text
    (sym (ap (λ b. b.lone) counted) ∙ none)
    (sym (ap (λ b. b.lone) counted) ∙ lone ∙ ap (λ b. b.lone) whole)
    (sym (ap (λ b. b.unclosed) counted) ∙ unclosed ∙ ap (λ b. b.unclosed) whole)

-- beginnings of a delimiter, the shortest first
pub none_begun : (delimiter tokens : List Token) (i : ℕ) → is_begun_by i delimiter tokens ≡ false
    → stands_at_end (take (i + 1) delimiter) tokens ≡ false → is_begun_by (i + 1) delimiter tokens ≡ false
none_begun delimiter tokens i so_far here =
    rw add-one (ap (λ b. b || is_begun_by i delimiter tokens) (rw add-one at here) ∙ so_far)

begun_among : (delimiter tokens : List Token) (i more : ℕ) → is_begun_by i delimiter tokens ≡ true
    → is_begun_by (more + i) delimiter tokens ≡ true
begun_among delimiter tokens i zero here = ap (λ n. is_begun_by n delimiter tokens) (zero-add i) ∙ here
begun_among delimiter tokens i (suc more) here =
    let e : suc more + i ≡ suc (more + i) = omega arith in
    ap (λ n. is_begun_by n delimiter tokens) e
    ∙ or_second (stands_at_end (take (suc (more + i)) delimiter) tokens) (is_begun_by (more + i) delimiter tokens) (begun_among delimiter tokens i more here)
  where
    or_second : (a b : Bool) → b ≡ true → (a || b) ≡ true
    or_second true b h = refl
    or_second false b h = h

pub begun_at : (delimiter tokens : List Token) (i : ℕ) → i < length delimiter
    → stands_at_end (take (i + 1) delimiter) tokens ≡ true → true ≡ is_part delimiter tokens
begun_at delimiter tokens i high here =
    let first : is_begun_by (suc i) delimiter tokens ≡ true =
    ap (λ b. b || is_begun_by i delimiter tokens) (rw add-one at here)
    in
    let e : length delimiter ≡ (length delimiter - suc i) + suc i = omega arith in
    sym (ap (λ n. is_begun_by n delimiter tokens) e ∙ begun_among delimiter tokens (suc i) (length delimiter - suc i) first)
