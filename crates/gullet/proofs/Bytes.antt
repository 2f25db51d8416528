-- The categories of all bytes, as a list; and lists of tokens that were made.
use Rattle.std.specs.Prelude.{◌≡◌, ℕ, pos, ◌<◌, nat_lt, Bool, true, false, if◌then◌else◌, List, length, map, Result, Ok, Err}
use Rattle.std.specs.List.{range_with_len}
use Rattle.std.proofs.Common.{ap, sym, ◌∙◌, arith, get_or}
use Rattle.std.proofs.lemmas.List.{ext_get_or}
use Rattle.std.proofs.lemmas.List.FromFn.{length-map-range_with_len, get_or-map-range_with_len}
use Rattle.tokens.specs.Cap.{cap_limit}
use Rattle.tokens.specs.TokenList.{list_of}
use Rattle.tokens.specs.declared.cap.Cap.TheVariants.{Items}
use Rattle.tokens.specs.declared.stop.Stop.{Stop}
use Rattle.tokens.specs.declared.stop.Stop.TheVariants.{Capacity}
use Rattle.tokens.specs.declared.token.Token.{Token}
use Rattle.save_groups.specs.declared.key.Key.TheVariants as key
use Rattle.save_groups.specs.declared.value.Value.{Value}
use Rattle.save_groups.specs.declared.value.Value.TheVariants as value
use Rattle.save_groups.specs.Environments.{Copies}
use Rattle.gullet.specs.Parameters.{categories, magnitude, number_of, number_at}

pub categories-bytes : (c : Copies) (cats : List ℕ) → length cats ≡ 256
    → ((byte : ℕ) → byte < 256 → (c.last (key.Code 0 byte)).value ≡ value.Number (pos (get_or cats byte 0))) → cats ≡ categories c
unfolding categories
categories-bytes c cats all each =
    let f : ℕ → ℕ = λ byte. magnitude (number_at c (key.Code 0 byte)) in
    ext_get_or 0 cats (map f (range_with_len 0 256)) (all ∙ sym (length-map-range_with_len f 0 256))
    (λ i below.
    let small : i < 256 = omega (arith, below, all) in
    sym (ap (λ (v : Value). magnitude (number_of v)) (each i small))
    ∙ sym (get_or-map-range_with_len f 0 256 i i 0 small (omega arith)))

-- a list that was made is that of its tokens
pub list_of-given : (tokens list : List Token) → list_of tokens ≡ Ok list → list ≡ tokens
list_of-given tokens list h = at (nat_lt (cap_limit Items) (length tokens)) h
  where
    at : (b : Bool) → (let made : Result (List Token) Stop = if b then Err (Capacity Items) else Ok tokens in made) ≡ Ok list → list ≡ tokens
    at true h = cc
    at false h = cc
