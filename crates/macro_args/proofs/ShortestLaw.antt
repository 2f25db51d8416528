-- The first place at which the delimiter follows a balanced list ends the shortest such list.
use Rattle.std.specs.Prelude.{◌≡◌, ℕ, ◌+◌, ◌-◌, ◌<◌, ◌==◌, Bool, true, false, ◌&&◌, not, nat_lt, List, [], ◌∷◌, ◌++◌, length, take, drop, Some, None, if◌then◌else◌, refl}
use Rattle.std.proofs.Common.{arith, sym, ap, subst, ◌∙◌, append_assoc, length-append}
use Rattle.std.proofs.Math.Seq.{take-append_seam, drop-append_seam}
use Rattle.std.proofs.lemmas.Bool.{and_from, and_parts, eqb-true}
use Rattle.tokens.specs.declared.token.Token.{Token}
use Rattle.tokens.specs.TokenList.{same_tokens, same_tokens-refl}
use Rattle.macro_args.specs.declared.rules.Rules.{Rules}
use Rattle.macro_args.specs.declared.verdict.Refusal.TheVariants.{ExtraBrace, ParagraphEnded, TooLong}
use Rattle.macro_args.specs.declared.judge.Judgement.{Judgement}
use Rattle.macro_args.specs.declared.judge.Judgement.TheVariants.{Passed, Going, Found, Refused}
use Rattle.macro_args.specs.BraceCount.{is_balanced, has_lone_right}
use Rattle.macro_args.specs.Arguments.{Ended, ends_with, before, stands_at_end, is_space, is_passed, is_barred, is_part, is_too_long, judged, ended, argument_of, argument_list, argument_from}
use Rattle.macro_args.specs.Shortest.{IsArgument, DelimitedLaw}
use Rattle.macro_args.proofs.MatchingLaws.{parted_at_end}
use Rattle.macro_args.proofs.ScanLaws.{outcome_by, judged_outcome}

-- ---- what a judgement tells

abbrev pub picked : Bool → Bool → Bool → Bool → Bool → Judgement
picked space paragraph brace whole long =
    if space then Passed else if paragraph then Refused ParagraphEnded else if brace then Refused ExtraBrace
    else if whole then Found else if long then Refused TooLong else Going

picked_passed : (s p b w l : Bool) → picked s p b w l ≡ Passed → s ≡ true
picked_passed true p b w l e = refl
picked_passed false true b w l e = cc
picked_passed false false true w l e = cc
picked_passed false false false true l e = cc
picked_passed false false false false true e = cc
picked_passed false false false false false e = cc

picked_found : (s p b w l : Bool) → picked s p b w l ≡ Found → w ≡ true
picked_found true p b w l e = cc
picked_found false true b w l e = cc
picked_found false false true w l e = cc
picked_found false false false true l e = refl
picked_found false false false false true e = cc
picked_found false false false false false e = cc

picked_going : (s p b w l : Bool) → picked s p b w l ≡ Going → w ≡ false
picked_going true p b w l e = cc
picked_going false true b w l e = cc
picked_going false false true w l e = cc
picked_going false false false true l e = cc
picked_going false false false false l e = refl

module _ (rules : Rules) (delimiter tokens : List Token) (token : Token) where
  passed_is_undelimited : judged rules delimiter tokens token ≡ Passed → length delimiter ≡ 0
  passed_is_undelimited e =
      let space : is_passed delimiter tokens token ≡ true = picked_passed
      (is_passed delimiter tokens token) (is_barred rules token && not (is_part delimiter tokens))
      (has_lone_right tokens && not (is_part delimiter tokens)) (stands_at_end delimiter tokens) (is_too_long delimiter tokens) e
      in
      let parts = and_parts ((length delimiter == 0) && (length tokens == 1)) (is_space token) space in
      let first = and_parts (length delimiter == 0) (length tokens == 1) parts.0 in
      eqb-true (length delimiter) 0 first.0

  found_is_whole : judged rules delimiter tokens token ≡ Found → stands_at_end delimiter tokens ≡ true
  found_is_whole e = picked_found
      (is_passed delimiter tokens token) (is_barred rules token && not (is_part delimiter tokens))
      (has_lone_right tokens && not (is_part delimiter tokens)) (stands_at_end delimiter tokens) (is_too_long delimiter tokens) e

  going_is_not_whole : judged rules delimiter tokens token ≡ Going → stands_at_end delimiter tokens ≡ false
  going_is_not_whole e = picked_going
      (is_passed delimiter tokens token) (is_barred rules token && not (is_part delimiter tokens))
      (has_lone_right tokens && not (is_part delimiter tokens)) (stands_at_end delimiter tokens) (is_too_long delimiter tokens) e

-- ---- lists

-- a balanced list with the delimiter behind it is seen to be one
seen_whole : (delimiter other : List Token) → is_balanced other ≡ true → stands_at_end delimiter (other ++ delimiter) ≡ true
seen_whole delimiter other balanced =
    let e : length (other ++ delimiter) - length delimiter ≡ length other = omega (arith, length-append other delimiter) in
    and_from _ _
    (ap (λ n. same_tokens (drop n (other ++ delimiter)) delimiter) e
    ∙ ap (λ t. same_tokens t delimiter) (drop-append_seam other delimiter) ∙ same_tokens-refl delimiter)
    (ap (λ n. is_balanced (take n (other ++ delimiter))) e ∙ ap is_balanced (take-append_seam other delimiter) ∙ balanced)

same_front : (xs ys zs ws : List Token) → xs ++ ys ≡ zs ++ ws → length xs ≡ length zs → xs ≡ zs
same_front xs ys zs ws same long =
    sym (take-append_seam xs ys) ∙ ap (take (length xs)) same ∙ ap (λ n. take n (zs ++ ws)) long ∙ take-append_seam zs ws

-- no balanced list with the delimiter behind it ends within so many tokens
abbrev NoneWithin : List Token → List Token → ℕ → Type 0
NoneWithin delimiter tokens count =
    (other more : List Token) → tokens ≡ other ++ delimiter ++ more → is_balanced other ≡ true
    → count < length other + length delimiter

one_further : (delimiter tokens : List Token) (token : Token) (more : List Token)
    → NoneWithin delimiter (tokens ++ token ∷ more) (length tokens) → stands_at_end delimiter (tokens ++ token ∷ []) ≡ false
    → NoneWithin delimiter ((tokens ++ token ∷ []) ++ more) (length (tokens ++ token ∷ []))
one_further delimiter tokens token more none here other behind same balanced =
    let now : List Token = tokens ++ token ∷ [] in
    let before_it : length tokens < length other + length delimiter =
    none other behind (sym (append_assoc tokens (token ∷ []) more) ∙ same) balanced
    in
    let apart : length now ≡ length (other ++ delimiter) → ⊥ = λ long.
    (let equal : now ≡ other ++ delimiter = same_front now more (other ++ delimiter) behind same long in
    let whole : stands_at_end delimiter now ≡ true = ap (stands_at_end delimiter) equal ∙ seen_whole delimiter other balanced in
    let clash : false ≡ true = sym here ∙ whole in cc)
    in
    omega (arith, length-append tokens (token ∷ []), length-append other delimiter)

-- ---- an argument that ends

listed : (b : Bool) (tokens argument : List Token) (more rest : List Token)
    → ended (if b then None else Some tokens) more ≡ Ended argument rest → (tokens ≡ argument) × (more ≡ rest)
listed true tokens argument more rest e = cc
listed false tokens argument more rest e = (cc, cc)

whole_argument : (delimiter tokens : List Token) (token : Token) (more argument rest : List Token)
    → NoneWithin delimiter (tokens ++ token ∷ more) (length tokens) → stands_at_end delimiter (tokens ++ token ∷ []) ≡ true
    → ended (argument_list (argument_of delimiter (tokens ++ token ∷ []))) more ≡ Ended argument rest
    → IsArgument delimiter (tokens ++ token ∷ more) argument rest
whole_argument delimiter tokens token more argument rest none whole e =
    let now : List Token = tokens ++ token ∷ [] in
    let text : List Token = before now delimiter in
    let parts = and_parts (ends_with now delimiter) (is_balanced text) whole in
    let is = listed (nat_lt 16777215 (length (argument_of delimiter now))) (argument_of delimiter now) argument more rest e in
    let joined : text ++ delimiter ≡ now = parted_at_end now delimiter parts.0 in
    let long : length text + length delimiter ≡ length tokens + 1 =
    sym (length-append text delimiter) ∙ ap length joined ∙ length-append tokens (token ∷ [])
    in
    record {
      text = text;
      is_shortest = record {
        parted = sym (append_assoc tokens (token ∷ []) more) ∙ ap (λ t. t ++ more) (sym joined) ∙ ap (λ m. text ++ delimiter ++ m) is.1;
        balanced = parts.1;
        shortest = λ other behind same balanced.
            let past : length tokens < length other + length delimiter = none other behind same balanced in omega arith;
      };
      stripped = sym is.0;
    }

along : (rules : Rules) (delimiter : List Token) → 0 < length delimiter → (more tokens argument rest : List Token)
    → NoneWithin delimiter (tokens ++ more) (length tokens) → argument_from rules delimiter tokens more ≡ Ended argument rest
    → IsArgument delimiter (tokens ++ more) argument rest
along rules delimiter some [] tokens argument rest none e = cc
along rules delimiter some (token ∷ more) tokens argument rest none e =
    let now : List Token = tokens ++ token ∷ [] in
    let P : Judgement → Type 0 =
    λ j. judged rules delimiter now token ≡ j → outcome_by j rules delimiter tokens token more ≡ Ended argument rest
    → IsArgument delimiter (tokens ++ token ∷ more) argument rest
    in
    let by : (j : Judgement) → P j = λ j.
    elim j as P [
      | Passed ↦ λ is out. absurd (omega (arith, passed_is_undelimited rules delimiter now token is))
      | Going ↦ λ is out.
          (let Q : List Token → Type 0 = λ t. IsArgument delimiter t argument rest in
          subst Q (append_assoc tokens (token ∷ []) more)
          (along rules delimiter some more now argument rest
          (one_further delimiter tokens token more none (going_is_not_whole rules delimiter now token is)) out))
      | Found ↦ λ is out. whole_argument delimiter tokens token more argument rest none (found_is_whole rules delimiter now token is) out
      | Refused refusal ↦ λ is out. cc
    ]
    in
    by (judged rules delimiter now token) refl
    (sym (judged_outcome (judged rules delimiter now token) rules delimiter tokens token more refl) ∙ e)

pub delimited : DelimitedLaw
delimited rules delimiter tokens argument rest some e =
    along rules delimiter some tokens [] argument rest (λ other behind same balanced. omega arith) e
