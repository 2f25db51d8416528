-- One thing more that is handed in: what the automaton stands for then.
use Rattle.std.proofs.Common.{◌≡◌, Bool, true, false, ◌&&◌, List, [], ◌∷◌, ◌++◌, refl, sym, ◌∙◌, ap, append_assoc}
use Rattle.scan_nums.specs.declared.int_scan.IntState.{IntState}
use Rattle.scan_nums.specs.declared.verdict.Verdict.{Verdict}
use Rattle.scan_nums.specs.Awaited.{WhileOpen}
use Rattle.scan_nums.specs.Taken.{Taken}
use Rattle.scan_nums.specs.Constants.{is_leading}
use Rattle.scan_nums.specs.WholeNumber.{whole_number, are_leading, is_accent, wants_character}
use Rattle.scan_nums.specs.IntStanding.{StateStands, StateSteps, state_rest, is_at_signs, is_at_character}
use Rattle.scan_nums.proofs.ConstantLaws.{while_open_along}

and_assoc : (a b c : Bool) → (a && (b && c)) ≡ ((a && b) && c)
and_assoc true b c = refl
and_assoc false b c = refl

and_true : (a b : Bool) → (a && b) ≡ ((a && true) && b)
and_true true b = refl
and_true false b = refl

and_last : (a : Bool) → (a && true) ≡ (true && a)
and_last true = refl
and_last false = refl

pub are_leading-append : (taken : List Taken) (x : Taken) → are_leading (taken ++ x ∷ []) ≡ (are_leading taken && is_leading x)
are_leading-append [] x = and_last (is_leading x)
are_leading-append (y ∷ ys) x =
    let F : Bool → Bool = λ b. is_leading y && b in
    ap F (are_leading-append ys x) ∙ and_assoc (is_leading y) (are_leading ys) (is_leading x)

pub wants_character-append : (taken : List Taken) (x : Taken) → wants_character (taken ++ x ∷ []) ≡ (are_leading taken && is_accent x)
wants_character-append [] x = refl
wants_character-append (y ∷ []) x = and_true (is_leading y) (is_accent x)
wants_character-append (y ∷ z ∷ zs) x =
    let F : Bool → Bool = λ b. is_leading y && b in
    ap F (wants_character-append (z ∷ zs) x) ∙ and_assoc (is_leading y) (are_leading (z ∷ zs)) (is_accent x)

-- what a state stands for, with what was handed in behind it
pub stands_behind : (before after : IntState) (x : Taken) (taken : List Taken)
    → is_at_signs after ≡ (is_at_signs before && is_leading x)
    → is_at_character after ≡ (is_at_signs before && is_accent x)
    → StateStands before taken → StateSteps before x after → StateStands after (taken ++ x ∷ [])
stands_behind before after x taken signs character stands steps =
    let S : Bool → Bool = λ b. b && is_leading x in
    let C : Bool → Bool = λ b. b && is_accent x in
    let W : List Taken → Verdict = λ l. whole_number l in
    record {
      rest = λ next more. ap W (append_assoc taken (x ∷ []) (next ∷ more)) ∙ stands.rest x (next ∷ more) ∙ steps next more;
      signs = signs ∙ ap S stands.signs ∙ sym (are_leading-append taken x);
      character = character ∙ ap C stands.signs ∙ sym (wants_character-append taken x);
    }

pub kept_behind : (verdict : Verdict) (before after : IntState) (x : Taken) (taken : List Taken)
    → is_at_signs after ≡ (is_at_signs before && is_leading x)
    → is_at_character after ≡ (is_at_signs before && is_accent x)
    → StateStands before taken → WhileOpen verdict (StateSteps before x after)
    → WhileOpen verdict (StateStands after (taken ++ x ∷ []))
kept_behind verdict before after x taken signs character stands =
    while_open_along verdict _ _ (stands_behind before after x taken signs character stands)

pub verdict_behind : (verdict : Verdict) (before : IntState) (x : Taken) (taken : List Taken)
    → verdict ≡ state_rest before x [] → StateStands before taken → verdict ≡ whole_number (taken ++ x ∷ [])
verdict_behind verdict before x taken is stands = is ∙ sym (stands.rest x [])
