-- Levels: what stands in front of them, and what they stand for.
use Rattle.std.proofs.Common.{◌≡◌, ℕ, ◌+◌, ◌*◌, ◌<◌, ◌≤◌, true, false, List, [], ◌∷◌, ◌++◌, ap, ◌∙◌, sym, subst, refl, length, map, take, drop, get_or, set, arith, zero, suc, length-set, length-append, append_assoc}
use Rattle.std.specs.Prelude.{Bool, reverse, nat_lt, if◌then◌else◌, Option, Some, None}
use Rattle.std.proofs.lemmas.List.{reverse-append, take_all, drop_all, drop-drop, length-drop, map-append}
use Rattle.std.proofs.lemmas.Bool.{ltb-false}
use Rattle.std.proofs.Math.Seq.{take-suc, take-suc-set, drop-cons}
use Rattle.tokens.specs.declared.token.Token.{Token}
use Rattle.tokens.specs.declared.token.Token.TheVariants.{Char, Active, Name, Arg, Frozen}
use Rattle.pending.specs.declared.level.Level.{Level}
use Rattle.pending.specs.declared.level.Level.TheVariants.{List as ListLevel, Body, Back, Source as SourceLevel}
use Rattle.pending.specs.declared.level.State.{State}
use Rattle.pending.specs.declared.level.State.TheVariants.{Ready as ReadyState, Argument, Source as SourceState, Used}
use Rattle.pending.specs.declared.source.Source.{Source}
use Rattle.pending.specs.declared.waiting.Waiting.{Waiting}
use Rattle.pending.specs.Pending.{Item, Ready, From, fresh, filled, filled_token, argument}
use Rattle.pending.specs.Levels.{joined, new_token, list_state, body_state, state_of, next_index, passed, weight, weight_of, SameItems, IsAtSource}

-- what is put at the last place comes first where the list is reversed
reverse_set : {X : Type 0} (xs : List X) (new y : X) → reverse (set (xs ++ new ∷ []) (length xs) y) ≡ y ∷ reverse xs
reverse_set {X} xs new y =
    let all : List X = xs ++ new ∷ [] in
    let n : ℕ = length xs in
    let long : length all ≡ n + 1 = length-append xs (new ∷ []) in
    let whole : take (suc n) (set all n y) ≡ set all n y = take_all (suc n) (set all n y) (omega (arith, length-set all n y)) in
    ap reverse (sym whole ∙ take-suc-set all n y (omega arith)) ∙ reverse-append (take n all) (y ∷ []) ∙ ap (λ (zs : List X). y ∷ reverse zs) (front xs)
  where
    front : (ys : List X) → take (length ys) (ys ++ new ∷ []) ≡ ys
    front [] = refl
    front (z ∷ ys) = ap (λ (zs : List X). z ∷ zs) (front ys)

-- a place at the end takes what stood in front of it
pub reversed_swap : {X : Type 0} (xs ys : List X) (new y z : X) (n : ℕ) → ys ≡ xs ++ new ∷ [] → n ≡ length xs → z ≡ y
    → reverse (set ys n z) ≡ y ∷ reverse xs
reversed_swap {X} xs ys new y z n pushed last same =
    ap (λ (all : List X). reverse (set all n z)) pushed
    ∙ ap (λ (k : ℕ). reverse (set (xs ++ new ∷ []) k z)) last
    ∙ reverse_set xs new z ∙ ap (λ (w : X). w ∷ reverse xs) same

-- the tokens behind the next index
drop-next_index : (at : ℕ) (tokens : List Token) → drop (next_index at tokens) tokens ≡ drop 1 (drop at tokens)
drop-next_index at tokens = by_test (nat_lt at (length tokens)) refl
  where
    by_test : (b : Bool) → nat_lt at (length tokens) ≡ b → drop (if b then at + 1 else at) tokens ≡ drop 1 (drop at tokens)
    by_test true e = sym (drop-drop 1 at tokens)
    by_test false e =
        let none : drop at tokens ≡ [] = drop_all at tokens (ltb-false at (length tokens) e) in
        none ∙ ap (drop 1) (sym none)

-- a head decides what stands in front
pub body_state-head : (token : Token) (tokens : List Token) → body_state (token ∷ tokens) ≡ body_state (token ∷ [])
body_state-head (Char cat byte) tokens = refl
body_state-head (Active byte) tokens = refl
body_state-head (Name id) tokens = refl
body_state-head (Arg number) tokens = refl
body_state-head (Frozen number) tokens = refl

-- a level that is used up stands for nothing
used_list : (tokens : List Token) (items : List Item) → list_state tokens ≡ Used → map fresh tokens ++ items ≡ items
used_list [] items e = refl
used_list (token ∷ tokens) items e = cc

used_body : (arguments : List (List Token)) (body : List Token) (items : List Item) → body_state body ≡ Used
    → map fresh (filled arguments body) ++ items ≡ items
used_body arguments [] items e = refl
used_body arguments (Char cat byte ∷ body) items e = cc
used_body arguments (Active byte ∷ body) items e = cc
used_body arguments (Name id ∷ body) items e = cc
used_body arguments (Arg number ∷ body) items e = cc
used_body arguments (Frozen number ∷ body) items e = cc

pub joined-used : (level : Level) (levels : List Level) (sources : List Source) → state_of level ≡ Used
    → joined (level ∷ levels) sources ≡ joined levels sources
joined-used (ListLevel tokens at) levels sources e = used_list (drop at tokens) (joined levels sources) e
joined-used (Body body arguments at) levels sources e = used_body arguments.items (drop at body) (joined levels sources) e
joined-used (Back waiting) levels sources e = cc
joined-used SourceLevel levels sources e = cc

-- a level with a token ready stands for that token in front of the rest
ready_list : (waiting : Waiting) (tokens : List Token) (items : List Item) → list_state tokens ≡ ReadyState waiting
    → map fresh tokens ++ items ≡ Ready waiting ∷ (map fresh (drop 1 tokens) ++ items)
ready_list waiting [] items e = cc
ready_list waiting (token ∷ tokens) items e =
    let same : new_token token ≡ waiting = cc in
    ap (λ w. Ready w ∷ (map fresh tokens ++ items)) same

ready_token : (arguments : List (List Token)) (waiting : Waiting) (token : Token) (body : List Token) (items : List Item)
    → filled_token arguments token ≡ token ∷ [] → ReadyState (new_token token) ≡ ReadyState waiting
    → map fresh (filled arguments (token ∷ body)) ++ items ≡ Ready waiting ∷ (map fresh (filled arguments body) ++ items)
ready_token arguments waiting token body items one e =
    let same : new_token token ≡ waiting = cc in
    ap (λ (tokens : List Token). map fresh (tokens ++ filled arguments body) ++ items) one
    ∙ ap (λ w. Ready w ∷ (map fresh (filled arguments body) ++ items)) same

ready_body : (arguments : List (List Token)) (waiting : Waiting) (body : List Token) (items : List Item) → body_state body ≡ ReadyState waiting
    → map fresh (filled arguments body) ++ items ≡ Ready waiting ∷ (map fresh (filled arguments (drop 1 body)) ++ items)
ready_body arguments waiting [] items e = cc
ready_body arguments waiting (Char cat byte ∷ body) items e = ready_token arguments waiting (Char cat byte) body items refl e
ready_body arguments waiting (Active byte ∷ body) items e = ready_token arguments waiting (Active byte) body items refl e
ready_body arguments waiting (Name id ∷ body) items e = ready_token arguments waiting (Name id) body items refl e
ready_body arguments waiting (Arg number ∷ body) items e = cc
ready_body arguments waiting (Frozen number ∷ body) items e = ready_token arguments waiting (Frozen number) body items refl e

pub joined-ready : (waiting : Waiting) (level : Level) (levels : List Level) (sources : List Source) → state_of level ≡ ReadyState waiting
    → joined (level ∷ levels) sources ≡ Ready waiting ∷ joined (passed level ∷ levels) sources
joined-ready waiting (ListLevel tokens at) levels sources e =
    ready_list waiting (drop at tokens) (joined levels sources) e
    ∙ ap (λ (rest : List Token). Ready waiting ∷ (map fresh rest ++ joined levels sources)) (sym (drop-next_index at tokens))
joined-ready waiting (Body body arguments at) levels sources e =
    ready_body arguments.items waiting (drop at body) (joined levels sources) e
    ∙ ap (λ (rest : List Token). Ready waiting ∷ (map fresh (filled arguments.items rest) ++ joined levels sources)) (sym (drop-next_index at body))
joined-ready waiting (Back w) levels sources e =
    let same : w ≡ waiting = cc in
    ap (λ v. Ready v ∷ joined levels sources) same
joined-ready waiting SourceLevel levels sources e = cc

-- an argument stands for its tokens in front of the rest
argument_body : (arguments : List (List Token)) (number : ℕ) (body : List Token) (items : List Item) → body_state body ≡ Argument number
    → map fresh (filled arguments body) ++ items
    ≡ map fresh (argument arguments number) ++ (map fresh (filled arguments (drop 1 body)) ++ items)
argument_body arguments number [] items e = cc
argument_body arguments number (Char cat byte ∷ body) items e = cc
argument_body arguments number (Active byte ∷ body) items e = cc
argument_body arguments number (Name id ∷ body) items e = cc
argument_body arguments number (Arg n ∷ body) items e =
    let same : n ≡ number = cc in
    ap (λ k. map fresh (argument arguments k ++ filled arguments body) ++ items) same
    ∙ ap (λ (all : List Item). all ++ items) (map-append fresh (argument arguments number) (filled arguments body))
    ∙ append_assoc (map fresh (argument arguments number)) (map fresh (filled arguments body)) items
argument_body arguments number (Frozen n ∷ body) items e = cc

argument_list : (number : ℕ) (tokens : List Token) → list_state tokens ≡ Argument number → ⊥
argument_list number [] e = cc
argument_list number (token ∷ tokens) e = cc

-- the tokens of an argument of a level
abbrev pub argument_tokens : Level → ℕ → List Token
argument_tokens (ListLevel tokens at) number = []
argument_tokens (Body body arguments at) number = argument arguments.items number
argument_tokens (Back waiting) number = []
argument_tokens SourceLevel number = []

pub joined-argument : (number : ℕ) (level : Level) (levels : List Level) (sources : List Source) → state_of level ≡ Argument number
    → joined (ListLevel (argument_tokens level number) 0 ∷ passed level ∷ levels) sources ≡ joined (level ∷ levels) sources
joined-argument number (ListLevel tokens at) levels sources e = absurd (argument_list number (drop at tokens) e)
joined-argument number (Body body arguments at) levels sources e =
    let tokens : List Token = argument arguments.items number in
    ap (λ (rest : List Token). map fresh tokens ++ (map fresh (filled arguments.items rest) ++ joined levels sources)) (drop-next_index at body)
    ∙ sym (argument_body arguments.items number (drop at body) (joined levels sources) e)
joined-argument number (Back w) levels sources e = cc
joined-argument number SourceLevel levels sources e = cc

-- the tokens that are left of the text get fewer
argument_length : (number : ℕ) (body : List Token) → body_state body ≡ Argument number → length body ≡ length (drop 1 body) + 1
argument_length number [] e = cc
argument_length number (token ∷ body) e = omega arith

pub weight-argument : (number : ℕ) (level : Level) → state_of level ≡ Argument number → weight (passed level) + 2 ≡ weight level
weight-argument number (ListLevel tokens at) e = absurd (argument_list number (drop at tokens) e)
weight-argument number (Body body arguments at) e =
    let less : length (drop at body) ≡ length (drop 1 (drop at body)) + 1 = argument_length number (drop at body) e in
    let same : length (drop (next_index at body) body) ≡ length (drop 1 (drop at body)) = ap length (drop-next_index at body) in
    omega arith
weight-argument number (Back w) e = cc
weight-argument number SourceLevel e = cc

pub weight-some : (level : Level) → 1 ≤ weight level
weight-some (ListLevel tokens at) = omega arith
weight-some (Body body arguments at) = omega arith
weight-some (Back w) = omega arith
weight-some SourceLevel = omega arith

-- an argument that becomes a level of its own, before what is left of the text
pub enter-same : (number : ℕ) (top passed_top new : Level) (levels below : List Level) → state_of top ≡ Argument number
    → passed_top ≡ passed top → new ≡ ListLevel (argument_tokens top number) 0 → below ≡ passed_top ∷ levels
    → SameItems (top ∷ levels) (new ∷ below)
enter-same number top passed_top new levels below is_argument is_passed is_new is_below sources =
    ap (λ (l : Level). joined (l ∷ below) sources) is_new
    ∙ ap (λ (ls : List Level). joined (ListLevel (argument_tokens top number) 0 ∷ ls) sources) is_below
    ∙ ap (λ (l : Level). joined (ListLevel (argument_tokens top number) 0 ∷ l ∷ levels) sources) is_passed
    ∙ joined-argument number top levels sources is_argument

-- the same where nothing is left of the text
pub enter-used : (number : ℕ) (top passed_top new : Level) (levels : List Level) → state_of top ≡ Argument number
    → passed_top ≡ passed top → new ≡ ListLevel (argument_tokens top number) 0 → state_of passed_top ≡ Used
    → SameItems (top ∷ levels) (new ∷ levels)
enter-used number top passed_top new levels is_argument is_passed is_new used sources =
    ap (λ (l : Level). joined (l ∷ levels) sources) is_new
    ∙ ap (λ (items : List Item). map fresh (argument_tokens top number) ++ items)
    (sym (ap (λ (l : Level). joined (l ∷ levels) sources) (sym is_passed) ∙ joined-used passed_top levels sources used))
    ∙ joined-argument number top levels sources is_argument

pub enter-less : (number : ℕ) (top passed_top new : Level) (levels below : List Level) → state_of top ≡ Argument number
    → passed_top ≡ passed top → new ≡ ListLevel (argument_tokens top number) 0 → below ≡ passed_top ∷ levels
    → weight_of (new ∷ below) < weight_of (top ∷ levels)
enter-less number top passed_top new levels below is_argument is_passed is_new is_below =
    let less : weight (passed top) + 2 ≡ weight top = weight-argument number top is_argument in
    let one : weight new ≡ 1 = ap weight is_new in
    let rest : weight_of below ≡ weight (passed top) + weight_of levels =
    ap weight_of is_below ∙ ap (λ (l : Level). weight l + weight_of levels) is_passed in
    omega arith

pub enter-used_less : (number : ℕ) (top new : Level) (levels : List Level) → state_of top ≡ Argument number
    → new ≡ ListLevel (argument_tokens top number) 0
    → weight_of (new ∷ levels) < weight_of (top ∷ levels)
enter-used_less number top new levels is_argument is_new =
    let less : weight (passed top) + 2 ≡ weight top = weight-argument number top is_argument in
    let one : weight new ≡ 1 = ap weight is_new in
    omega arith

-- where a source is next, it stands in front of what is left behind its mark
source_list : (tokens : List Token) (below : List Level) (source : Source) (sources : List Source) → IsAtSource (list_state tokens) below
    → map fresh tokens ++ joined below (source ∷ sources) ≡ From source ∷ joined below sources
source_list [] [] source sources h = refl
source_list [] (level ∷ below) source sources h = absurd h
source_list (token ∷ tokens) below source sources h = absurd h

source_body : (arguments : List (List Token)) (body : List Token) (below : List Level) (source : Source) (sources : List Source)
    → IsAtSource (body_state body) below
    → map fresh (filled arguments body) ++ joined below (source ∷ sources) ≡ From source ∷ joined below sources
source_body arguments [] [] source sources h = refl
source_body arguments [] (level ∷ below) source sources h = absurd h
source_body arguments (Char cat byte ∷ body) below source sources h = absurd h
source_body arguments (Active byte ∷ body) below source sources h = absurd h
source_body arguments (Name id ∷ body) below source sources h = absurd h
source_body arguments (Arg number ∷ body) below source sources h = absurd h
source_body arguments (Frozen number ∷ body) below source sources h = absurd h

pub joined-source : (top : Level) (below : List Level) (source : Source) (sources : List Source) → IsAtSource (state_of top) below
    → joined (top ∷ below) (source ∷ sources) ≡ From source ∷ joined below sources
joined-source (ListLevel tokens at) below source sources h = source_list (drop at tokens) below source sources h
joined-source (Body body arguments at) below source sources h = source_body arguments.items (drop at body) below source sources h
joined-source (Back w) below source sources h = absurd h
joined-source SourceLevel below source sources h = refl

-- without a source nothing is left
none_list : (tokens : List Token) (below : List Level) → IsAtSource (list_state tokens) below → map fresh tokens ++ joined below [] ≡ []
none_list [] [] h = refl
none_list [] (level ∷ below) h = absurd h
none_list (token ∷ tokens) below h = absurd h

none_body : (arguments : List (List Token)) (body : List Token) (below : List Level) → IsAtSource (body_state body) below
    → map fresh (filled arguments body) ++ joined below [] ≡ []
none_body arguments [] [] h = refl
none_body arguments [] (level ∷ below) h = absurd h
none_body arguments (Char cat byte ∷ body) below h = absurd h
none_body arguments (Active byte ∷ body) below h = absurd h
none_body arguments (Name id ∷ body) below h = absurd h
none_body arguments (Arg number ∷ body) below h = absurd h
none_body arguments (Frozen number ∷ body) below h = absurd h

pub joined-none : (top : Level) (below : List Level) → IsAtSource (state_of top) below → joined (top ∷ below) [] ≡ []
joined-none (ListLevel tokens at) below h = none_list (drop at tokens) below h
joined-none (Body body arguments at) below h = none_body arguments.items (drop at body) below h
joined-none (Back w) below h = absurd h
joined-none SourceLevel below h = refl
