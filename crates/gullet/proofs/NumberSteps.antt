-- A whole number takes something up.
use Rattle.std.proofs.Common.{◌≡◌, Bool, true, false, List, [], ◌∷◌, ◌++◌, map, Option, refl, sym, ◌∙◌, ap, subst}
use Rattle.std.proofs.lemmas.List.{map-append}
use Rattle.tokens.specs.declared.token.Token.{Token}
use Rattle.scan_nums.specs.declared.int_scan.IntScan.{IntScan}
use Rattle.scan_nums.specs.declared.verdict.Verdict.{Verdict}
use Rattle.scan_nums.specs.declared.verdict.Verdict.TheVariants as verdict
use Rattle.scan_nums.specs.Awaited.{awaited_after, WhileOpen as NumberGoesOn}
use Rattle.scan_nums.specs.IntScan.{awaits, Stands as NumberStands}
use Rattle.scan_nums.specs.Taken as scan
use Rattle.scan_nums.specs.WholeNumber.{whole_number, wants_character}
use Rattle.gullet.specs.declared.context.Context.{Context}
use Rattle.gullet.specs.declared.progress.Progress.TheVariants.{Number}
use Rattle.gullet.specs.declared.task.Task.{Task}
use Rattle.gullet.specs.declared.task.Want.{Want}
use Rattle.gullet.specs.Progress.{Stands, WhileOpen, Ready, TakesUp}
use Rattle.gullet.specs.Wants.{Taken, Tok, Got, Was, wants, scanned, last_token, number_want}

-- the last token of a longer list is that of the last thing taken
last_of : (taken : List Taken) (x : Taken) → last_token (taken ++ x ∷ []) ≡ last_token (x ∷ [])
unfolding last_token
last_of [] x = refl
last_of (Tok t m ∷ []) x = refl
last_of (Got tells ∷ []) x = refl
last_of (Was tells ∷ []) x = refl
last_of (Tok t m ∷ y ∷ ys) x = last_of (y ∷ ys) x
last_of (Got tells ∷ y ∷ ys) x = last_of (y ∷ ys) x
last_of (Was tells ∷ y ∷ ys) x = last_of (y ∷ ys) x

-- whether a character is wanted counts where a token is wanted
same_want : (v : Verdict) (S : Type 0) (a b : Bool) (last : Option Token)
    → NumberGoesOn v S → (S → a ≡ b) → number_want v a last ≡ number_want v b last
same_want verdict.Need S a b last stands same = ap (λ d. number_want verdict.Need d last) (same stands)
same_want (verdict.Ask q) S a b last stands same = refl
same_want (verdict.Sub phrase) S a b last stands same = refl
same_want (verdict.Done n) S a b last stands same = refl
same_want (verdict.DoneBefore n back) S a b last stands same = refl
same_want (verdict.Trouble kind) S a b last stands same = refl
same_want (verdict.Pass kind back) S a b last stands same = refl

-- what holds while the grammar goes on holds while the phrase does
while_open : (v : Verdict) (b : Bool) (last : Option Token) (P Q : Type 0)
    → (P → Q) → NumberGoesOn v P → WhileOpen (number_want v b last) Q
while_open verdict.Need true last P Q f h = f h
while_open verdict.Need false last P Q f h = f h
while_open (verdict.Ask q) b last P Q f h = f h
while_open (verdict.Sub phrase) b last P Q f h = tt
while_open (verdict.Done n) b last P Q f h = tt
while_open (verdict.DoneBefore n back) b last P Q f h = tt
while_open (verdict.Trouble kind) b last P Q f h = tt
while_open (verdict.Pass kind back) b last P Q f h = f h

ready : (v : Verdict) (b : Bool) (last : Option Token) (after : IntScan)
    → awaits after ≡ awaited_after v → Ready (number_want v b last) (Number after)
ready verdict.Need true last after next = next
ready verdict.Need false last after next = next
ready (verdict.Ask q) b last after next = next
ready (verdict.Sub phrase) b last after next = tt
ready (verdict.Done n) b last after next = tt
ready (verdict.DoneBefore n back) b last after next = tt
ready (verdict.Trouble kind) b last after next = tt
ready (verdict.Pass kind back) b last after next = next

-- what the automaton answers to something taken
pub record Answers (before after : IntScan) (x : scan.Taken) (v : Verdict) (b : Bool) : Type 0 where
  pub next : awaits after ≡ awaited_after v
  pub says : (taken : List scan.Taken) → NumberStands before taken → v ≡ whole_number (taken ++ x ∷ [])
  pub kept : (taken : List scan.Taken) → NumberStands before taken → NumberGoesOn v (NumberStands after (taken ++ x ∷ []))
  pub character : (taken : List scan.Taken) → NumberStands after taken → b ≡ wants_character taken

-- what the phrase wants behind it
wants_then : (before after : IntScan) (x : Taken) (v : Verdict) (b : Bool) → Answers before after (scanned x) v b
    → (c : Context) (kind : Task) (taken : List Taken) → Stands (Number before) c kind taken
    → number_want v b (last_token (x ∷ [])) ≡ wants c kind (taken ++ x ∷ [])
unfolding wants
wants_then before after x v b answers c kind taken stands =
    let all : List scan.Taken = map scanned taken ++ scanned x ∷ [] in
    let same : map scanned (taken ++ x ∷ []) ≡ all = map-append scanned taken (x ∷ []) in
    same_want v (NumberStands after all) b (wants_character all) (last_token (x ∷ [])) (answers.kept (map scanned taken) stands.1)
    (answers.character all)
    ∙ ap (λ w. number_want w (wants_character all) (last_token (x ∷ []))) (answers.says (map scanned taken) stands.1)
    ∙ ap (λ l. number_want (whole_number l) (wants_character l) (last_token (x ∷ []))) (sym same)
    ∙ ap (number_want (whole_number (map scanned (taken ++ x ∷ []))) (wants_character (map scanned (taken ++ x ∷ [])))) (sym (last_of taken x))
    ∙ ap (λ k. wants c k (taken ++ x ∷ [])) (sym stands.0)

stands_then : (before after : IntScan) (x : Taken) (v : Verdict) (b : Bool) → Answers before after (scanned x) v b
    → (c : Context) (kind : Task) (taken : List Taken) → Stands (Number before) c kind taken
    → WhileOpen (number_want v b (last_token (x ∷ []))) (Stands (Number after) c kind (taken ++ x ∷ []))
stands_then before after x v b answers c kind taken stands =
    let P : List scan.Taken → Type 0 = λ l. NumberStands after l in
    while_open v b (last_token (x ∷ [])) (NumberStands after (map scanned taken ++ scanned x ∷ []))
    (Stands (Number after) c kind (taken ++ x ∷ []))
    (λ s. (stands.0, subst P (sym (map-append scanned taken (x ∷ []))) s))
    (answers.kept (map scanned taken) stands.1)

takes_up : (before after : IntScan) (x : Taken) (v : Verdict) (b : Bool) → Answers before after (scanned x) v b
    → TakesUp (Number before) x (Number after) (number_want v b (last_token (x ∷ [])))
takes_up before after x v b answers = record {
  wants = wants_then before after x v b answers;
  stands = stands_then before after x v b answers;
  ready = ready v b (last_token (x ∷ [])) after answers.next;
}

pub number_takes_up : (before after : IntScan) (last : Option Token) (x : Taken) (seen : scan.Taken) (v : Verdict) (b : Bool) (want : Want)
    → Answers before after seen v b → seen ≡ scanned x → last ≡ last_token (x ∷ []) → want ≡ number_want v b last
    → TakesUp (Number before) x (Number after) want
number_takes_up before after last x seen v b want answers sees keeps is =
    let A : scan.Taken → Type 0 = λ s. Answers before after s v b in
    let T : Option Token → Type 0 = λ k. TakesUp (Number before) x (Number after) (number_want v b k) in
    let W : Want → Type 0 = λ w. TakesUp (Number before) x (Number after) w in
    subst W (sym is) (subst T (sym keeps) (takes_up before after x v b (subst A sees answers)))
