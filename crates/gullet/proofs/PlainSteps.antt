-- A plain step takes something up.
use Rattle.std.proofs.Common.{ℕ, ◌≡◌, true, List, [], ◌∷◌, ◌++◌, Result, Ok, Err, IfOk, refl, sym, ◌∙◌, ap, append_assoc}
use Rattle.conditionals.specs.Skipping.{Skipping}
use Rattle.scan_nums.specs.declared.int_scan.IntScan.{IntScan}
use Rattle.gullet.specs.declared.calling.Parts.{Parts}
use Rattle.gullet.specs.declared.context.Context.{Context}
use Rattle.gullet.specs.declared.progress.Progress.{Progress}
use Rattle.gullet.specs.declared.progress.Progress.TheVariants as progress
use Rattle.gullet.specs.declared.task.Task.{Task}
use Rattle.gullet.specs.declared.task.Want.{Want}
use Rattle.gullet.specs.declared.task.Want.TheVariants.{Raw, Expanded, Character, Act, Inner, Gives, Wrong}
use Rattle.gullet.specs.Progress.{rest_behind, Follows, WhileOpen, FitsToken, FitsGot, FitsWas, Ready, TakesUp, Steps, is_plain, stands-plain, follows-plain}
use Rattle.gullet.specs.Wants.{Taken, wants, token_of, meaning_of, told_of}

-- a plain step takes what comes
fits : (p : Progress) → is_plain p ≡ true → FitsToken p × FitsGot p × FitsWas p
fits (progress.Number scan) h = cc
fits (progress.Passing sought scan count) h = cc
fits (progress.Call call) h = cc
fits _ h = (tt, tt, tt)

pub plain_ready : (want : Want) (p : Progress) → is_plain p ≡ true → Ready want p
plain_ready Raw p h = (fits p h).0
plain_ready Expanded p h = (fits p h).0
plain_ready Character p h = (fits p h).0
plain_ready (Act act) p h = (fits p h).2
plain_ready (Inner inner) p h = (fits p h).1
plain_ready (Gives told back) p h = tt
plain_ready (Wrong kind) p h = tt

-- a step that takes what an inner phrase or an act told, and is of no number, is plain
abbrev pub IsNoNumber : Progress → Type 0
IsNoNumber p = (scan : IntScan) → p ≡ progress.Number scan → ⊥

pub got_is_plain : (p : Progress) → FitsGot p → IsNoNumber p → is_plain p ≡ true
got_is_plain (progress.Number scan) takes other = absurd (other scan refl)
got_is_plain (progress.Passing sought scan count) takes other = absurd takes
got_is_plain (progress.Call call) takes other = absurd takes
got_is_plain _ takes other = refl

pub was_is_plain : (p : Progress) → FitsWas p → IsNoNumber p → is_plain p ≡ true
was_is_plain (progress.Number scan) takes other = absurd (other scan refl)
was_is_plain (progress.Passing sought scan count) takes other = absurd takes
was_is_plain (progress.Call call) takes other = absurd takes
was_is_plain _ takes other = refl

-- a step that takes a token, and is of no number, no text that is passed over and no macro's call, is plain
pub token_is_plain : (p : Progress) → IsNoNumber p → ((sought : ℕ) (scan : Skipping) (count : ℕ) → p ≡ progress.Passing sought scan count → ⊥)
    → ((call : Parts) → p ≡ progress.Call call → ⊥) → is_plain p ≡ true
token_is_plain (progress.Number scan) number passing call = absurd (number scan refl)
token_is_plain (progress.Passing sought scan count) number passing call = absurd (passing sought scan count refl)
token_is_plain (progress.Call call) number passing not_call = absurd (not_call call refl)
token_is_plain _ number passing call = refl

while_open_along : (want : Want) (P Q : Type 0) → (P → Q) → WhileOpen want P → WhileOpen want Q
while_open_along Raw P Q f h = f h
while_open_along Expanded P Q f h = f h
while_open_along Character P Q f h = f h
while_open_along (Act act) P Q f h = f h
while_open_along (Inner inner) P Q f h = f h
while_open_along (Gives told back) P Q f h = tt
while_open_along (Wrong kind) P Q f h = tt

follows_behind : (before after : Progress) (x : Taken) (c : Context) (kind : Task) (taken : List Taken)
    → Follows before c kind taken → Steps before (token_of x) (meaning_of x) (told_of x) after → Follows after c kind (taken ++ x ∷ [])
follows_behind before after x c kind taken follows steps = λ y ys.
    ap (wants c kind) (append_assoc taken (x ∷ []) (y ∷ ys)) ∙ follows x (y ∷ ys) ∙ steps y ys

pub plain_takes_up : (before after : Progress) (x : Taken) (want : Want) → is_plain before ≡ true
    → want ≡ rest_behind before x [] → WhileOpen want (Steps before (token_of x) (meaning_of x) (told_of x) after)
    → is_plain after ≡ true → TakesUp before x after want
plain_takes_up before after x want plain is steps plain_after = record {
  wants = λ c kind taken stands. is ∙ sym (follows-plain before c kind taken plain stands x []);
  stands = λ c kind taken stands.
      while_open_along want _ _
      (λ s. stands-plain after c kind (taken ++ x ∷ []) plain_after
      (follows_behind before after x c kind taken (follows-plain before c kind taken plain stands) s))
      steps;
  ready = plain_ready want after plain_after;
}

-- a plain step's answer
pub step_takes_up : {E : Type 0} (before after : Progress) (x : Taken) (result : Result Want E) → is_plain before ≡ true
    → IfOk result (λ want. want ≡ rest_behind before x [])
    → IfOk result (λ want. WhileOpen want (Steps before (token_of x) (meaning_of x) (told_of x) after))
    → IfOk result (λ want. is_plain after ≡ true)
    → IfOk result (λ want. TakesUp before x after want)
step_takes_up before after x (Ok want) plain is steps plain_after = plain_takes_up before after x want plain is steps plain_after
step_takes_up before after x (Err e) plain is steps plain_after = tt
