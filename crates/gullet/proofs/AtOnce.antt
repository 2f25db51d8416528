-- The call of a macro without parameters, read to its end: its text is put in front at once.
use Rattle.std.specs.Prelude.{◌≡◌, refl, false, List, [], ◌∷◌, None, Ok}
use Rattle.std.proofs.Common.{ap, sym, subst, ◌∙◌, arith}
use Rattle.tokens.specs.declared.token.Token.{Token}
use Rattle.tokens.specs.declared.meaning.Macro.{Macro}
use Rattle.macro_args.specs.declared.rules.Rules.{Rules}
use Rattle.macro_args.specs.Arguments.{Complete, use_of}
use Rattle.asking.specs.Leads.{does_then, does_still}
use Rattle.asking.specs.Meaning.{Meant, still}
use Rattle.asking.specs.Seen.{Outside, Seen, DoesBeside}
use Rattle.phrases.specs.Phrases.{More, Ends}
use Rattle.gullet.specs.declared.context.Context.{Context}
use Rattle.gullet.specs.declared.unexpandable.Sought.TheVariants as sought
use Rattle.gullet.specs.declared.progress.Progress.TheVariants.{Finishing, Telling}
use Rattle.gullet.specs.declared.task.Act.TheVariants as act
use Rattle.gullet.specs.declared.task.Task.{Task}
use Rattle.gullet.specs.declared.task.Task.TheVariants as task
use Rattle.gullet.specs.declared.task.Told as told
use Rattle.gullet.specs.declared.task.Told.TheVariants.{Done}
use Rattle.gullet.specs.declared.task.Want.{Want}
use Rattle.gullet.specs.declared.task.Want.TheVariants as want
use Rattle.gullet.specs.Acts.{perform, with_text}
use Rattle.gullet.specs.Expansion.{Turned, by_want, got, inside, outcome, outermost}
use Rattle.gullet.specs.Frames.{Begins}
use Rattle.gullet.specs.Progress.{TakesUp}
use Rattle.gullet.specs.State.{State}
use Rattle.gullet.specs.Unexpandable.{expanded}
use Rattle.gullet.specs.Wants.{Taken, Was, wants, was_done, tokens_in, used_by, matching}
use Rattle.gullet.proofs.CallSteps.{behind_taken}
use Rattle.gullet.proofs.PlainSteps.{plain_takes_up}
use Rattle.gullet.proofs.Reading.{is_left, reads_start, reads_told, reads_last}

-- the macro takes no token
abbrev pub TakesNone : Macro → Type 0
TakesNone called = (rules : Rules) (tokens : List Token) → use_of rules called.params tokens ≡ Complete [] tokens

-- what is done for such a call
abbrev pub text_of : Macro → Want
text_of called = want.Act (act.Text called.body [])

module _ (name : Token) (called : Macro) (none : TakesNone called) (c : Context) where
  abbrev pub kind : Task
  kind = task.Call name called

  behind : (x : Taken) (xs : List Taken) → wants c kind (x ∷ xs) ≡ want.Gives Done None
  unfolding wants
  behind x xs =
      ap (used_by name called (was_done (x ∷ xs))) (none (matching called) (tokens_in (x ∷ xs)))
      ∙ behind_taken (text_of called) x xs

  first : text_of called ≡ wants c kind []
  unfolding wants
  first = sym (ap (used_by name called false) (none (matching called) []))

  pub plain_begins : Begins kind c (Finishing None) (text_of called)
  plain_begins = record { is = first; stands = behind; ready = tt }

pub plain_takes : TakesUp (Finishing None) (Was Done) Telling (want.Gives Done None)
plain_takes = plain_takes_up (Finishing None) Telling (Was Done) (want.Gives Done None) refl refl tt refl

module _ (o : Outside) (now : Seen) (c : Context) (s : State) where
  pub puts_text : (called : Macro) → DoesBeside {A = Turned} o now now (Ok (More (Was Done))) (with_text called.body [] s) (by_want o c s (text_of called))
  unfolding by_want perform
  puts_text called =
      let t : State = with_text called.body [] s in
      does_then o now now (perform o (act.Text called.body []) s) got now Done t t (Ok (More (Was Done)))
      (does_still o now Done t) (does_still o now (More (Was Done)) t)

  ends_plain : DoesBeside {A = Turned} o now now (Ok (Ends Done)) s (by_want o c s (want.Gives Done None))
  unfolding by_want
  ends_plain = does_still o now (Ends Done) s

-- what such a call comes to
pub plain_call : (o : Outside) (now : Seen) (context : Context) (name : Token) (called : Macro) (s : State) → TakesNone called
    → DoesBeside o now now (Ok Done) (with_text called.body [] s) (outcome o context (task.Call name called) s)
plain_call o now context name called s none =
    let d : Context = inside context (task.Call name called) in
    let t : State = with_text called.body [] s in
    let whole : Meant State told.Told = outcome o context (task.Call name called) s in
    let start = reads_start o now context (task.Call name called) s d (Finishing None) (text_of called) refl (plain_begins name called none d) in
    let next = reads_told {whole = whole} start (is_left 0 (omega arith)) now t (Was Done) Telling (want.Gives Done None) tt (puts_text o now d s called) plain_takes in
    reads_last {whole = whole} next (is_left 1 (omega arith)) now t Done [] refl (ends_plain o now d t)

-- and what stands in front is looked at
pub plain_expanded : (o : Outside) (now : Seen) (name : Token) (called : Macro) (s t : State) → TakesNone called → t ≡ with_text called.body [] s
    → DoesBeside o now now (Ok sought.Again) t (expanded o (task.Call name called) s)
plain_expanded o now name called s t none is =
    let after : State = with_text called.body [] s in
    let P : State → Type 0 = λ u. DoesBeside o now now (Ok sought.Again) u (expanded o (task.Call name called) s) in
    subst P (sym is)
    (does_then o now now (outcome o outermost (task.Call name called) s) (λ r. still (Ok (sought.Again, r.1))) now Done after after (Ok sought.Again)
    (plain_call o now outermost name called s none) (does_still o now sought.Again after))
